-- `resource_manager::boards::resource_manager_board_answer` meets its contract. Assumes nothing.
use mathlib.Core.Path.{ap, ◌∙◌}
use Rattle.definition.specs.Lookup.{Reply}
use Rattle.definition.specs.Board.{Found}
use Rattle.board_codes.specs.Codes.{answer_numbers}
use Rattle.board_answers.proofs.Answers.{answer_small}
use Rattle.resource_manager.proofs.boards.resource_manager_board_answer.Goals as goal

pub answer_code-requires : goal.answer_code-requires
answer_code-requires c = answer_small _ _ c.answer-found.result c.answer-found.ensures

pub returns : goal.returns
returns c = c.answer_code.ensures ∙ ap (λ (x : Reply Found). answer_numbers x c.args.pack.now) c.answer-found.ensures
