-- `board_answers::answer_all` meets its contract. Assumes nothing.
use mathlib.Core.Path.{ap, ◌∙◌}
use Rattle.definition.specs.Board.{Lent, lent, board_answers}
use Rattle.board_layout.specs.Laid.{lent_of}
use Rattle.board_answers.specs.Numbers.{all_numbers}
use Rattle.board_answers.proofs.Answers.{all_away, all_given}
use Rattle.board_answers.proofs.answer_all.Goals as goal

pub returns-in-Err : goal.returns-in-Err
returns-in-Err c = rw c.from.ensures (all_away (lent c.args.words.now c.args.bytes.now) _ _ _ c.in-Err.ensures)

pub returns-in-Ok : goal.returns-in-Ok
returns-in-Ok c =
    rw c.query_count.ensures.0 (all_given (lent_of c.in-Ok.board.buffers) _ _ c.in-Ok.board.is_one _ _ c.put_answers.ensures.0 c.put_answers.ensures.1)
    ∙ ap (λ (l : Lent). all_numbers (board_answers l) c.args.answers.now c.args.packs.now) c.in-Ok.ensures
