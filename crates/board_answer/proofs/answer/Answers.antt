-- `board_answer::answer` meets its contract. Assumes nothing.
use mathlib.Core.Path.{sym, ap, ◌∙◌}
use Rattle.std.proofs.lemmas.Result.{err_from_is_err_and}
use Rattle.definition.specs.Board.{Lent, lent, watched_answer, board_in}
use Rattle.board_laws.proofs.Histories.{answered}
use Rattle.board_judge.proofs.Judging.{held}
use Rattle.board_answer.proofs.Answering.{answer_away}
use Rattle.board_answer.proofs.answer.Goals as goal

pub returns-in_err-board : goal.returns-in_err-board
returns-in_err-board c =
    let l : Lent = lent c.args.words.now c.args.bytes.now in
    let p = err_from_is_err_and c.from_residual.result c.from_residual.ensures.1 in
    rw (p.1, p.2) (answer_away l c.args.q _ c.in_err-board.ensures)

pub returns : goal.returns
returns c =
    let l : Lent = lent c.args.words.now c.args.bytes.now in
    c.watched.ensures ∙ ap (λ (o : Lent). watched_answer (board_in o) c.args.q) c.in_ok-board.ensures ∙ sym (answered l (held c.in_ok-board.board l c.in_ok-board.ensures) c.args.q)
