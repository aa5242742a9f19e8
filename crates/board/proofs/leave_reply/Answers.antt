-- `board::leave_reply` meets its contract. Assumes nothing.
use Rattle.std.proofs.lemmas.Result.{err_from_is_err_and}
use Rattle.definition.specs.Board.{leave, lent}
use Rattle.board.proofs.Calling.{answer_away}
use Rattle.board.proofs.leave_reply.Goals as goal

pub returns-in_err-board : goal.returns-in_err-board
returns-in_err-board c =
    let p = err_from_is_err_and c.from_residual.result c.from_residual.ensures.1 in
    rw (p.1, p.2) (answer_away (leave c.args.number) (lent c.args.words.now c.args.bytes.now) _ c.in_err-board.ensures)

pub returns-in_err-leaving_slot : goal.returns-in_err-leaving_slot
returns-in_err-leaving_slot c =
    let p = err_from_is_err_and c.from_residual-in_err-leaving_slot.result c.from_residual-in_err-leaving_slot.ensures.1 in
    rw (p.1, p.2) (rw c.in_ok-board.ensures at c.in_err-leaving_slot.ensures.reply)

pub returns : goal.returns
returns c = rw c.in_ok-board.ensures at c.in_ok-leaving_slot.ensures.reply
