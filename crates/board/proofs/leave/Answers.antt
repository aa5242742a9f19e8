-- `board::leave` meets its contract. Assumes nothing.
use mathlib.Core.Path.{◌∙◌}
use native.Mathlib.Omega.{arith}
use Rattle.std.proofs.lemmas.Result.{err_from_is_err_and}
use Rattle.definition.specs.Board.{leave, Lent, lent}
use Rattle.board_laws.proofs.Calls.{laid}
use Rattle.board_laws.proofs.Histories.{leave_passed}
use Rattle.board.proofs.Calling.{call_refused, call_board, call_given}
use Rattle.board.proofs.Writing.{pack_gone, gone_inside}
use Rattle.board.proofs.leave.Goals as goal

pub returns-in_err-n : goal.returns-in_err-n
returns-in_err-n c =
    let l : Lent = lent c.args.words.now c.args.bytes.now in
    let p = err_from_is_err_and c.from_residual.result c.from_residual.ensures.1 in
    rw (p.1, p.2) (call_refused (leave c.args.number) l _ c.in_err-n.ensures)

pub bounds-words-0 : goal.bounds-words-0
bounds-words-0 c =
    let l : Lent = lent c.args.words.now c.args.bytes.now in
    let b = call_board (leave _) l _ c.in_ok-n.ensures in
    omega (arith, (laid l b.0).words_long)

pub slots_before-i-requires : goal.slots_before-i-requires
slots_before-i-requires c =
    let l : Lent = lent c.args.words.now c.args.bytes.now in
    let b = call_board (leave _) l _ c.in_ok-n.ensures in
    let h = laid l b.0 in
    (h.packs_most, h.words_long)

pub drop_slot-requires : goal.drop_slot-requires
drop_slot-requires c =
    let l : Lent = lent c.args.words.now c.args.bytes.now in
    let b = call_board (leave c.args.number) l _ c.in_ok-n.ensures in
    let h = laid l b.0 in
    let p = leave_passed l h c.args.number _ b.1 in
    (record { words_long = h.words_long; bytes_long = h.bytes_long }, gone_inside l c.args.number h p _ c.slots_before-i.ensures, h.packs_most)

pub returns : goal.returns
returns c =
    let l : Lent = lent c.args.words.now c.args.bytes.now in
    call_given (leave c.args.number) l _ c.in_ok-n.ensures _ (c.drop_slot.ensures ∙ pack_gone l c.args.number _ c.slots_before-i.ensures)
