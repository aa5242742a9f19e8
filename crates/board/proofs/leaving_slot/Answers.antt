-- `board::leaving_slot` meets its contract. Assumes nothing.
use mathlib.Core.Path.{refl, ◌∙◌}
use native.Mathlib.Omega.{arith}
use Rattle.definition.specs.Board.{leave}
use Rattle.board_laws.proofs.Calls.{laid}
use Rattle.board_layout.specs.Laid.{lent_of}
use Rattle.board.proofs.Calling.{answer_on, number_found, leave_zero, leave_told, slot_told}
use Rattle.board.proofs.leaving_slot.Goals as goal

pub returns-then-number-eq0-clause-reply : goal.returns-then-number-eq0-clause-reply
returns-then-number-eq0-clause-reply c =
    let l = lent_of c.args.board.buffers in
    leave_zero l c.args.number c.if-number-eq0.true ∙ answer_on (leave c.args.number) l c.args.board.is_one

pub slot_of-requires : goal.slot_of-requires
slot_of-requires c =
    (omega (arith, c.pack_count.ensures.0, (laid (lent_of c.args.board.buffers) c.args.board.is_one).packs_most), c.args.board.buffers.words_long)

pub returns-clause-reply : goal.returns-clause-reply
returns-clause-reply c =
    let l = lent_of c.args.board.buffers in
    rw c.ok_or.ensures.value
    (leave_told l c.args.number c.args.board.is_one c.if-number-eq0.false (number_found l c.args.board.buffers c.args.number _ refl c.pack_count.ensures.0 refl) _ _ c.slot_of.ensures)

pub returns-clause-slot : goal.returns-clause-slot
returns-clause-slot c =
    let e = c.pack_count.ensures.0 in
    rw c.ok_or.ensures.value (slot_told _ _ _ (rw e at c.slot_of.ensures))
