-- `board_judge::is_slot` meets its contract. Assumes nothing.
use mathlib.Core.Path.{sym, ◌∙◌}
use Rattle.definition.specs.Board.{slot_at}
use Rattle.board_layout.specs.Laid.{lent_of}
use Rattle.board_judge.proofs.Judging.{slot_zero, slot_twice, slot_judged}
use Rattle.board_judge.proofs.is_slot.Goals as goal

pub returns-then-slot-eq0 : goal.returns-then-slot-eq0
returns-then-slot-eq0 c = sym (slot_zero (lent_of c.args.buffers) c.args.i c.args.count cc)

pub returns-then-has_number : goal.returns-then-has_number
returns-then-has_number c = sym (slot_twice (lent_of c.args.buffers) c.args.i c.args.count cc)

pub returns : goal.returns
unfolding slot_at
returns c =
    let parts = rw (c.slot_at-slot.ensures.contents, c.slot_at-slot.ensures.bodies) at c.is_image.ensures in
    parts ∙ sym (slot_judged (lent_of c.args.buffers) c.args.i c.args.count (λ z. absurd (c.if-slot-eq0.false (c.slot_at-slot.ensures.number ∙ z))) cc)
