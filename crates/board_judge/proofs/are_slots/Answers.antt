-- `board_judge::are_slots` meets its contract. The invariant: the slots from i on decide. Assumes nothing.
use mathlib.Core.Bool.{false, true}
use mathlib.Core.Path.{◌≡◌, sym, ap, ◌∙◌}
use Prim.Native.Nat.{ℕ}
use native.Mathlib.Omega.{arith}
use native.Mathlib.Nat.{sub-zero}
use Rattle.definition.specs.Board.{each, slot_at, are_slots}
use Rattle.board_layout.specs.Laid.{lent_of}
use Rattle.board_judge.specs.Slots.{slot_holds}
use Rattle.board_judge.proofs.Judging.{slot_on, slot_stops, slots_end}
use Rattle.board_judge.proofs.are_slots.Goals as goal

pub loop-i-init : goal.loop-i-init
loop-i-init c = ap (λ (n : ℕ). are_slots (each (slot_at (lent_of c.args.buffers)) 0 n)) (sub-zero c.args.count)

pub returns-then-not-is_slot : goal.returns-then-not-is_slot
returns-then-not-is_slot c =
    let none : slot_holds (lent_of c.args.buffers) c.loop-i.i c.args.count ≡ false = cc in
    let stops = slot_stops (lent_of c.args.buffers) c.loop-i.i c.args.count (omega arith) none in
    cc

pub loop-i-preserved : goal.loop-i-preserved
loop-i-preserved c =
    let one : slot_holds (lent_of c.args.buffers) c.loop-i.i c.args.count ≡ true = cc in
    sym (slot_on (lent_of c.args.buffers) c.loop-i.i c.args.count (omega arith) one) ∙ c.loop-i.invariant

pub returns : goal.returns
returns c = sym (sym c.loop-i.invariant ∙ slots_end (lent_of c.args.buffers) c.loop-i.i c.args.count (omega arith))
