-- `board_judge::are_slots` meets its contract. The invariant: the slots from i on decide. Assumes nothing.
use mathlib.Core.Path.{◌≡◌}
use Prim.Native.Nat.{◌-◌}
use Rattle.definition.specs.Board.{each, slot_at, are_slots}
use Rattle.board_layout.specs.Laid.{lent_of}
use Rattle.board_judge.proofs.are_slots.Given as goal

abbrev pub invariant-loop-i : goal.invariant-loop-i
invariant-loop-i l = are_slots (each (slot_at (lent_of l.buffers)) l.i (l.count - l.i)) ≡ are_slots (each (slot_at (lent_of l.buffers)) 0 l.count)
