-- `positions::same_text` meets its contract: from byte i on the two are the same just where they are from the start. Assumes nothing.
use mathlib.Core.Path.{◌≡◌}
use Prim.Native.Nat.{◌≤◌}
use lib.ListN.{length, drop}
use Rattle.definition.specs.Lists.{same}
use Rattle.positions.proofs.same_text.Given as goal

abbrev pub invariant-loop-i : goal.invariant-loop-i
invariant-loop-i l = (l.i ≤ length l.a) × (length l.a ≡ length l.b) × (same (drop l.i l.a) (drop l.i l.b) ≡ same l.a l.b)
