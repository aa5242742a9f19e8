-- `key::part_end` meets its contract: the run from `at` on ends where the run from i on ends. Assumes nothing.
use mathlib.Core.Path.{◌≡◌}
use Prim.Native.Nat.{◌+◌, ◌≤◌}
use lib.ListN.{length, drop}
use Rattle.definition.specs.Lists.{take_while}
use Rattle.key.specs.Keys.{not_binding}
use Rattle.key.proofs.part_end.Given as goal

abbrev pub invariant-loop-i : goal.invariant-loop-i
invariant-loop-i l = (l.at ≤ l.i) × (l.i ≤ length l.key) × (l.at + length (take_while not_binding (drop l.at l.key)) ≡ l.i + length (take_while not_binding (drop l.i l.key)))
