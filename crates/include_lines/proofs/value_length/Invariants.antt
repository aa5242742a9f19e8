-- `include_lines::value_length` meets its contract. The invariant: what follows the value is the same from here on. Assumes nothing.
use Prim.Native.Nat.{◌-◌}
use lib.ListN.{length}
use Rattle.include_lines.proofs.Passing.{Passing}
use Rattle.include_lines.proofs.value_length.Given as goal

abbrev pub invariant-loop-n : goal.invariant-loop-n
invariant-loop-n l = Passing l.text l.i

abbrev pub decreases-loop-n : goal.decreases-loop-n
decreases-loop-n l = length l.text - l.i
