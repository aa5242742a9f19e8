-- `values::parse_value` meets its contract. The invariant is `Decoding`, and it holds behind each run too. Assumes nothing.
use Prim.Native.Nat.{◌-◌}
use lib.ListN.{length}
use Rattle.values.proofs.Decoding.{Decoding}
use Rattle.values.proofs.parse_value.Given as goal

abbrev pub invariant-loop-i : goal.invariant-loop-i
invariant-loop-i l = Decoding l.text l.initial.store l.at l.store l.end l.i

abbrev pub decreases-loop-i : goal.decreases-loop-i
decreases-loop-i l = length l.text - l.i
