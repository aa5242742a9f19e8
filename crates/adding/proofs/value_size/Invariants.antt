-- `adding::value_size` meets its contract. The invariant: the bytes so far and those that the text from here on gives. Assumes nothing.
use Prim.Native.Nat.{◌-◌}
use lib.ListN.{length}
use Rattle.adding.proofs.Sizes.{Measuring}
use Rattle.adding.proofs.value_size.Given as goal

abbrev pub invariant-loop-i : goal.invariant-loop-i
invariant-loop-i l = Measuring l.text l.size l.i

abbrev pub decreases-loop-i : goal.decreases-loop-i
decreases-loop-i l = length l.text - l.i
