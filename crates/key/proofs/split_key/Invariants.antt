-- `key::split_key` meets its contract. The invariant is `Bounding`. Assumes nothing.
use Prim.Native.Nat.{◌-◌}
use lib.ListN.{length}
use Rattle.key.proofs.Bounding.{Bounding}
use Rattle.key.proofs.split_key.Given as goal

abbrev pub invariant-loop-at : goal.invariant-loop-at
invariant-loop-at l = Bounding l.key l.initial.bounds l.bounds l.count l.at

abbrev pub decreases-loop-at : goal.decreases-loop-at
decreases-loop-at l = length l.key - l.at
