-- `plain_keys::plain_key` meets its contract. Assumes nothing.
use Prim.Native.Nat.{◌-◌}
use lib.ListN.{length}
use Rattle.plain_keys.proofs.Keys.{Keying}
use Rattle.plain_keys.proofs.plain_key.Given as goal

abbrev pub invariant-loop-start : goal.invariant-loop-start
invariant-loop-start l = Keying l.text l.extra l.count l.start l.i

abbrev pub decreases-loop-start : goal.decreases-loop-start
decreases-loop-start l = length l.text - l.i
