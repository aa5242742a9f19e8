-- `key_judge::all_links` meets its contract. The invariant: the pairs before `at` may stand. Assumes nothing.
use mathlib.Core.Bool.{true}
use mathlib.Core.Path.{◌≡◌}
use Prim.Native.Nat.{ℕ, ◌+◌, ◌-◌, ◌<◌}
use lib.ListN.{get_or}
use Rattle.key_judge.specs.Pairs.{may_follow}
use Rattle.key_judge.proofs.all_links.Given as goal

abbrev pub invariant-loop-at : goal.invariant-loop-at
invariant-loop-at l = (j : ℕ) → j < l.at → may_follow (get_or l.key j 0) (get_or l.key (j + 1) 0) ≡ true

abbrev pub decreases-loop-at : goal.decreases-loop-at
decreases-loop-at l = l.last - l.at
