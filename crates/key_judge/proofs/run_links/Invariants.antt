-- `key_judge::run_links` meets its contract. The invariant: if nothing was found amiss, the pairs passed may stand. Assumes nothing.
use mathlib.Core.Bool.{true}
use mathlib.Core.Path.{◌≡◌}
use Prim.Native.Nat.{ℕ, ◌+◌, ◌≤◌, ◌<◌}
use lib.ListN.{get_or}
use Rattle.key_judge.specs.Pairs.{may_follow}
use Rattle.key_judge.proofs.run_links.Given as goal

abbrev pub invariant-loop-i : goal.invariant-loop-i
invariant-loop-i l = (l.i ≤ 16) × (l.links ≡ true → (j : ℕ) → j < l.i → may_follow (get_or l.key (l.at + j) 0) (get_or l.key (l.at + j + 1) 0) ≡ true)
