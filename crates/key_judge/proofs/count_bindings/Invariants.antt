-- `key_judge::count_bindings` meets its contract. The invariant: those counted and those left are all. Assumes nothing.
use mathlib.Core.Path.{◌≡◌}
use Prim.Native.Nat.{◌+◌, ◌≤◌}
use lib.ListN.{drop}
use Rattle.key_judge.specs.Pairs.{bindings_in}
use Rattle.key_judge.proofs.count_bindings.Given as goal

abbrev pub invariant-loop-c : goal.invariant-loop-c
invariant-loop-c l = (l.n ≤ l.c-index) × (l.n + bindings_in (drop l.c-index l.key) ≡ bindings_in l.key)
