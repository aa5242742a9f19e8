-- `key_judge::all_links` meets its contract. The invariant: the pairs before `at` may stand. Assumes nothing.
use mathlib.Core.Path.{refl}
use Prim.Native.Nat.{ℕ, ◌+◌, ◌-◌}
use native.Mathlib.Omega.{arith}
use lib.ListN.{length, get_or}
use borrow.Author.Tests.{not-false}
use Rattle.laws.proofs.Lists.{not_both}
use Rattle.key_judge.specs.Pairs.{may_follow}
use Rattle.key_judge.proofs.Pairs.{run_next}
use Rattle.key_judge.proofs.all_links.Goals as goal

pub loop-at-init : goal.loop-at-init
loop-at-init c = λ j h. absurd (omega arith)

pub returns-then-not-run_links : goal.returns-then-not-run_links
returns-then-not-run_links c = λ e. absurd (not_both e refl)

pub loop-at-preserved : goal.loop-at-preserved
loop-at-preserved c =
    run_next (λ (j : ℕ). may_follow (get_or c.args.key.now j 0) (get_or c.args.key.now (j + 1) 0)) c.loop-at.at c.loop-at.at 16 (omega arith) c.loop-at.invariant
    (c.run_links.ensures (not-false _ c.if-not-run_links.false-raw))

pub returns : goal.returns
returns c =
    λ e j h.
    run_next (λ (j : ℕ). may_follow (get_or c.args.key.now j 0) (get_or c.args.key.now (j + 1) 0)) c.loop-at.at (length c.args.key.now - 17) 16 c.loop-at-test.false c.loop-at.invariant
    (c.run_links-2.ensures e) j (omega (arith, c.requires, h))
