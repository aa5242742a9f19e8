-- `key_judge::run_links` meets its contract. The invariant: if nothing was found amiss, the pairs passed may stand. Assumes nothing.
use Prim.Native.Nat.{ℕ, ◌+◌}
use native.Mathlib.Omega.{arith}
use lib.ListN.{get_or}
use Rattle.key_judge.specs.Pairs.{may_follow}
use Rattle.key_judge.proofs.Pairs.{and_next}
use Rattle.key_judge.proofs.run_links.Goals as goal

pub loop-i-init : goal.loop-i-init
loop-i-init c = (omega arith, λ e j h. absurd (omega arith))

pub loop-i-preserved : goal.loop-i-preserved
loop-i-preserved c = (
  omega (arith, c.loop-i-test.true),
  and_next (λ (j : ℕ). may_follow (get_or c.args.key.now (c.args.at + j) 0) (get_or c.args.key.now (c.args.at + j + 1) 0)) c.loop-i.links c.may_follow-link.result c.loop-i.i c.loop-i.invariant.1 c.may_follow-link.ensures,
)

pub returns : goal.returns
returns c = λ e j h. c.loop-i.invariant.1 e j (omega (arith, c.loop-i-test.false))
