use mathlib.Core.Path.{◌≡◌}
use Prim.Native.Nat.{◌+◌, ◌-◌}
use native.Mathlib.Omega.{arith}
use lib.ListN.{drop}
use lib.Seq.{paste-zero}
use Rattle.copies.proofs.Copying.{step_short, step_on}
use Rattle.copies.proofs.copy_step.Goals as goal

pub returns-then-source-from : goal.returns-then-source-from
returns-then-source-from c =
    let e : c.args.from - c.args.from ≡ 0 = omega arith in
    (step_short _ _ _ c.if-source-from.true, rw e (paste-zero c.args.store.now (c.args.at + c.args.from) (drop c.args.from c.args.source.now)))

pub returns : goal.returns
returns c =
    let e : c.args.from + c.args.size - c.args.from ≡ c.args.size = omega arith in
    (step_on _ _ _ c.if-source-from.false, rw e c.copy_block.ensures)
