-- `blocks::block_at` meets its contract: the first i bytes are copied. Assumes nothing.
use mathlib.Core.Path.{◌≡◌, refl}
use native.Mathlib.Omega.{arith}
use Rattle.definition.specs.Lists.{zeroes}
use Rattle.blocks.proofs.Blocks.{block_next}
use Rattle.blocks.proofs.block_at.Goals as goal

pub loop-i-init : goal.loop-i-init
unfolding zeroes
loop-i-init c = (omega arith, refl)

pub loop-i-preserved : goal.loop-i-preserved
loop-i-preserved c = (omega arith, block_next c.args.source.now c.args.from c.loop-i.i c.loop-i.block (omega arith) (omega arith) c.loop-i.invariant.1)

pub returns : goal.returns
returns c =
    let e : c.loop-i.i ≡ c.args.size = omega arith in
    rw (← e) c.loop-i.invariant.1
