-- `blocks::block_has` meets its contract: what the first i bytes have is known. Assumes nothing.
use mathlib.Core.Path.{◌≡◌, refl}
use native.Mathlib.Omega.{arith}
use Rattle.definition.specs.Lists.{any}
use Rattle.blocks.proofs.Blocks.{block_more}
use Rattle.blocks.proofs.block_has.Goals as goal

pub loop-i-init : goal.loop-i-init
unfolding any
loop-i-init c = refl

pub loop-i-preserved : goal.loop-i-preserved
loop-i-preserved c = block_more c.args.text.now c.args.at c.args.a c.args.b c.loop-i.found c.loop-i.i (omega arith) c.loop-i.invariant

pub returns : goal.returns
returns c =
    let e : c.loop-i.i ≡ 8 = omega arith in
    rw (c.loop-i.invariant, e) refl
