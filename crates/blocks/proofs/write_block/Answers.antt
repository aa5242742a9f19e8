-- `blocks::write_block` meets its contract: the first i bytes are written. Assumes nothing.
use mathlib.Core.Path.{◌≡◌, refl}
use native.Mathlib.Numerals.{add-one}
use native.Mathlib.Omega.{arith}
use lib.ListN.{length-set}
use lib.Seq.{paste-zero, paste-suc}
use Rattle.blocks.proofs.write_block.Goals as goal

pub loop-i-init : goal.loop-i-init
loop-i-init c = (omega arith, paste-zero c.args.store.now c.args.at c.args.block, refl)

pub loop-i-preserved : goal.loop-i-preserved
loop-i-preserved c =
    let step = paste-suc c.args.store.now c.args.at c.args.block c.loop-i.i 0 (omega arith) (omega arith) in
    (omega arith, rw (add-one, c.loop-i.invariant.1) step, simp length-set c.loop-i.invariant.2)

pub returns : goal.returns
returns c =
    let e : c.loop-i.i ≡ c.args.size = omega arith in
    rw (← e) c.loop-i.invariant.1
