-- `copies::copy_blocks` meets its contract. Assumes nothing.
use borrow.Author.Rules.{rules}
use Rattle.copies.proofs.Copying.{copied_none, copied_more}
use Rattle.copies.proofs.copy_blocks.Goals as goal

pub loop-i-preserved : goal.loop-i-preserved
loop-i-preserved c =
    copied_more _ _ _ c.requires c.loop-i.invariant 8 _
    (search rules) c.copy_block.ensures

pub returns : goal.returns
returns c = (c.loop-i.invariant.same, c.loop-i.invariant.inside, search rules)

pub loop-i-init : goal.loop-i-init
loop-i-init c = copied_none _ _ _
