use mathlib.Core.Path.{◌∙◌}
use borrow.Author.Rules.{rules}
use Rattle.blocks.proofs.Blocks.{through_block}
use Rattle.blocks.proofs.copy_block.Goals as goal

pub returns : goal.returns
returns c =
    c.write_block.ensures
    ∙ through_block c.args.store.now c.args.source.now c.block_at-block.result c.args.at c.args.from c.args.size (search rules) (search rules) c.block_at-block.ensures
