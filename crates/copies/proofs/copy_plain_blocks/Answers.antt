-- `copies::copy_plain_blocks` meets its contract. Assumes nothing.
use mathlib.Core.Path.{sym, ◌∙◌}
use borrow.Author.Rules.{rules}
use Rattle.definition.specs.Bytes.{newline, backslash}
use Rattle.blocks.specs.Either.{either}
use Rattle.scan.proofs.Runs.{passed_none, passed_block}
use Rattle.copies.specs.Plain.{is_plain}
use Rattle.copies.proofs.Copying.{copied_none, copied_more, plain_not}
use Rattle.copies.proofs.copy_plain_blocks.Goals as goal

pub returns-then-block_has : goal.returns-then-block_has
returns-then-block_has c = (c.loop-i.invariant.0.same, c.loop-i.invariant.0.inside, c.loop-i.invariant.1.same)

pub loop-i-preserved : goal.loop-i-preserved
loop-i-preserved c = (
  copied_more _ _ _ c.requires c.loop-i.invariant.0 8 _ (search rules) c.copy_block.ensures,
  passed_block is_plain (either newline backslash) plain_not c.loop-i.invariant.1 8 (search rules)
      (sym c.block_has.ensures ∙ c.if-block_has.false),
)

pub returns : goal.returns
returns c = (c.loop-i.invariant.0.same, c.loop-i.invariant.0.inside, c.loop-i.invariant.1.same)

pub loop-i-init : goal.loop-i-init
loop-i-init c = (copied_none _ _ _, passed_none is_plain _)
