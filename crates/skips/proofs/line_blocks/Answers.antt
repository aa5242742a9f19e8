-- `skips::line_blocks` meets its contract. Assumes nothing.
use mathlib.Core.Path.{sym, ◌∙◌}
use borrow.Author.Rules.{rules}
use Rattle.definition.specs.Bytes.{newline, not_newline}
use Rattle.blocks.specs.Either.{either}
use Rattle.skips.proofs.Texts.{line_block}
use Rattle.scan.proofs.Runs.{passed_none, passed_block}
use Rattle.skips.proofs.line_blocks.Goals as goal

pub returns-then-block_has : goal.returns-then-block_has
returns-then-block_has c = (c.loop-i.invariant.inside, c.loop-i.invariant.same)

pub loop-i-preserved : goal.loop-i-preserved
loop-i-preserved c =
    passed_block not_newline (either newline newline) line_block c.loop-i.invariant 8 (search rules)
    (sym c.block_has.ensures ∙ c.if-block_has.false)

pub returns : goal.returns
returns c = (c.loop-i.invariant.inside, c.loop-i.invariant.same)

pub loop-i-init : goal.loop-i-init
loop-i-init c = passed_none not_newline _
