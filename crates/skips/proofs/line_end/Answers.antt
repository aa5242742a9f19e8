-- `skips::line_end` meets its contract. Assumes nothing.
use Rattle.definition.specs.Bytes.{not_newline}
use Rattle.skips.proofs.Texts.{line_on, line_over}
use Rattle.scan.proofs.Runs.{passed_more, passed_stop, passed_all}
use Rattle.skips.proofs.line_end.Goals as goal

pub returns-then-text-i-eq10 : goal.returns-then-text-i-eq10
returns-then-text-i-eq10 c = passed_stop not_newline _ c.loop-i.invariant c.loop-i-test.true (line_over _ c.if-text-i-eq10.true)

pub loop-i-preserved : goal.loop-i-preserved
loop-i-preserved c = passed_more not_newline _ c.loop-i.invariant c.loop-i-test.true (line_on _ c.if-text-i-eq10.false)

pub loop-i-init : goal.loop-i-init
loop-i-init c = record { inside = c.line_blocks-whole.ensures.0; same = c.line_blocks-whole.ensures.1 }

pub returns : goal.returns
returns c = passed_all not_newline _ c.loop-i.invariant c.loop-i-test.false
