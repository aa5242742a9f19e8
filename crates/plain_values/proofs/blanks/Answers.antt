-- `plain_values::blanks` meets its contract. Assumes nothing.
use mathlib.Core.Path.{sym, ◌∙◌}
use native.Mathlib.Omega.{arith}
use Rattle.plain_values.proofs.BlankRuns.{blank_first, blank_more, blank_over}
use Rattle.plain_values.proofs.blanks.Goals as goal

pub loop-i-preserved : goal.loop-i-preserved
loop-i-preserved c = blank_more c.requires c.loop-i.invariant (sym c.is_blank.ensures ∙ c.loop-i-test.true)

pub returns : goal.returns
returns c = blank_over c.loop-i.invariant (sym c.is_blank.ensures ∙ c.loop-i-test.false)

pub loop-i-init : goal.loop-i-init
loop-i-init c = blank_first c.requires

pub bounds-text-i : goal.bounds-text-i
bounds-text-i c = c.loop-i.invariant.inside

pub overflow_add-i : goal.overflow_add-i
overflow_add-i c = omega (arith, c.loop-i.invariant.inside, c.well_formed.1.0.0)

pub loop-i-smaller : goal.loop-i-smaller
loop-i-smaller c = omega (arith, c.loop-i.invariant.inside)
