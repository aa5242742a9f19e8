-- `paths::part_len` meets its contract. Assumes nothing.
use mathlib.Core.Bool.{not}
use mathlib.Core.Path.{ap, sym}
use native.Mathlib.Omega.{arith}
use borrow.Author.Tests.{eq-eqb, ne_eqb}
use Rattle.scan.proofs.Runs.{passed_none, passed_more, passed_stop, passed_end}
use Rattle.paths.specs.Parts.{not_slash}
use Rattle.paths.proofs.part_len.Goals as goal

pub returns-then-c-eq47 : goal.returns-then-c-eq47
returns-then-c-eq47 c = passed_stop not_slash _ c.loop-i.invariant c.loop-i-test.true (ap not (eq-eqb _ _ (sym c.if-c-eq47.true)))

pub loop-i-preserved : goal.loop-i-preserved
loop-i-preserved c = passed_more not_slash _ c.loop-i.invariant c.loop-i-test.true (ap not (ne_eqb _ _ (λ e. c.if-c-eq47.false (sym e))))

pub loop-i-init : goal.loop-i-init
loop-i-init c = passed_none not_slash _

pub returns : goal.returns
returns c = omega (arith, passed_end not_slash c.args.text.now c.loop-i.invariant c.loop-i-test.false)
