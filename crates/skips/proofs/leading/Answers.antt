-- `skips::leading` meets its contract. Assumes nothing.
use mathlib.Core.Path.{sym}
use lib.Dec.{eqb}
use borrow.Author.Tests.{eq-eqb, ne_eqb}
use Rattle.scan.proofs.Runs.{passed_none, passed_more, passed_stop, passed_all}
use Rattle.skips.proofs.leading.Goals as goal

pub returns-then-c-byte : goal.returns-then-c-byte
returns-then-c-byte c = passed_stop (eqb _) _ c.loop-i.invariant c.loop-i-test.true (ne_eqb _ _ (λ e. c.if-c-byte.true (sym e)))

pub loop-i-preserved : goal.loop-i-preserved
loop-i-preserved c = passed_more (eqb _) _ c.loop-i.invariant c.loop-i-test.true (eq-eqb _ _ (sym c.if-c-byte.false))

pub loop-i-init : goal.loop-i-init
loop-i-init c = passed_none (eqb _) _

pub returns : goal.returns
returns c = passed_all (eqb _) _ c.loop-i.invariant c.loop-i-test.false
