-- `scan::next_component_by` meets its contract. Assumes nothing.
use mathlib.Core.Path.{sym, ◌∙◌}
use Rattle.definition.specs.Bytes.{is_name}
use Rattle.scan.proofs.Runs.{passed_more, passed_stop, passed_all}
use Rattle.scan.proofs.next_component_by.Goals as goal

pub returns-then-not-allowed_in_quark_name : goal.returns-then-not-allowed_in_quark_name
returns-then-not-allowed_in_quark_name c = passed_stop is_name _ c.loop-i.invariant c.loop-i-test.true (sym c.allowed_in_quark_name.ensures ∙ c.if-not-allowed_in_quark_name.true)

pub loop-i-preserved : goal.loop-i-preserved
loop-i-preserved c = passed_more is_name _ c.loop-i.invariant c.loop-i-test.true (sym c.allowed_in_quark_name.ensures ∙ c.if-not-allowed_in_quark_name.false)

pub returns : goal.returns
returns c = passed_all is_name _ c.loop-i.invariant c.loop-i-test.false
