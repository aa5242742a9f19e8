-- `file_names::next` meets its contract. Assumes nothing.
use mathlib.Core.Path.{sym, ◌∙◌}
use borrow.Author.Tests.{eq-eqb, ne_eqb}
use Rattle.file_names.specs.Names.{next}
use Rattle.file_names.proofs.next.Goals as goal

pub returns-then-c-eq47 : goal.returns-then-c-eq47
unfolding next
returns-then-c-eq47 c = rw (eq-eqb _ _ c.if-c-eq47.true) c.ended.ensures

pub returns-then-c-eq46 : goal.returns-then-c-eq46
unfolding next
returns-then-c-eq46 c = rw (ne_eqb _ _ c.if-c-eq47.false, eq-eqb _ _ c.if-c-eq46.true) c.dotted.ensures

pub returns-then-allowed_in_quark_name : goal.returns-then-allowed_in_quark_name
unfolding next
returns-then-allowed_in_quark_name c = rw (ne_eqb _ _ c.if-c-eq47.false, ne_eqb _ _ c.if-c-eq46.false, sym c.allowed_in_quark_name.ensures ∙ c.if-allowed_in_quark_name.true) c.lettered.ensures

pub returns : goal.returns
unfolding next
returns c = rw (ne_eqb _ _ c.if-c-eq47.false, ne_eqb _ _ c.if-c-eq46.false, sym c.allowed_in_quark_name.ensures ∙ c.if-allowed_in_quark_name.false)
