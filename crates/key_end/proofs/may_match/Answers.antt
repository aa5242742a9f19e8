-- `key_end::may_match` meets its contract. Assumes nothing.
use mathlib.Core.Path.{refl, sym, ◌∙◌}
use Rattle.key_end.specs.Ends.{may_match}
use Rattle.key_end.proofs.may_match.Goals as goal

pub returns-then-ends_in : goal.returns-then-ends_in
unfolding may_match
returns-then-ends_in c = rw (sym c.ends_in.ensures ∙ c.if-ends_in.true) refl

pub returns : goal.returns
unfolding may_match
returns c = rw (sym c.ends_in.ensures ∙ c.if-ends_in.false) c.ends_in-2.ensures
