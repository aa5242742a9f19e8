-- `readings::string_of` meets its contract. Assumes nothing.
use mathlib.Core.Bool.{true, false}
use mathlib.Core.Path.{sym, ap, ◌∙◌}
use Rattle.std.specs.Prelude.{Ok, Option}
use Rattle.definition.specs.Value.{is_utf8, replied}
use Rattle.lookup.specs.Replies.{replied as looked_up, place_of}
use Rattle.lookup.specs.declared.Place.{Place}
use Rattle.readings.proofs.Readings.{string_none, string_read}
use Rattle.readings.proofs.string_of.Goals as goal

pub returns-in_err-place-clause-said : goal.returns-in_err-place-clause-said
returns-in_err-place-clause-said c = rw c.from_residual.ensures (string_none _ _ (sym (ap (λ (o : Option Place). looked_up (Ok o)) c.in_err-place.was)))

pub bytes_at-requires : goal.bytes_at-requires
bytes_at-requires c = rw c.in_ok-place.was at c.requires

pub returns-then-is_utf8-clause-said : goal.returns-then-is_utf8-clause-said
unfolding replied
returns-then-is_utf8-clause-said c =
    string_read _ _ (place_of c.in_ok-place.place) true (sym (ap (λ (o : Option Place). looked_up (Ok o)) c.in_ok-place.was))
    (ap is_utf8 (sym c.bytes_at.ensures.0) ∙ sym c.if-is_utf8.ensures)

pub returns-else-is_utf8-clause-said : goal.returns-else-is_utf8-clause-said
unfolding replied
returns-else-is_utf8-clause-said c =
    string_read _ _ (place_of c.in_ok-place.place) false (sym (ap (λ (o : Option Place). looked_up (Ok o)) c.in_ok-place.was))
    (ap is_utf8 (sym c.bytes_at.ensures.0) ∙ sym c.if-is_utf8.ensures)
