-- `readings::bool_of` meets its contract. Assumes nothing.
use mathlib.Core.Bool.{true, false}
use mathlib.Core.Path.{sym, ap, ◌∙◌}
use Rattle.std.specs.Prelude.{Ok, Option}
use Rattle.definition.specs.Value.{is_utf8, to_bool, replied, as_bool}
use Rattle.booleans.specs.Readings.{boolean_in}
use Rattle.lookup.specs.Replies.{replied as looked_up, place_of}
use Rattle.lookup.specs.declared.Place.{Place}
use Rattle.readings.proofs.Readings.{read_none, read_given, string_none, string_read, truth_given}
use Rattle.readings.proofs.bool_of.Goals as goal

pub returns-in_err-place : goal.returns-in_err-place
unfolding as_bool
returns-in_err-place c = rw c.from_residual.ensures (read_none _ _ (string_none _ _ (sym (ap (λ (o : Option Place). looked_up (Ok o)) c.in_err-place.was))))

pub bytes_at-bytes-requires : goal.bytes_at-bytes-requires
bytes_at-bytes-requires c = rw c.in_ok-place.was at c.requires

pub returns : goal.returns
unfolding as_bool replied
returns c =
    truth_given c.to_bool.result
    ∙ read_given _ _ _ (boolean_in c.to_bool.result) (string_read _ _ (place_of c.in_ok-place.place) true (sym (ap (λ (o : Option Place). looked_up (Ok o)) c.in_ok-place.was))
    (ap is_utf8 (sym c.bytes_at-bytes.ensures.0) ∙ sym c.if-not-is_utf8.ensures)) (c.to_bool.ensures ∙ ap to_bool c.bytes_at-bytes.ensures.0)

pub returns-then-not-is_utf8 : goal.returns-then-not-is_utf8
unfolding as_bool replied
returns-then-not-is_utf8 c =
    read_none _ _ (string_read _ _ (place_of c.in_ok-place.place) false (sym (ap (λ (o : Option Place). looked_up (Ok o)) c.in_ok-place.was))
    (ap is_utf8 (sym c.bytes_at-bytes.ensures.0) ∙ sym c.if-not-is_utf8.ensures))
