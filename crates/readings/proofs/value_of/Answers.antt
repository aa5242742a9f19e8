-- `readings::value_of` meets its contract. Assumes nothing.
use borrow.Author.Rules.{rules}
use mathlib.Core.Bool.{true, false}
use mathlib.Core.Option.{Option as Maybe, some, none}
use mathlib.Core.Path.{sym, ap, ◌∙◌}
use lib.IntN.{ℤ}
use mir.Syntax.{w64}
use mir.Val.{SFits}
use mir.Facts.{to_z-of_z}
use Rattle.std.specs.Prelude.{Ok, Some, Option}
use Rattle.definition.specs.Value.{is_utf8, i64_of, number_of, replied, as_number}
use Rattle.integers.specs.Readings.{number_in}
use Rattle.lookup.specs.Replies.{replied as looked_up, place_of}
use Rattle.lookup.specs.declared.Place.{Place}
use Rattle.readings.proofs.Readings.{read_none, read_given, string_none, string_read}
use Rattle.readings.proofs.value_of.Goals as goal

pub returns-in_default : goal.returns-in_default
unfolding as_number
returns-in_default c = read_none _ _ (string_none _ _ (sym (ap (λ (o : Option Place). looked_up (Ok o)) c.in_default.is)))

pub bytes_at-bytes-requires : goal.bytes_at-bytes-requires
bytes_at-bytes-requires c = rw c.in-Some.is at c.requires

pub returns-then-not-is_utf8 : goal.returns-then-not-is_utf8
unfolding as_number replied
returns-then-not-is_utf8 c =
    read_none _ _ (string_read _ _ (place_of c.in-Some.place) false (sym (ap (λ (o : Option Place). looked_up (Ok o)) c.in-Some.is))
    (ap is_utf8 (sym c.bytes_at-bytes.ensures.0) ∙ sym c.if-not-is_utf8.ensures))

pub returns-in-Some-parse_i64 : goal.returns-in-Some-parse_i64
unfolding number_of number_in as_number replied
returns-in-Some-parse_i64 c =
    let fits : SFits w64 c.in-Some-parse_i64.number = search rules in
    rw (to_z-of_z fits) (read_given _ _ _ (some (number_of (number_in (Some c.in-Some-parse_i64.number)))) (string_read _ _ (place_of c.in-Some.place) true (sym (ap (λ (o : Option Place). looked_up (Ok o)) c.in-Some.is)) (ap is_utf8 (sym c.bytes_at-bytes.ensures.0) ∙ sym c.if-not-is_utf8.ensures))
    (ap (λ (x : Maybe ℤ). some (number_of x)) (c.in-Some-parse_i64.ensures ∙ ap i64_of c.bytes_at-bytes.ensures.0)))

pub returns-in-None : goal.returns-in-None
unfolding number_of number_in as_number replied
returns-in-None c =
    read_given _ _ _ (some (number_of none)) (string_read _ _ (place_of c.in-Some.place) true (sym (ap (λ (o : Option Place). looked_up (Ok o)) c.in-Some.is)) (ap is_utf8 (sym c.bytes_at-bytes.ensures.0) ∙ sym c.if-not-is_utf8.ensures))
    (ap (λ (x : Maybe ℤ). some (number_of x)) (c.in-None.ensures ∙ ap i64_of c.bytes_at-bytes.ensures.0))
