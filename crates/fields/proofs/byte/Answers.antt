-- `fields::byte` meets its contract. Assumes nothing.
use mathlib.Core.Path.{refl}
use Rattle.fields.specs.Fields.{byte_of}
use Rattle.fields.proofs.byte.Goals as goal

pub returns-in-Some-Some : goal.returns-in-Some-Some
unfolding byte_of
returns-in-Some-Some c = rw (← c.digit.ensures.0, c.in-Some-Some.is-0, ← c.digit-2.ensures.0, c.in-Some-Some.is-1) refl

pub returns-in_default : goal.returns-in_default
unfolding byte_of
returns-in_default c = rw (← c.digit.ensures.0, c.in_default.is-0, ← c.digit-2.ensures.0, c.in_default.is-1) refl

pub returns-in_default-2 : goal.returns-in_default-2
unfolding byte_of
returns-in_default-2 c = rw (← c.digit.ensures.0, c.in_default.is-0) refl
