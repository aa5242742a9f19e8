-- `readings::value_or` meets its contract. Assumes nothing.
use mathlib.Core.Path.{◌≡◌, refl}
use Rattle.std.specs.Prelude.{Some, None}
use Rattle.definition.specs.Value.{bytes_or}
use Rattle.readings.specs.Showing.{shown_at}
use Rattle.readings.proofs.value_or.Goals as goal

pub bytes_at-requires : goal.bytes_at-requires
bytes_at-requires c = let h : c.in-Ok-Some.field-0 ≡ Some c.in-Ok-Some.place = rw c.in-Ok-Some.is at c.in-Ok-Some.field-0-is in rw (c.in-Ok-Some.is, h) at c.requires

pub returns-in-Ok-Some : goal.returns-in-Ok-Some
unfolding bytes_or shown_at
returns-in-Ok-Some c = let h : c.in-Ok-Some.field-0 ≡ Some c.in-Ok-Some.place = rw c.in-Ok-Some.is at c.in-Ok-Some.field-0-is in rw (c.in-Ok-Some.is, h) c.bytes_at.ensures

pub returns-in-Ok-None : goal.returns-in-Ok-None
unfolding bytes_or shown_at
returns-in-Ok-None c = let h : c.in-Ok-None.field-0 ≡ None = rw c.in-Ok-None.is at c.in-Ok-None.field-0-is in rw (c.in-Ok-None.is, h) (refl, refl)

pub returns-in-Err : goal.returns-in-Err
unfolding bytes_or shown_at
returns-in-Err c = rw c.in-Err.is (refl, refl)
