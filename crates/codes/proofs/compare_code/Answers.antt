-- `codes::compare_code` meets its contract. Assumes nothing.
use mathlib.Core.Path.{◌≡◌, refl}
use Rattle.std.specs.Prelude.{Some, None}
use Rattle.std.specs.Prelude.{Ok}
use Rattle.codes.specs.Codes.{Small}
use Rattle.codes.proofs.compare_code.Goals as goal

pub returns-in-Ok-Some : goal.returns-in-Ok-Some
returns-in-Ok-Some c =
    let some : c.in-Ok-Some.field-0 ≡ Some c.in-Ok-Some.both = rw c.in-Ok-Some.is at c.in-Ok-Some.field-0-is in
    rw (c.in-Ok-Some.is, some, c.place_code.ensures, c.place_code-in-Ok-Some.ensures) refl

pub returns-in-Ok-None : goal.returns-in-Ok-None
returns-in-Ok-None c = let none : c.in-Ok-None.field-0 ≡ None = rw c.in-Ok-None.is at c.in-Ok-None.field-0-is in rw (c.in-Ok-None.is, none) refl

pub returns-in-Err : goal.returns-in-Err
returns-in-Err c = rw (c.in-Err.is, c.from.ensures) refl

pub place_code-requires : goal.place_code-requires
place_code-requires c =
    let some : c.in-Ok-Some.field-0 ≡ Some c.in-Ok-Some.both = rw c.in-Ok-Some.is at c.in-Ok-Some.field-0-is in
    let small : Small (Ok c.in-Ok-Some.both.with_it) × Small c.in-Ok-Some.both.without = rw (c.in-Ok-Some.is, some) at c.requires in
    small.0

pub place_code-requires-in-Ok-Some : goal.place_code-requires-in-Ok-Some
place_code-requires-in-Ok-Some c =
    let some : c.in-Ok-Some.field-0 ≡ Some c.in-Ok-Some.both = rw c.in-Ok-Some.is at c.in-Ok-Some.field-0-is in
    let small : Small (Ok c.in-Ok-Some.both.with_it) × Small c.in-Ok-Some.both.without = rw (c.in-Ok-Some.is, some) at c.requires in
    small.1
