-- `codes::step_code` meets its contract. Assumes nothing.
use mathlib.Core.Path.{◌≡◌, refl, ap}
use Prim.Native.Nat.{◌*◌, ◌<◌}
use native.Mathlib.Numerals.{add-one}
use native.Mathlib.Omega.{arith}
use Rattle.std.specs.Prelude.{Some, None}
use Rattle.definition.specs.Limits.{most_entries}
use Rattle.definition.specs.Walking.{after_step}
use Rattle.codes.specs.Codes.{from16, stepping}
use Rattle.codes.proofs.step_code.Goals as goal

pub returns-in-Ok-Some : goal.returns-in-Ok-Some
unfolding after_step
returns-in-Ok-Some c count =
    let some : c.in-Ok-Some.field-0 ≡ Some c.in-Ok-Some.entry = rw c.in-Ok-Some.is at c.in-Ok-Some.field-0-is in
    rw (c.in-Ok-Some.is, some) (ap (stepping (from16 * c.in-Ok-Some.entry)) (add-one c.in-Ok-Some.entry))

pub returns-in-Ok-None : goal.returns-in-Ok-None
unfolding after_step
returns-in-Ok-None c count = let none : c.in-Ok-None.field-0 ≡ None = rw c.in-Ok-None.is at c.in-Ok-None.field-0-is in rw (c.in-Ok-None.is, none) refl

pub returns-in-Err : goal.returns-in-Err
unfolding after_step
returns-in-Err c count = rw (c.in-Err.is, c.from.ensures) refl

pub overflow_cast-next : goal.overflow_cast-next
overflow_cast-next c =
    let some : c.in-Ok-Some.field-0 ≡ Some c.in-Ok-Some.entry = rw c.in-Ok-Some.is at c.in-Ok-Some.field-0-is in
    let numbered : c.in-Ok-Some.entry < most_entries = rw (c.in-Ok-Some.is, some) at c.requires in
    omega (arith, numbered)

pub overflow_add-next : goal.overflow_add-next
overflow_add-next c =
    let some : c.in-Ok-Some.field-0 ≡ Some c.in-Ok-Some.entry = rw c.in-Ok-Some.is at c.in-Ok-Some.field-0-is in
    let numbered : c.in-Ok-Some.entry < most_entries = rw (c.in-Ok-Some.is, some) at c.requires in
    omega (arith, numbered)

pub overflow_mul-result : goal.overflow_mul-result
overflow_mul-result c =
    let some : c.in-Ok-Some.field-0 ≡ Some c.in-Ok-Some.entry = rw c.in-Ok-Some.is at c.in-Ok-Some.field-0-is in
    let numbered : c.in-Ok-Some.entry < most_entries = rw (c.in-Ok-Some.is, some) at c.requires in
    omega (arith, numbered)
