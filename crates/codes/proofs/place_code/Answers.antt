-- `codes::place_code` meets its contract. Assumes nothing.
use mathlib.Core.Path.{◌≡◌, refl}
use Prim.Native.Nat.{◌+◌, ◌≤◌}
use native.Mathlib.Omega.{arith}
use Rattle.std.specs.Prelude.{Some, None}
use Rattle.definition.specs.Limits.{body_bytes}
use Rattle.codes.proofs.place_code.Goals as goal

pub returns-in-Ok-Some : goal.returns-in-Ok-Some
returns-in-Ok-Some c = let some : c.in-Ok-Some.field-0 ≡ Some c.in-Ok-Some.place = rw c.in-Ok-Some.is at c.in-Ok-Some.field-0-is in rw (c.in-Ok-Some.is, some) refl

pub returns-in-Ok-None : goal.returns-in-Ok-None
returns-in-Ok-None c = let none : c.in-Ok-None.field-0 ≡ None = rw c.in-Ok-None.is at c.in-Ok-None.field-0-is in rw (c.in-Ok-None.is, none) refl

pub returns-in-Err : goal.returns-in-Err
returns-in-Err c = rw (c.in-Err.is, c.from.ensures) refl

pub overflow_mul-result : goal.overflow_mul-result
overflow_mul-result c =
    let some : c.in-Ok-Some.field-0 ≡ Some c.in-Ok-Some.place = rw c.in-Ok-Some.is at c.in-Ok-Some.field-0-is in
    let small : c.in-Ok-Some.place.start + c.in-Ok-Some.place.size ≤ body_bytes = rw (c.in-Ok-Some.is, some) at c.requires in
    omega (arith, small)

pub overflow_mul-result-in-Ok-Some : goal.overflow_mul-result-in-Ok-Some
overflow_mul-result-in-Ok-Some c =
    let some : c.in-Ok-Some.field-0 ≡ Some c.in-Ok-Some.place = rw c.in-Ok-Some.is at c.in-Ok-Some.field-0-is in
    let small : c.in-Ok-Some.place.start + c.in-Ok-Some.place.size ≤ body_bytes = rw (c.in-Ok-Some.is, some) at c.requires in
    omega (arith, small)

pub overflow_add-result : goal.overflow_add-result
overflow_add-result c =
    let some : c.in-Ok-Some.field-0 ≡ Some c.in-Ok-Some.place = rw c.in-Ok-Some.is at c.in-Ok-Some.field-0-is in
    let small : c.in-Ok-Some.place.start + c.in-Ok-Some.place.size ≤ body_bytes = rw (c.in-Ok-Some.is, some) at c.requires in
    omega (arith, small)
