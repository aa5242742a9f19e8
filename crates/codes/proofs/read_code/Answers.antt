-- `codes::read_code` meets its contract. Assumes nothing.
use mathlib.Core.Path.{refl}
use Prim.Native.Nat.{◌≤◌}
use native.Mathlib.Omega.{arith}
use Rattle.definition.specs.Limits.{most_entries, most_opens}
use Rattle.codes.proofs.read_code.Goals as goal

pub returns-in-Ok : goal.returns-in-Ok
returns-in-Ok c = rw c.in-Ok.is refl

pub returns-in-Err : goal.returns-in-Err
returns-in-Err c = rw (c.in-Err.is, c.from.ensures) refl

pub overflow_mul-result : goal.overflow_mul-result
overflow_mul-result c =
    let few : (c.in-Ok.accepted.entries ≤ most_entries) × (c.in-Ok.accepted.opens ≤ most_opens) = rw c.in-Ok.is at c.requires in
    omega (arith, few)

pub overflow_mul-result-in-Ok : goal.overflow_mul-result-in-Ok
overflow_mul-result-in-Ok c =
    let few : (c.in-Ok.accepted.entries ≤ most_entries) × (c.in-Ok.accepted.opens ≤ most_opens) = rw c.in-Ok.is at c.requires in
    omega (arith, few)

pub overflow_add-result : goal.overflow_add-result
overflow_add-result c =
    let few : (c.in-Ok.accepted.entries ≤ most_entries) × (c.in-Ok.accepted.opens ≤ most_opens) = rw c.in-Ok.is at c.requires in
    omega (arith, few)
