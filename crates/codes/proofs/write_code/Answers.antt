-- `codes::write_code` meets its contract. Assumes nothing.
use mathlib.Core.Path.{refl}
use Prim.Native.Nat.{◌≤◌}
use native.Mathlib.Omega.{arith}
use Rattle.definition.specs.Limits.{written_bytes}
use Rattle.codes.proofs.write_code.Goals as goal

pub returns-in-Ok : goal.returns-in-Ok
returns-in-Ok c = rw c.in-Ok.is refl

pub returns-in-Err : goal.returns-in-Err
returns-in-Err c = rw (c.in-Err.is, c.from.ensures) refl

pub overflow_mul-result : goal.overflow_mul-result
overflow_mul-result c =
    let bounded : c.in-Ok.size ≤ written_bytes = rw c.in-Ok.is at c.requires in
    omega (arith, bounded)
