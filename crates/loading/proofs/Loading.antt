-- An archive put at the front of a buffer. Assumes nothing.
use mathlib.Core.Bool.{true}
use mathlib.Core.List.{List}
use mathlib.Core.Path.{◌≡◌, ap, sym, ◌∙◌}
use Prim.Native.Nat.{ℕ, ◌+◌, ◌≤◌}
use native.Mathlib.Omega.{arith}
use lib.ListN.{length, take}
use lib.Seq.{paste, length-paste, length-take-le, take-paste, take-length}
use Rattle.definition.specs.Archive.{laid_out}
use Rattle.loading.specs.Loading.{Holds}

pub put_holds : {new : List ℕ} {n : ℕ} (old bytes : List ℕ) → new ≡ paste old 0 bytes (length bytes) → n ≡ length bytes → length bytes ≤ length old → laid_out bytes ≡ true
    → Holds new n
put_holds {new} {n} old bytes e en h laid =
    let r : length bytes ≤ length bytes = omega arith in
    let z : 0 ≤ length old = omega arith in
    let k : 0 + length bytes ≡ length bytes = omega arith in
    let long : length new ≡ length old = ap length e ∙ length-paste old 0 bytes (length bytes) (omega arith) r in
    let inside : n ≤ length new = omega (arith, long) in
    let front : take n new ≡ bytes =
    rw (en, e) (ap (λ (m : ℕ). take m (paste old 0 bytes (length bytes))) (sym k) ∙ take-paste old 0 bytes (length bytes) z r ∙ take-length bytes) in
    record { counts = (inside, sym (length-take-le n new inside)); laid = ap laid_out front ∙ laid }
