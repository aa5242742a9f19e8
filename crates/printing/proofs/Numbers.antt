-- The digits that `io::decimal` writes are those of the definition. Assumes nothing.
use Rattle.std.specs.Prelude.{if◌then◌else◌}
use mathlib.Core.Path.{◌≡◌, refl, ◌∙◌}
use mathlib.Core.Bool.{Bool, true, false}
use mathlib.Core.List.{List, [], ◌∷◌, ◌++◌}
use Prim.Native.Nat.{ℕ, zero, suc, ◌+◌, ◌-◌, ◌*◌, ◌/◌, ◌%◌, ◌^◌, ◌≤◌, ◌<◌}
use native.Mathlib.Nat.{pow-suc, pow-le-pow_right, mod-eq_of_lt, div-lt_iff_lt-mul, le-div_iff_mul-le}
use native.Mathlib.Numerals.{unary_clauses}
use native.Mathlib.Omega.{arith}
use lib.Dec.{ltb}
use lib.ListN.{length, length-append}
use borrow.Author.Tests.{lt-ltb, le-ltb, ltb-true, ltb-false}
use Rattle.io.specs.Digits.{last_digits, hex_digit_ascii, IsDigitCount}
use Rattle.printing.specs.Putting.{decimal_in, decimal}

glyph_small : (d : ℕ) → d < 10 → hex_digit_ascii d ≡ 48 + d
glyph_small d h = rw (lt-ltb d 10 h)

pub digits_decimal : (f k n : ℕ) → k ≤ f → IsDigitCount 10 1 n k → last_digits 10 k n ≡ decimal_in f n
unfolding decimal_in
digits_decimal f zero n h w = absurd (omega (arith, w.0))
digits_decimal zero (suc k) n h w = absurd (omega arith)
digits_decimal (suc f) (suc zero) n h w =
    let small : n < 10 = omega (arith, w.1) in
    rw (lt-ltb n 10 small, mod-eq_of_lt small, glyph_small n small)
digits_decimal (suc f) (suc (suc k)) n h w =
    let long : 10 ^ k * 10 ≤ n = simp unary_clauses at (w.2 (omega arith)) in
    let one : 10 ^ 0 ≤ 10 ^ k = pow-le-pow_right {n = 10} (omega arith) {i = 0} (omega arith) in
    let up : n < 10 ^ suc k * 10 = rw pow-suc at w.1 in
    let below : n / 10 < 10 ^ suc k = (div-lt_iff_lt-mul {k = 10} (omega arith)).1 up in
    let least : 10 ^ k ≤ n / 10 = (le-div_iff_mul-le {k = 10} (omega arith)).1 long in
    let ih = digits_decimal f (suc k) (n / 10) (omega arith) (omega arith, below, λ m. simp unary_clauses least) in
    rw (le-ltb n 10 (omega arith), ih, glyph_small (n % 10) (omega arith))

-- a number of 64 bits has at most 20 digits
pub most_digits : (n k : ℕ) → n < 2 ^ 64 → IsDigitCount 10 1 n k → k ≤ 20
most_digits n k small w = at (ltb 20 k) refl
  where
    at : (t : Bool) → ltb 20 k ≡ t → k ≤ 20
    at false e = ltb-false 20 k e
    at true e =
        let more : 20 < k = ltb-true 20 k e in
        let long : 10 ^ (k - 1) ≤ n = w.2 (omega arith) in
        let most : 10 ^ 20 ≤ 10 ^ (k - 1) = pow-le-pow_right {n = 10} (omega arith) {i = 20} (omega arith) in
        absurd (omega arith)

-- what `io::decimal` answers
pub decimal_is : (n k : ℕ) (ds : List ℕ) → n < 2 ^ 64 → ds ≡ last_digits 10 k n → IsDigitCount 10 1 n k → ds ≡ decimal n
decimal_is n k ds small d w = d ∙ digits_decimal 20 k n (most_digits n k small w) w

most_in : (k n : ℕ) → length (decimal_in k n) ≤ k
unfolding decimal_in
most_in zero n = omega arith
most_in (suc k) n = at (ltb n 10) (most_in k (n / 10))
  where
    at : (t : Bool) → length (decimal_in k (n / 10)) ≤ k → length (if t then (48 + n) ∷ [] else decimal_in k (n / 10) ++ (48 + n % 10) ∷ []) ≤ suc k
    at true h = omega arith
    at false h = omega (arith, length-append (decimal_in k (n / 10)) ((48 + n % 10) ∷ []))

pub decimal_most : (n : ℕ) → length (decimal n) ≤ 20
decimal_most n = most_in 20 n
