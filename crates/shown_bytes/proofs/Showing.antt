-- A byte as it is shown, and bytes, one after another. Assumes nothing.
use Rattle.std.specs.Prelude.{if◌then◌else◌}
use mathlib.Core.Bool.{Bool, true, false}
use mathlib.Core.List.{List, [], ◌∷◌, ◌++◌}
use mathlib.Core.Path.{◌≡◌, refl}
use Prim.Native.Nat.{ℕ, ◌+◌, ◌*◌, ◌/◌, ◌%◌, ◌≤◌, ◌<◌}
use native.Mathlib.Numerals.{add-one}
use native.Mathlib.Omega.{arith}
use lib.ListN.{length, drop, get_or, length-append, drop_of_length-le}
use lib.Seq.{drop-cons}
use Rattle.definition.specs.Bytes.{backslash}
use Rattle.shown_bytes.specs.Shown.{is_shown, shown_byte, shown}

-- ---- A byte

module _ (c : ℕ) where
  byte_most : length (shown_byte c) ≤ 4
  unfolding shown_byte
  byte_most = at (is_shown c)
    where
      at : (b : Bool) → length (if b then c ∷ [] else backslash ∷ (48 + c / 64) ∷ (48 + c / 8 % 8) ∷ (48 + c % 8) ∷ []) ≤ 4
      at true = omega arith
      at false = omega arith

pub shown_most : (t : List ℕ) → length (shown t) ≤ 4 * length t
unfolding shown
shown_most [] = omega arith
shown_most (c ∷ t) = omega (arith, length-append (shown_byte c) (shown t), byte_most c, shown_most t)

-- ---- Bytes, one after another

pub shown_turn : (t : List ℕ) (i : ℕ) → i < length t → shown (drop i t) ≡ shown_byte (get_or t i 0) ++ shown (drop (i + 1) t)
unfolding shown
shown_turn t i h = rw (drop-cons t i 0 h, add-one) refl

pub shown_none : (t : List ℕ) (i : ℕ) → length t ≤ i → shown (drop i t) ≡ []
unfolding shown
shown_none t i h = rw (drop_of_length-le t h) refl
