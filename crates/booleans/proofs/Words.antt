-- How the code reads a word. Assumes nothing.
use mathlib.Core.Bool.{Bool, true, false, ◌||◌, not}
use mathlib.Core.List.{List, [], ◌∷◌, map}
use mathlib.Core.Option.{some}
use mathlib.Core.Path.{◌≡◌, refl, sym, ap, ◌∙◌}
use Prim.Native.Nat.{ℕ, suc}
use native.Mathlib.Omega.{arith}
use lib.Dec.{eqb}
use lib.IntN.{ℤ, pos, negsuc, nat_abs}
use borrow.Author.Tests.{ne_eqb}
use mir.Syntax.{w64}
use mir.Val.{SFits, to_z, of_z}
use mir.Facts.{to_z-of_z}
use Rattle.std.specs.Prelude.{◌↔◌, IsTrue, Some, None}
use Rattle.std.specs.Char.{to_ascii_lowercase}
use mathlib.Core.Logic.{inl, inr}
use Rattle.std.proofs.lemmas.Str.Ascii.{lowercase_is}
use Rattle.std.proofs.lemmas.Bool.{cases_lt, false≢true}
use Rattle.std.proofs.lemmas.Bool.Decides.{eqb_tells}
use mathlib.Core.Logic.{◌⊎◌}
use Rattle.std.specs.Prelude.{◌≢◌}
use Rattle.definition.specs.Lists.{ascii, any, or_else, same}
use Rattle.definition.specs.Value.{lowercase, word_of, non_zero, i64_of, to_bool}
use Rattle.laws.proofs.Lists.{in_range, below_range, above_range, same_eq, same_refl}
use Rattle.integers.specs.Readings.{number_in}
use Rattle.booleans.specs.Readings.{boolean_in}

-- ---- A byte's case

-- std's word for it and the definition's
lower_is : (c : ℕ) → to_ascii_lowercase c ≡ lowercase c
unfolding lowercase
lower_is c = elim (cases_lt c 65) [
  | inl h ↦ (lowercase_is c).1 h ∙ sym (rw (below_range 65 90 c h) refl)
  | inr h ↦ elim (cases_lt 90 c) [
    | inl k ↦ (lowercase_is c).2 k ∙ sym (rw (above_range 65 90 c k) refl)
    | inr k ↦ (lowercase_is c).0 (h, k) ∙ sym (rw (in_range 65 90 c h k) refl)
  ]
]

lowers_are : (t : List ℕ) → map to_ascii_lowercase t ≡ map lowercase t
lowers_are [] = refl
lowers_are (c ∷ t) = rw (lower_is c, lowers_are t) refl

-- ---- A text and a word

same_of : (s u : List ℕ) → s ≡ u → same s u ≡ true
same_of s u e = rw e (same_refl u)

pub same_words : (t w : List ℕ) (r : Bool) → IsTrue r ↔ (map to_ascii_lowercase t ≡ map to_ascii_lowercase w) → r ≡ same (map lowercase t) (map lowercase w)
same_words t w r e = at r (same (map lowercase t) (map lowercase w)) refl (rw (lowers_are t, lowers_are w) at e)
  where
    at : (r b : Bool) → same (map lowercase t) (map lowercase w) ≡ b → IsTrue r ↔ (map lowercase t ≡ map lowercase w) → r ≡ b
    at true true k e = refl
    at true false k e = sym (same_of (map lowercase t) (map lowercase w) (e.0 refl)) ∙ k
    at false true k e = absurd (false≢true (e.1 (same_eq (map lowercase t) (map lowercase w) k)))
    at false false k e = refl

-- ---- One of three

module _ (p : List ℕ → Bool) (a b c : List ℕ) where
  pub first_of_three : p a ≡ true → any p (a ∷ b ∷ c ∷ []) ≡ true
  unfolding any
  first_of_three e = rw e refl

  pub second_of_three : p a ≡ false → p b ≡ true → any p (a ∷ b ∷ c ∷ []) ≡ true
  unfolding any
  second_of_three e f = rw (e, f) refl

  pub third_of_three : p a ≡ false → p b ≡ false → any p (a ∷ b ∷ c ∷ []) ≡ p c
  unfolding any
  third_of_three e f = rw (e, f) (at (p c))
    where
      at : (x : Bool) → (x || false) ≡ x
      at true = refl
      at false = refl

-- ---- What a word says

module _ (t : List ℕ) where
  -- the words are lowercase
  lowers : (a b c : List ℕ) → map lowercase a ≡ a → map lowercase b ≡ b → map lowercase c ≡ c
      → any (λ w. same t (map lowercase w)) (a ∷ b ∷ c ∷ []) ≡ any (same t) (a ∷ b ∷ c ∷ [])
  unfolding any
  lowers a b c p q r = rw (p, q, r) refl

  yes_is : any (λ w. same t (map lowercase w)) (ascii "true" ∷ ascii "on" ∷ ascii "yes" ∷ []) ≡ any (same t) (ascii "true" ∷ ascii "on" ∷ ascii "yes" ∷ [])
  yes_is = lowers (ascii "true") (ascii "on") (ascii "yes") (sym (lowers_are (ascii "true"))) (sym (lowers_are (ascii "on"))) (sym (lowers_are (ascii "yes")))

  no_is : any (λ w. same t (map lowercase w)) (ascii "false" ∷ ascii "off" ∷ ascii "no" ∷ []) ≡ any (same t) (ascii "false" ∷ ascii "off" ∷ ascii "no" ∷ [])
  no_is = lowers (ascii "false") (ascii "off") (ascii "no") (sym (lowers_are (ascii "false"))) (sym (lowers_are (ascii "off"))) (sym (lowers_are (ascii "no")))

  abbrev yes : Bool
  yes = any (λ w. same t (map lowercase w)) (ascii "true" ∷ ascii "on" ∷ ascii "yes" ∷ [])

  abbrev no : Bool
  no = any (λ w. same t (map lowercase w)) (ascii "false" ∷ ascii "off" ∷ ascii "no" ∷ [])

  pub word_yes : yes ≡ true → boolean_in (Some true) ≡ word_of t
  unfolding boolean_in word_of
  word_yes e = rw (sym yes_is ∙ e) refl

  pub word_no : yes ≡ false → no ≡ true → boolean_in (Some false) ≡ word_of t
  unfolding boolean_in word_of
  word_no e f = rw (sym yes_is ∙ e, sym no_is ∙ f) refl

  pub word_neither : yes ≡ false → no ≡ false → boolean_in None ≡ word_of t
  unfolding boolean_in word_of
  word_neither e f = rw (sym yes_is ∙ e, sym no_is ∙ f) refl

-- ---- A number first

module _ (t : List ℕ) where
  pub truth_word : number_in None ≡ i64_of t → word_of (map lowercase t) ≡ to_bool t
  unfolding number_in to_bool non_zero or_else
  truth_word e = rw (← e) refl

  -- the code compares a number's bits
  pub truth_number : (z : ℤ) → SFits w64 z → number_in (Some z) ≡ i64_of t → boolean_in (Some (not (eqb (of_z w64 z) 0))) ≡ to_bool t
  unfolding number_in boolean_in to_bool non_zero or_else
  truth_number z f e = rw (← e) (ap (λ b. some (not b)) (at z f (eqb_tells (of_z w64 z) 0)))
    where
      at : (z : ℤ) → SFits w64 z → ((eqb (of_z w64 z) 0 ≡ true) × (of_z w64 z ≡ 0)) ⊎ ((eqb (of_z w64 z) 0 ≡ false) × (of_z w64 z ≢ 0)) → eqb (of_z w64 z) 0 ≡ eqb (nat_abs z) 0
      at z f (inl h) = let zero_is : z ≡ pos 0 = sym (to_z-of_z f) ∙ ap (to_z w64) h.1 in rw zero_is refl
      at (pos n) f (inr h) = refl
      at (negsuc n) f (inr h) = h.0 ∙ sym (ne_eqb (suc n) 0 (λ e. omega arith))
