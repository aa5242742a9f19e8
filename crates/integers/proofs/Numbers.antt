-- How the code reads a number. Assumes nothing.
use Rattle.std.specs.Prelude.{if◌then◌else◌, Some, None, SomeIff}
use Rattle.std.specs.Prelude.{Option as Answer}
use mathlib.Core.Bool.{Bool, true, false}
use mathlib.Core.List.{List, [], ◌∷◌}
use mathlib.Core.Option.{Option, some, none}
use mathlib.Core.Path.{◌≡◌, refl, sym, ap, ◌∙◌}
use Prim.Native.Nat.{ℕ, zero, suc, ◌+◌, ◌*◌, ◌-◌, ◌≤◌, ◌<◌, ◌^◌}
use native.Mathlib.Numerals.{add-one}
use native.Mathlib.Omega.{arith}
use mathlib.Core.Logic.{inl, inr}
use Rattle.std.proofs.lemmas.Bool.{cases_lt}
use lib.Dec.{leb}
use lib.IntN.{ℤ, pos, neg_ℤ, ◌+ℤ◌, ◌-ℤ◌, +ℤ_idl}
use lib.ListN.{length, get_or, take, drop, drop_of_length-le}
use lib.Seq.{drop-cons}
use borrow.Author.Tests.{le-leb, lt-leb, leb-false, eq-eqb, ne_eqb}
use mir.Syntax.{w64}
use mir.Val.{SFits}
use Rattle.definition.specs.Lists.{all, is_empty}
use Rattle.definition.specs.Bytes.{plus, minus, within, is_digit}
use Rattle.definition.specs.Text.{positional}
use Rattle.definition.specs.Value.{natural_of, signed, i64_of}
use Rattle.laws.proofs.Lists.{part_rest}
use Rattle.integers.specs.Readings.{magnitude, natural_in, number_in}

-- ---- Digits

-- the number that the digits t give after n
unfoldable pub after : ℕ → List ℕ → Option ℕ
after n t = if all is_digit t then some (positional 10 n t) else none

pub natural_none : (t : List ℕ) → length t ≡ 0 → magnitude (natural_of t) ≡ none
unfolding natural_of is_empty magnitude
natural_none [] e = refl
natural_none (c ∷ t) e = absurd (omega arith)

pub natural_first : (t : List ℕ) → (length t ≡ 0 → ⊥) → natural_of t ≡ after 0 t
unfolding natural_of is_empty after
natural_first [] z = absurd (z refl)
natural_first (c ∷ t) z = refl

positional_le : (n : ℕ) (t : List ℕ) → n ≤ positional 10 n t
unfolding positional
positional_le n [] = omega arith
positional_le n (c ∷ t) = omega (arith, positional_le (n * 10 + (c - 48)) t)

-- past the range, more digits leave it so
past_range : (n : ℕ) (t : List ℕ) → 2 ^ 63 < n → magnitude (after n t) ≡ none
unfolding magnitude after
past_range n t h = at (all is_digit t)
  where
    at : (b : Bool) → magnitude (if b then some (positional 10 n t) else none) ≡ none
    at true = rw (lt-leb (positional 10 n t) (2 ^ 63) (omega (arith, positional_le n t))) refl
    at false = refl

module _ (t : List ℕ) (n i : ℕ) where
  module _ (h : i < length t) where
    pub digits_more : within 48 57 (get_or t i 0) ≡ true → after n (drop i t) ≡ after (n * 10 + (get_or t i 0 - 48)) (drop (i + 1) t)
    unfolding after all positional is_digit
    digits_more e = rw (add-one i, drop-cons t i 0 h, e) refl

    pub digits_stop : within 48 57 (get_or t i 0) ≡ false → magnitude (after n (drop i t)) ≡ none
    unfolding after all is_digit magnitude
    digits_stop e = rw (drop-cons t i 0 h, e) refl

    pub digits_past : 2 ^ 63 < n * 10 + (get_or t i 0 - 48) → within 48 57 (get_or t i 0) ≡ true → magnitude (after n (drop i t)) ≡ none
    digits_past k e = ap magnitude (digits_more e) ∙ past_range (n * 10 + (get_or t i 0 - 48)) (drop (i + 1) t) k

  module _ (h : length t ≤ i) where
    pub digits_large : 2 ^ 63 < n → magnitude (after n (drop i t)) ≡ none
    unfolding after all positional magnitude
    digits_large k = rw (drop_of_length-le t h, lt-leb n (2 ^ 63) k) refl

    pub digits_end : n ≤ 2 ^ 63 → magnitude (after n (drop i t)) ≡ some n
    unfolding after all positional magnitude
    digits_end k = rw (drop_of_length-le t h, le-leb n (2 ^ 63) k) refl

-- ---- Signs

pub signed_magnitude : (b : Bool) (o : Option ℕ) → signed b (magnitude o) ≡ signed b o
unfolding magnitude signed
signed_magnitude b none = refl
signed_magnitude b (some n) = at b (leb n (2 ^ 63)) refl
  where
    at : (b x : Bool) → leb n (2 ^ 63) ≡ x → signed b (if x then some n else none) ≡ signed b (some n)
    at b true e = refl
    at true false e = rw e refl
    at false false e = rw (lt-leb n (2 ^ 63 - 1) (omega (arith, leb-false n (2 ^ 63) e))) refl

-- what was read, with a sign
pub natural_signed : (b : Bool) (n : ℕ) (o : Option ℕ) → natural_in (Some n) ≡ magnitude o → signed b (some n) ≡ signed b o
unfolding natural_in
natural_signed b n o e = ap (signed b) e ∙ signed_magnitude b o

pub nothing_signed : (b : Bool) (o : Option ℕ) → natural_in None ≡ magnitude o → number_in None ≡ signed b o
unfolding natural_in number_in signed
nothing_signed b o e = ap (signed b) e ∙ signed_magnitude b o

-- 0 less n, and n more than 0, where an i64 has it
most_minus : (n : ℕ) → SFits w64 (neg_ℤ (pos n)) → n ≤ 2 ^ 63
most_minus zero h = omega arith
most_minus (suc n) h = omega (arith, h.sfits)

fits_minus : (n : ℕ) → n ≤ 2 ^ 63 → SFits w64 (neg_ℤ (pos n))
fits_minus zero h = record { sfits = omega arith }
fits_minus (suc n) h = record { sfits = omega arith }

past_minus : (n : ℕ) → (SFits w64 (neg_ℤ (pos n)) → ⊥) → 2 ^ 63 < n
past_minus n k = elim (cases_lt (2 ^ 63) n) [ inl h ↦ h | inr h ↦ absurd (k (fits_minus n h)) ]

past_plus : (n : ℕ) → (SFits w64 (pos n) → ⊥) → 2 ^ 63 - 1 < n
past_plus n k = elim (cases_lt (2 ^ 63 - 1) n) [ inl h ↦ h | inr h ↦ absurd (k (record { sfits = omega arith })) ]

module _ (n : ℕ) where
  pub number_minus : (r : Answer ℤ) → SomeIff r (SFits w64 (pos 0 -ℤ pos n)) (pos 0 -ℤ pos n) → number_in r ≡ signed true (some n)
  unfolding number_in signed
  number_minus r e = at r (rw (+ℤ_idl (neg_ℤ (pos n))) at e)
    where
      at : (r : Answer ℤ) → SomeIff r (SFits w64 (neg_ℤ (pos n))) (neg_ℤ (pos n)) → number_in r ≡ signed true (some n)
      at (Some z) e = rw (e.1, le-leb n (2 ^ 63) (most_minus n e.0)) refl
      at None e = rw (lt-leb n (2 ^ 63) (past_minus n e)) refl

  pub number_plus : (r : Answer ℤ) → SomeIff r (SFits w64 (pos 0 +ℤ pos n)) (pos 0 +ℤ pos n) → number_in r ≡ signed false (some n)
  unfolding number_in signed
  number_plus r e = at r (rw (+ℤ_idl (pos n)) at e)
    where
      at : (r : Answer ℤ) → SomeIff r (SFits w64 (pos n)) (pos n) → number_in r ≡ signed false (some n)
      at (Some z) e = rw (e.1, le-leb n (2 ^ 63 - 1) (omega (arith, e.0.sfits))) refl
      at None e = rw (lt-leb n (2 ^ 63 - 1) (past_plus n e)) refl

-- ---- The sign first

-- the text is its first byte and the rest
module _ (t : List ℕ) where
  pub number_after_minus : 0 < length t → get_or t 0 0 ≡ minus → signed true (natural_of (take (length t - 1) (drop 1 t))) ≡ i64_of t
  unfolding i64_of
  number_after_minus h e = rw (part_rest t 1) (sym (ap i64_of (drop-cons t 0 0 h) ∙ rw (eq-eqb (get_or t 0 0) minus e) refl))

  pub number_after_plus : 0 < length t → (get_or t 0 0 ≡ minus → ⊥) → get_or t 0 0 ≡ plus → signed false (natural_of (take (length t - 1) (drop 1 t))) ≡ i64_of t
  unfolding i64_of
  number_after_plus h k e =
      rw (part_rest t 1) (sym (ap i64_of (drop-cons t 0 0 h) ∙ rw (ne_eqb (get_or t 0 0) minus k, eq-eqb (get_or t 0 0) plus e) refl))

pub number_unsigned : (t : List ℕ) → (0 < length t → get_or t 0 0 ≡ minus → ⊥) → (0 < length t → get_or t 0 0 ≡ plus → ⊥) → signed false (natural_of t) ≡ i64_of t
unfolding i64_of signed natural_of is_empty
number_unsigned [] k z = refl
number_unsigned (c ∷ t) k z = rw (ne_eqb c minus (k (omega arith)), ne_eqb c plus (z (omega arith))) refl
