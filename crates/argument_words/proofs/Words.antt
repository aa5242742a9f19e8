-- An argument that is none of some words, and the first byte of an argument by its length. Assumes nothing.
use Rattle.std.specs.Prelude.{Some, None, IsUtf8}
use Rattle.std.specs.Str.{IsAscii}
use Rattle.std.proofs.Common.{subst}
use Rattle.std.proofs.lemmas.Str.{IsUtf8-from_ascii}
use mathlib.Core.Bool.{Bool, true, false, ◌&&◌}
use mathlib.Core.List.{List, [], ◌∷◌}
use mathlib.Core.Path.{◌≡◌, refl, sym}
use Prim.Native.Nat.{ℕ, zero, suc, ◌-◌, ◌≤◌, ◌<◌}
use native.Mathlib.Omega.{arith}
use lib.Dec.{ltb}
use borrow.Author.Tests.{ltb-true, eq-eqb, ne_eqb}
use lib.ListN.{length, get_or}
use Rattle.laws.proofs.Lists.{and_true, same_eq, in_range, below_range, above_range}
use Rattle.definition.specs.Lists.{same}
use Rattle.argument_words.specs.Words.{descriptor, is_option}

-- what `match` has found to be another word
pub other_word : (a t : List ℕ) → (a ≡ t → ⊥) → same a t ≡ false
other_word a t n = at (same a t) refl
  where
    at : (b : Bool) → same a t ≡ b → same a t ≡ false
    at true e = absurd (n (same_eq a t e))
    at false e = e

-- ASCII characters alone
abbrev pub plain : List ℕ → Bool
plain [] = true
plain (c ∷ t) = ltb c 128 && plain t

plain_ascii : (t : List ℕ) → plain t ≡ true → IsAscii t
plain_ascii [] u i = omega arith
plain_ascii (c ∷ t) u zero = ltb-true _ _ (and_true _ _ u).0
plain_ascii (c ∷ t) u (suc i) = plain_ascii t (and_true _ _ u).1 i

-- what is no text is no word
pub no_text : (a t : List ℕ) → (IsUtf8 a → ⊥) → plain t ≡ true → same a t ≡ false
no_text a t n u = other_word a t (λ e. n (subst IsUtf8 (sym e) (IsUtf8-from_ascii t (plain_ascii t u))))

-- a descriptor, by the argument's length and its byte
pub digit_in : (a : List ℕ) → 1 ≤ length a → length a < 2 → 51 ≤ get_or a 0 0 → get_or a 0 0 < 58 → Some (get_or a 0 0 - 48) ≡ descriptor a
unfolding descriptor
digit_in [] g h l m = absurd (omega arith)
digit_in (c ∷ []) g h l m = rw (in_range 51 57 c l (omega arith)) refl
digit_in (c ∷ d ∷ t) g h l m = absurd (omega arith)

pub digit_below : (a : List ℕ) → length a < 2 → get_or a 0 0 < 51 → None ≡ descriptor a
unfolding descriptor
digit_below [] h l = refl
digit_below (c ∷ []) h l = rw (below_range 51 57 c l) refl
digit_below (c ∷ d ∷ t) h l = absurd (omega arith)

pub digit_above : (a : List ℕ) → 58 ≤ get_or a 0 0 → None ≡ descriptor a
unfolding descriptor
digit_above [] l = refl
digit_above (c ∷ []) l = rw (above_range 51 57 c (omega arith)) refl
digit_above (c ∷ d ∷ t) l = refl

pub no_byte : (a : List ℕ) → length a < 1 → None ≡ descriptor a
unfolding descriptor
no_byte [] h = refl
no_byte (c ∷ t) h = absurd (omega arith)

pub more_bytes : (a : List ℕ) → 2 ≤ length a → None ≡ descriptor a
unfolding descriptor
more_bytes [] h = refl
more_bytes (c ∷ []) h = absurd (omega arith)
more_bytes (c ∷ d ∷ t) h = refl

-- an option, by the argument's length and its first byte
pub short_word : (a : List ℕ) → length a < 2 → false ≡ is_option a
unfolding is_option
short_word [] h = refl
short_word (c ∷ []) h = refl
short_word (c ∷ d ∷ t) h = absurd (omega arith)

pub dashed : (a : List ℕ) → 2 ≤ length a → get_or a 0 0 ≡ 45 → true ≡ is_option a
unfolding is_option
dashed [] h e = absurd (omega arith)
dashed (c ∷ []) h e = absurd (omega arith)
dashed (c ∷ d ∷ t) h e = sym (eq-eqb c 45 e)

pub undashed : (a : List ℕ) → (get_or a 0 0 ≡ 45 → ⊥) → false ≡ is_option a
unfolding is_option
undashed [] n = refl
undashed (c ∷ []) n = refl
undashed (c ∷ d ∷ t) n = sym (ne_eqb c 45 n)
