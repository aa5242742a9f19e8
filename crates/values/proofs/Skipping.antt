-- The blanks after `:`, one step at a time. Assumes nothing.
use Rattle.std.specs.Prelude.{if◌then◌else◌}
use mathlib.Core.Bool.{Bool, true, false, ◌&&◌}
use mathlib.Core.List.{List, [], ◌∷◌}
use mathlib.Core.Path.{◌≡◌, refl, ap, ◌∙◌}
use Prim.Native.Nat.{ℕ, suc, ◌+◌, ◌-◌, ◌≤◌, ◌<◌}
use native.Mathlib.Omega.{arith}
use lib.Dec.{eqb}
use lib.ListN.{length, take, drop, get_or, length-drop}
use lib.Seq.{drop-cons}
use borrow.Author.Tests.{eq-eqb, ne_eqb}
use Rattle.definition.specs.Bytes.{newline, backslash, is_blank}
use Rattle.definition.specs.Text.{after_blanks}
use Rattle.laws.proofs.Lists.{part_rest, Suffix, suffix_whole}
use Rattle.laws.proofs.Written.{blank_first, other_first}
use Rattle.scan.proofs.Suffixes.{suffix_cons, suffix_none}
use Rattle.values.specs.Decoded.{blanks_at}

-- ---- What stands first

no_byte : (u : List ℕ) → length u < 1 → after_blanks u ≡ u
unfolding after_blanks
no_byte [] h = refl
no_byte (c ∷ u) h = absurd (omega arith)

blank : (u : List ℕ) → 0 < length u → is_blank (get_or u 0 0) ≡ true → after_blanks u ≡ after_blanks (drop 1 u)
blank [] h e = absurd (omega arith)
blank (c ∷ u) h e = blank_first c u e

other : (u : List ℕ) → 0 < length u → is_blank (get_or u 0 0) ≡ false → (get_or u 0 0 ≡ backslash → ⊥) → after_blanks u ≡ u
other [] h e f = absurd (omega arith)
other (c ∷ u) h e f = other_first c u e f

last : (u : List ℕ) → length u < 2 → is_blank (get_or u 0 0) ≡ false → after_blanks u ≡ u
unfolding after_blanks
last [] h e = refl
last (c ∷ []) h e = rw e refl
last (c ∷ d ∷ u) h e = absurd (omega arith)

kept : (u : List ℕ) → 1 < length u → is_blank (get_or u 0 0) ≡ false → (get_or u 1 0 ≡ newline → ⊥) → after_blanks u ≡ u
unfolding after_blanks
kept [] h e f = absurd (omega arith)
kept (c ∷ []) h e f = absurd (omega arith)
kept (c ∷ d ∷ u) h e f = rw (e, ne_eqb d newline f) (at (eqb c backslash))
  where
    at : (b : Bool) → (if (b && false) then after_blanks u else c ∷ d ∷ u) ≡ c ∷ d ∷ u
    at true = refl
    at false = refl

joined : (u : List ℕ) → 1 < length u → is_blank (get_or u 0 0) ≡ false → get_or u 0 0 ≡ backslash → get_or u 1 0 ≡ newline → after_blanks u ≡ after_blanks (drop 2 u)
unfolding after_blanks
joined [] h e f g = absurd (omega arith)
joined (c ∷ []) h e f g = absurd (omega arith)
joined (c ∷ d ∷ u) h e f g = rw (e, eq-eqb c backslash f, eq-eqb d newline g) refl

-- ---- The loop

-- u is left of t
pub record Left (t u : List ℕ) : Type 0 where
  pub same : after_blanks t ≡ after_blanks u
  pub shorter : length u ≤ length t

pub left_all : (t : List ℕ) → Left t t
left_all t = record { same = refl; shorter = omega arith }

module _ {t u : List ℕ} (l : Left t u) where
  over : after_blanks u ≡ u → length t - length u ≡ blanks_at t
  over e = omega (arith, ap length (l.same ∙ e), l.shorter)

  -- without its first n bytes, as the code takes it
  less : (n : ℕ) → after_blanks u ≡ after_blanks (drop n u) → Left t (take (length u - n) (drop n u))
  less n e = rw (part_rest u n) (record { same = l.same ∙ e; shorter = omega (arith, length-drop n u, l.shorter) })

  pub left_none : length u < 1 → length t - length u ≡ blanks_at t
  left_none h = over (no_byte u h)

  pub left_blank : 0 < length u → is_blank (get_or u 0 0) ≡ true → Left t (take (length u - 1) (drop 1 u))
  left_blank h e = less 1 (blank u h e)

  module _ (e : is_blank (get_or u 0 0) ≡ false) where
    pub left_other : 0 < length u → (get_or u 0 0 ≡ backslash → ⊥) → length t - length u ≡ blanks_at t
    left_other h f = over (other u h e f)

    pub left_last : length u < 2 → length t - length u ≡ blanks_at t
    left_last h = over (last u h e)

    pub left_kept : 1 < length u → (get_or u 1 0 ≡ newline → ⊥) → length t - length u ≡ blanks_at t
    left_kept h f = over (kept u h e f)

    pub left_joined : 1 < length u → get_or u 0 0 ≡ backslash → get_or u 1 0 ≡ newline → Left t (take (length u - 2) (drop 2 u))
    left_joined h f g = less 2 (joined u h e f g)

-- ---- The same by places

-- i bytes are dropped of t
pub record Dropping (t : List ℕ) (i : ℕ) : Type 0 where
  pub same : after_blanks t ≡ after_blanks (drop i t)
  pub inside : i ≤ length t

pub dropping_none : (t : List ℕ) → Dropping t 0
dropping_none t = record { same = refl; inside = omega arith }

module _ {t : List ℕ} {i : ℕ} (d : Dropping t i) (h : i < length t) where
  pub dropping_blank : is_blank (get_or t i 0) ≡ true → Dropping t (i + 1)
  dropping_blank e =
      let z : i + 1 ≡ suc i = omega arith in
      record { same = d.same ∙ rw (z, drop-cons t i 0 h) (blank_first (get_or t i 0) (drop (suc i) t) e); inside = omega arith }

  pub dropping_other : is_blank (get_or t i 0) ≡ false → (get_or t i 0 ≡ backslash → ⊥) → i ≡ blanks_at t
  dropping_other e f =
      let k : after_blanks (drop i t) ≡ drop i t = rw (drop-cons t i 0 h) (other_first (get_or t i 0) (drop (suc i) t) e f) in
      omega (arith, ap length (d.same ∙ k), length-drop i t, d.inside)

-- ---- What is left

pub blanks_suffix : (t : List ℕ) → Suffix (after_blanks t) t
unfolding after_blanks
blanks_suffix [] = suffix_whole []
blanks_suffix (c ∷ []) = at (is_blank c)
  where
    at : (b : Bool) → Suffix (if b then [] else c ∷ []) (c ∷ [])
    at true = suffix_none (c ∷ [])
    at false = suffix_whole (c ∷ [])
blanks_suffix (c ∷ d ∷ t) = at (is_blank c) (eqb c backslash && eqb d newline) (blanks_suffix (d ∷ t)) (blanks_suffix t)
  where
    at : (a b : Bool) → Suffix (after_blanks (d ∷ t)) (d ∷ t) → Suffix (after_blanks t) t
        → Suffix (if a then after_blanks (d ∷ t) else if b then after_blanks t else c ∷ d ∷ t) (c ∷ d ∷ t)
    at true b s u = suffix_cons c s
    at false true s u = suffix_cons c (suffix_cons d u)
    at false false s u = suffix_whole (c ∷ d ∷ t)

-- as the borrow checker gives it
pub blanks_left : (t : List ℕ) (n : ℕ) → n ≡ blanks_at t → take (length t - n) (drop n t) ≡ after_blanks t
blanks_left t n e = part_rest t n ∙ rw e (blanks_suffix t).same
