-- The folder of a name. Assumes nothing.
use Rattle.std.specs.Prelude.{if◌then◌else◌}
use mathlib.Core.Bool.{Bool, true, false, ◌&&◌, ◌||◌, not, or-true}
use mathlib.Core.List.{List, [], ◌∷◌, ◌++◌}
use mathlib.Core.Path.{◌≡◌, refl, sym, ap}
use Prim.Native.Nat.{ℕ, zero, suc, ◌-◌, ◌≤◌, ◌<◌}
use native.Mathlib.Omega.{arith}
use lib.Dec.{eqb}
use lib.ListN.{length, take, drop, get_or, length-append}
use lib.Seq.{drop-cons}
use borrow.Author.Tests.{eq-eqb, ne_eqb}
use Rattle.definition.specs.Lists.{all, any, is_empty}
use Rattle.definition.specs.Bytes.{slash}
use Rattle.definition.specs.Archive.{folder_of, joined}
use Rattle.laws.proofs.Lists.{not_both, any_append, any_get_d}
use Rattle.paths.specs.Parts.{not_slash}

pub next_is : (i : ℕ) → 0 < i → suc (i - 1) ≡ i
next_is i h = omega arith

any_cons : (c : ℕ) (t : List ℕ) → (slash ≡ c → ⊥) → any (eqb slash) (c ∷ t) ≡ any (eqb slash) t
unfolding any
any_cons c t h = rw (ne_eqb slash c h) refl

pub folder_none : (n : List ℕ) → any (eqb slash) n ≡ false → folder_of n ≡ []
unfolding folder_of any
folder_none [] h = refl
folder_none (c ∷ t) h = at (eqb slash c) (any (eqb slash) t) h
  where
    at : (a b : Bool) → (a || b) ≡ false → (if b then c ∷ folder_of t else []) ≡ []
    at true b e = absurd (not_both refl e)
    at false true e = absurd (not_both refl e)
    at false false e = refl

folder_at : (n : List ℕ) (i : ℕ) → i < length n → get_or n i 0 ≡ slash → any (eqb slash) (drop (suc i) n) ≡ false → folder_of n ≡ take i n
unfolding folder_of
folder_at [] i h e k = absurd (omega arith)
folder_at (c ∷ t) zero h e k = rw k refl
folder_at (c ∷ t) (suc i) h e k =
    rw (any_get_d (eqb slash) t i 0 (omega arith) (eq-eqb slash (get_or t i 0) (sym e)), folder_at t i (omega arith) e k) refl

module _ (n : List ℕ) (i : ℕ) (h : 0 < i) (k : i ≤ length n) (none_after : any (eqb slash) (drop i n) ≡ false) where
  pub folder_here : get_or n (i - 1) 0 ≡ slash → folder_of n ≡ take (i - 1) n
  folder_here e = folder_at n (i - 1) (omega arith) e (rw (next_is i h) none_after)

  pub folder_back : (get_or n (i - 1) 0 ≡ slash → ⊥) → any (eqb slash) (drop (i - 1) n) ≡ false
  folder_back e =
      let l : i - 1 < length n = omega arith in
      rw (drop-cons n (i - 1) 0 l, any_cons (get_or n (i - 1) 0) (drop (suc (i - 1)) n) (λ q. e (sym q)), next_is i h) none_after

-- a folder is a front of its name
pub folder_front : (n : List ℕ) → take (length (folder_of n)) n ≡ folder_of n
unfolding folder_of
folder_front [] = refl
folder_front (c ∷ t) = at (any (eqb slash) t) (folder_front t)
  where
    at : (b : Bool) → take (length (folder_of t)) t ≡ folder_of t
        → take (length (if b then c ∷ folder_of t else [])) (c ∷ t) ≡ (if b then c ∷ folder_of t else [])
    at true ih = ap (λ (l : List ℕ). c ∷ l) ih
    at false ih = refl

pub folder_short : (n : List ℕ) → length (folder_of n) ≤ length n
unfolding folder_of
folder_short [] = omega arith
folder_short (c ∷ t) = at (any (eqb slash) t) (folder_short t)
  where
    at : (b : Bool) → length (folder_of t) ≤ length t → length (if b then c ∷ folder_of t else []) ≤ suc (length t)
    at true ih = omega arith
    at false ih = omega arith

-- ---- A part below a path

slash_free : (p : List ℕ) → all not_slash p ≡ true → any (eqb slash) p ≡ false
unfolding all any
slash_free [] h = refl
slash_free (c ∷ p) h = at (eqb slash c) h (slash_free p)
  where
    at : (b : Bool) → (not b && all not_slash p) ≡ true → (all not_slash p ≡ true → any (eqb slash) p ≡ false) → (b || any (eqb slash) p) ≡ false
    at true e ih = absurd (not_both e refl)
    at false e ih = ih e

folder_append : (q p : List ℕ) → any (eqb slash) p ≡ false → folder_of (q ++ slash ∷ p) ≡ q
unfolding folder_of any
folder_append [] p h = rw h refl
folder_append (c ∷ q) p h = rw (any_append (eqb slash) q (slash ∷ p), or-true (any (eqb slash) q), folder_append q p h) refl

pub folder_below : (q p : List ℕ) → all not_slash p ≡ true → folder_of (joined q p) ≡ q
unfolding joined is_empty
folder_below [] p h = folder_none p (slash_free p h)
folder_below (c ∷ q) p h = folder_append (c ∷ q) p (slash_free p h)

pub joined_some : (q p : List ℕ) → is_empty p ≡ false → is_empty (joined q p) ≡ false
unfolding joined is_empty
joined_some [] p h = h
joined_some (c ∷ q) p h = refl

pub joined_long : (q p : List ℕ) → length q ≤ length (joined q p)
unfolding joined is_empty
joined_long [] p = omega arith
joined_long (c ∷ q) p = omega (arith, length-append (c ∷ q) (slash ∷ p))
