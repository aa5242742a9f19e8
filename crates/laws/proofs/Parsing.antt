-- Laws of taking things off the front of a text. Assumes nothing.
use mathlib.Core.List.{List, [], ◌∷◌}
use mathlib.Core.Path.{◌≡◌, refl}
use Prim.Native.Nat.{ℕ, zero, suc, ◌≤◌, ◌<◌}
use native.Mathlib.Nat.{le_refl}
use native.Mathlib.Omega.{arith}
use lib.ListN.{length}
use Rattle.definition.specs.Parsing.{Parse, nothing, found, parsed, continued, at_most, many}

-- what p takes is a byte or more
abbrev pub Shrinks : {A : Type 0} → (List ℕ → Parse A) → Type 0
Shrinks {A} p = (t : List ℕ) (a : A) (u : List ℕ) → p t ≡ found a u → length u < length t

module _ {A : Type 0} (p : List ℕ → Parse A) (shrinks : Shrinks p) where
  -- any number of turns that is enough gives the same
  enough : (n m : ℕ) (t : List ℕ) → length t ≤ n → length t ≤ m → at_most n p t ≡ at_most m p t
  unfolding at_most continued
  enough zero zero t h k = refl
  enough zero (suc m) t h k = at (p t) refl
    where
      at : (r : Parse A) → p t ≡ r → parsed [] t ≡ continued r (at_most m p) t
      at nothing e = refl
      at (found a u) e = absurd (omega (arith, shrinks t a u e))
  enough (suc n) zero t h k = at (p t) refl
    where
      at : (r : Parse A) → p t ≡ r → continued r (at_most n p) t ≡ parsed [] t
      at nothing e = refl
      at (found a u) e = absurd (omega (arith, shrinks t a u e))
  enough (suc n) (suc m) t h k = at (p t) refl (λ u. enough n m u)
    where
      at : (r : Parse A) → p t ≡ r → ((u : List ℕ) → length u ≤ n → length u ≤ m → at_most n p u ≡ at_most m p u)
          → continued r (at_most n p) t ≡ continued r (at_most m p) t
      at nothing e ih = refl
      at (found a u) e ih =
          let s = shrinks t a u e in
          let q : at_most n p u ≡ at_most m p u = ih u (omega arith) (omega arith) in
          λ i. parsed (a ∷ (q i).items) (q i).rest

  -- nothing more stands there
  pub many_stop : (t : List ℕ) → p t ≡ nothing → many p t ≡ parsed [] t
  unfolding many at_most continued
  many_stop [] e = refl
  many_stop (c ∷ t) e = rw e refl

  -- one, and then the others
  pub many_more : (t : List ℕ) (a : A) (u : List ℕ) → p t ≡ found a u → many p t ≡ parsed (a ∷ (many p u).items) (many p u).rest
  unfolding many at_most continued
  many_more [] a u e = absurd (omega (arith, shrinks [] a u e))
  many_more (c ∷ t) a u e =
      let s = shrinks (c ∷ t) a u e in
      let q : at_most (length t) p u ≡ at_most (length u) p u = enough (length t) (length u) u (omega arith) (le_refl (length u)) in
      rw e (λ i. parsed (a ∷ (q i).items) (q i).rest)
