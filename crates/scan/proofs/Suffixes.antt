-- What a parser leaves of a text is the text from some place on. Assumes nothing.
use mathlib.Core.List.{List, [], ◌∷◌}
use mathlib.Core.Path.{◌≡◌}
use Prim.Native.Nat.{ℕ, zero, suc, ◌-◌}
use native.Mathlib.Omega.{arith}
use lib.ListN.{length, drop_of_length-le}
use Rattle.definition.specs.Parsing.{Parse, nothing, found, continued, at_most, many}
use Rattle.laws.proofs.Lists.{Suffix, suffix_whole, suffix_drop}
use Rattle.laws.proofs.Keys.{Finds}

module _ {A : Type 0} where
  pub suffix_cons : (c : A) {u t : List A} → Suffix u t → Suffix u (c ∷ t)
  suffix_cons c {u} {t} s =
      let e : suc (length t) - length u ≡ suc (length t - length u) = omega (arith, s.most) in
      record { most = omega (arith, s.most); same = rw e s.same }

  pub suffix_none : (t : List A) → Suffix [] t
  suffix_none t = record { most = omega arith; same = drop_of_length-le t {i = length t - 0} (omega arith) }

  pub suffix_trans : {w u t : List A} → Suffix w u → Suffix u t → Suffix w t
  suffix_trans {w} {u} r s = rw r.same at (suffix_drop s (length u - length w) (omega arith))

-- what is left after what was found, if anything, is the rest of t
abbrev pub LeavesRest : {A : Type 0} → List ℕ → Parse A → Type 0
LeavesRest t r = Finds (λ a u. Suffix u t) r

module _ {A : Type 0} (p : List ℕ → Parse A) (leaves : (t : List ℕ) → LeavesRest t (p t)) where
  at_most_suffix : (n : ℕ) (t : List ℕ) → Suffix (at_most n p t).rest t
  unfolding at_most continued
  at_most_suffix zero t = suffix_whole t
  at_most_suffix (suc n) t = at (p t) (leaves t) (λ u. at_most_suffix n u)
    where
      at : (r : Parse A) → LeavesRest t r → ((u : List ℕ) → Suffix (at_most n p u).rest u) → Suffix (continued r (at_most n p) t).rest t
      at nothing s ih = suffix_whole t
      at (found a u) s ih = suffix_trans (ih u) s

  pub many_suffix : (t : List ℕ) → Suffix (many p t).rest t
  unfolding many
  many_suffix t = at_most_suffix (length t) t
