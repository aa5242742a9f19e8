-- The parts of a text, cut off one after another. Assumes nothing.
use Rattle.std.specs.Prelude.{if◌then◌else◌}
use mathlib.Core.Bool.{Bool, true, false, not}
use mathlib.Core.List.{List, [], ◌∷◌, ◌++◌}
use mathlib.Core.Path.{◌≡◌, refl, sym, ap, ◌∙◌}
use Prim.Native.Nat.{ℕ, ◌+◌, ◌≤◌, ◌<◌}
use native.Mathlib.Omega.{arith}
use native.Mathlib.Numerals.{add-one}
use lib.Dec.{eqb}
use lib.ListN.{length, take, drop, drop_of_length-le}
use lib.Seq.{drop-cons}
use borrow.Author.Tests.{eq-eqb, ne_eqb, eqb-true, eqb-false}
use Rattle.definition.specs.Lists.{all, take_while, drop_while}
use Rattle.definition.specs.Bytes.{slash}
use Rattle.definition.specs.Archive.{prefixed, split}
use Rattle.laws.proofs.Lists.{take_run, drop_run, length_take_while_le}
use Rattle.laws.proofs.Archive.{split_some}
use Rattle.paths.specs.Parts.{not_slash}

-- what stands behind a part
rest_of : List ℕ → List (List ℕ)
rest_of [] = []
rest_of (c ∷ u) = split u

slash_turned : (c : ℕ) (b : Bool) → eqb slash c ≡ b → eqb c slash ≡ b
slash_turned c true e = eq-eqb c slash (sym (eqb-true slash c e))
slash_turned c false e = ne_eqb c slash (λ q. eqb-false slash c e (sym q))

split_first : (t : List ℕ) → split t ≡ take_while not_slash t ∷ rest_of (drop_while not_slash t)
unfolding split prefixed take_while drop_while rest_of
split_first [] = refl
split_first (c ∷ t) = at (eqb slash c) refl (split_first t)
  where
    at : (b : Bool) → eqb slash c ≡ b → split t ≡ take_while not_slash t ∷ rest_of (drop_while not_slash t)
        → (if eqb c slash then [] ∷ split t else prefixed c (split t))
        ≡ (if not b then c ∷ take_while not_slash t else []) ∷ rest_of (if not b then drop_while not_slash t else c ∷ t)
    at true e ih = rw (slash_turned c true e) refl
    at false e ih = rw (slash_turned c false e, ih) refl

module _ (t : List ℕ) (n : ℕ) (en : n ≡ length (take_while not_slash t)) where
  part_is : take n t ≡ take_while not_slash t
  part_is = ap (λ k. take k t) en ∙ take_run not_slash t

  rest_is : drop n t ≡ drop_while not_slash t
  rest_is = ap (λ k. drop k t) en ∙ drop_run not_slash t

  pub part_most : n ≤ length t
  part_most = omega (arith, en, length_take_while_le not_slash t)

  -- the last part
  pub split_last : n ≡ length t → split t ≡ take n t ∷ []
  unfolding rest_of
  split_last e =
      let m : length t ≤ n = omega arith in
      let f : drop n t ≡ [] = drop_of_length-le t m in
      rw (split_first t, part_is, ← rest_is, f) refl

  -- a part, and those behind its `/`
  pub split_on : n < length t → split t ≡ take n t ∷ split (drop (n + 1) t)
  unfolding rest_of
  split_on h = rw (split_first t, part_is, ← rest_is, drop-cons t n 0 h, add-one) refl

-- no part has a `/`
prefixed_free : (c : ℕ) (ps : List (List ℕ)) → not_slash c ≡ true → all (all not_slash) ps ≡ true → all (all not_slash) (prefixed c ps) ≡ true
unfolding prefixed all
prefixed_free c [] h k = rw h refl
prefixed_free c (p ∷ ps) h k = rw h k

pub split_free : (t : List ℕ) → all (all not_slash) (split t) ≡ true
unfolding split all
split_free [] = refl
split_free (c ∷ t) = at (eqb slash c) refl (split_free t)
  where
    at : (b : Bool) → eqb slash c ≡ b → all (all not_slash) (split t) ≡ true
        → all (all not_slash) (if eqb c slash then [] ∷ split t else prefixed c (split t)) ≡ true
    at true e ih = rw (slash_turned c true e) ih
    at false e ih = rw (slash_turned c false e) (prefixed_free c (split t) (ap not e) ih)

prefixed_append : (c : ℕ) (t : List ℕ) (qs : List (List ℕ)) → prefixed c (split t ++ qs) ≡ prefixed c (split t) ++ qs
unfolding prefixed
prefixed_append c t qs = let s = split_some t in rw s.2 refl

pub split_append : (a u : List ℕ) → split (a ++ slash ∷ u) ≡ split a ++ split u
unfolding split
split_append [] u = refl
split_append (c ∷ a) u = at (eqb c slash) (split_append a u)
  where
    at : (b : Bool) → split (a ++ slash ∷ u) ≡ split a ++ split u
        → (if b then [] ∷ split (a ++ slash ∷ u) else prefixed c (split (a ++ slash ∷ u)))
        ≡ (if b then [] ∷ split a else prefixed c (split a)) ++ split u
    at true ih = ap (λ (l : List (List ℕ)). [] ∷ l) ih
    at false ih = ap (prefixed c) ih ∙ prefixed_append c a (split u)
