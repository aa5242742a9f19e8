-- A query's positions, one by one. Assumes nothing.
use mathlib.Core.List.{List, [], ◌∷◌, ◌++◌}
use mathlib.Core.Option.{Option, some, none}
use mathlib.Core.Path.{◌≡◌, refl, sym, ap, ◌∙◌}
use Prim.Native.Nat.{ℕ, zero, suc, ◌+◌, ◌-◌, ◌≤◌, ◌<◌, max}
use native.Mathlib.Omega.{arith}
use native.Mathlib.Numerals.{add-one}
use native.Mathlib.Decide.{dec_lt}
use lib.ListN.{length, get_or, take, drop, length-map, length-take, length-drop, drop_of_length-le, take-append-drop}
use borrow.Author.Tests.{lt-ltb, le-ltb}
use Rattle.definition.specs.Query.{Position, positions_of}
use Rattle.query.specs.Splits.{part_in, names_in, Inside}
use Rattle.query.proofs.Splits.{length_names, name_at}
use Rattle.positions.specs.Parts.{part_at, part_of, position_of, queried}

-- the i-th, if there is one
unfoldable nth : {A : Type 0} → List A → ℕ → Option A
nth [] i = none
nth (x ∷ xs) zero = some x
nth (x ∷ xs) (suc i) = nth xs i

length_positions : (ns cs : List (List ℕ)) → length (positions_of ns cs) ≡ max (length ns) (length cs)
unfolding positions_of
length_positions [] cs = length-map cs _ ∙ (omega arith)
length_positions (n ∷ ns) [] = let e = length_positions ns [] in omega arith
length_positions (n ∷ ns) (c ∷ cs) = let e = length_positions ns cs in omega arith

position_at : (ns cs : List (List ℕ)) (i : ℕ) → i < max (length ns) (length cs)
    → drop i (positions_of ns cs) ≡ record { instance = nth ns i; class = nth cs i } ∷ drop (suc i) (positions_of ns cs)
unfolding positions_of nth
position_at [] [] i h = absurd (omega arith)
position_at [] (c ∷ cs) zero h = refl
position_at [] (c ∷ cs) (suc i) h = position_at [] cs i (omega arith)
position_at (n ∷ ns) [] zero h = refl
position_at (n ∷ ns) [] (suc i) h = position_at ns [] i (omega arith)
position_at (n ∷ ns) (c ∷ cs) zero h = refl
position_at (n ∷ ns) (c ∷ cs) (suc i) h = position_at ns cs i (omega arith)

module _ {A : Type 0} where
  nth_here : (xs : List A) (i : ℕ) (d : A) → i < length xs → nth xs i ≡ some (get_or xs i d)
  unfolding nth
  nth_here [] i d h = absurd (omega arith)
  nth_here (x ∷ xs) zero d h = refl
  nth_here (x ∷ xs) (suc i) d h = nth_here xs i d (omega arith)

  nth_past : (xs : List A) (i : ℕ) → length xs ≤ i → nth xs i ≡ none
  unfolding nth
  nth_past [] i h = refl
  nth_past (x ∷ xs) zero h = absurd (omega arith)
  nth_past (x ∷ xs) (suc i) h = nth_past xs i (omega arith)

part_some : (t : List ℕ) → 0 < length t → part_of t ≡ some t
unfolding part_of
part_some [] h = absurd (omega arith)
part_some (c ∷ t) h = refl

-- the part at i, and none past the last
module _ (t starts lengths : List ℕ) (i : ℕ) where
  part_here : i < length starts → part_in t starts lengths i ≡ part_at t starts lengths i
  unfolding part_at
  part_here h = rw (lt-ltb i (length starts) h) refl

  pub part_between : i < length starts → take (get_or starts i 0 + get_or lengths i 0 - get_or starts i 0) (drop (get_or starts i 0) t) ≡ part_at t starts lengths i
  part_between h = let z : get_or starts i 0 + get_or lengths i 0 - get_or starts i 0 ≡ get_or lengths i 0 = omega arith in rw z (part_here h)

  pub part_past : length starts ≤ i → [] ≡ part_at t starts lengths i
  unfolding part_at
  part_past h = rw (le-ltb i (length starts) h) refl

  part_is : Inside t starts lengths → nth (names_in t starts lengths) i ≡ part_of (part_at t starts lengths i)
  part_is k = at (dec_lt i (length starts))
    where
      at : Dec (i < length starts) → nth (names_in t starts lengths) i ≡ part_of (part_at t starts lengths i)
      at (yes h) =
          let s : length (part_in t starts lengths i) ≡ get_or lengths i 0 =
          length-take (get_or lengths i 0) (drop (get_or starts i 0) t) ∙ omega (arith, length-drop (get_or starts i 0) t, k.within i h) in
          nth_here (names_in t starts lengths) i [] (omega (arith, length_names t starts lengths)) ∙ ap some (name_at t starts lengths i [] h)
          ∙ sym (rw (← part_here h) (part_some (part_in t starts lengths i) (omega (arith, k.some i h))))
      at (no h) =
          nth_past (names_in t starts lengths) i (omega (arith, length_names t starts lengths)) ∙ rw (← part_past (omega arith)) (unfold part_of in refl)

-- ---- The positions of a split query

module _ (name ns nl class cs cl : List ℕ) where
  abbrev all : List Position
  all = queried name ns nl class cs cl

  pub length_queried : length all ≡ max (length ns) (length cs)
  length_queried = length_positions _ _ ∙ rw (length_names name ns nl, length_names class cs cl) refl

  module _ (I : Inside name ns nl) (J : Inside class cs cl) where
    -- the i-th, of the parts that the code has there
    pub queried_at : (i : ℕ) → i < max (length ns) (length cs) → (n c : List ℕ) → n ≡ part_at name ns nl i → c ≡ part_at class cs cl i
        → drop i all ≡ position_of n c ∷ drop (i + 1) all
    queried_at i h n c e f =
        let k : i < max (length (names_in name ns nl)) (length (names_in class cs cl)) = rw (length_names name ns nl, length_names class cs cl) h in
        position_at (names_in name ns nl) (names_in class cs cl) i k
        ∙ rw (e, f, part_is name ns nl i I, part_is class cs cl i J, add-one) refl

    module _ (last : ℕ) (e : last + 1 ≡ max (length ns) (length cs)) (n c : List ℕ) (d : n ≡ part_at name ns nl last) (f : c ≡ part_at class cs cl last) where
      pub queried_last : drop last all ≡ position_of n c ∷ []
      queried_last =
          let z : drop (last + 1) all ≡ [] = drop_of_length-le all {i = last + 1} (omega (arith, length_queried)) in
          queried_at last (omega arith) n c d f ∙ rw z refl

      -- all positions but the last, and the last
      pub queried_ends : all ≡ take last all ++ (position_of n c ∷ [])
      queried_ends = sym (take-append-drop last all) ∙ ap (λ (l : List Position). take last all ++ l) queried_last
