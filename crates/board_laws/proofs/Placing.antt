-- Parts of a list that is written over from a place on, and lists made by number. Assumes nothing.
use mathlib.Core.Bool.{Bool, true, ◌&&◌}
use mathlib.Core.List.{List, [], ◌∷◌, ◌++◌, append_assoc, map}
use mathlib.Core.Path.{◌≡◌, refl, sym, ap, ◌∙◌}
use Prim.Native.Nat.{ℕ, zero, suc, ◌+◌, ◌-◌, ◌≤◌, ◌<◌}
use native.Mathlib.Numerals.{add-one}
use native.Mathlib.Omega.{arith}
use lib.ListN.{length, take, drop, get_or, length-append, length-drop, get_or-append}
use lib.Seq.{slice, length-take-le, take-append-le, drop-append-le, drop-append-add, take_at, drop_at, get_or-take, get_or-drop, drop-drop}
use Rattle.definition.specs.Lists.{all}
use Rattle.definition.specs.Adding.{over}
use Rattle.definition.specs.Board.{each}
use Rattle.laws.proofs.Lists.{Order, below, equal, above, order, and_true, and_both, part_slice}

-- ---- Written over

module _ (n : ℕ) (xs lent : List ℕ) (fits : n + length xs ≤ length lent) where
  abbrev rest : List ℕ
  rest = drop (n + length xs) lent

  front_long : length (take n lent) ≡ n
  front_long = length-take-le n lent (omega arith)

  -- what is left from the place on
  drop_over : drop n (over n xs lent) ≡ xs ++ rest
  unfolding over
  drop_over = ap (drop n) (append_assoc (take n lent) xs rest) ∙ drop_at (take n lent) (xs ++ rest) n front_long

  take_over : take n (over n xs lent) ≡ take n lent
  unfolding over
  take_over = ap (take n) (append_assoc (take n lent) xs rest) ∙ take_at (take n lent) (xs ++ rest) n front_long

  drop_over_after : (k : ℕ) → n + length xs ≤ k → drop k (over n xs lent) ≡ drop k lent
  unfolding over
  drop_over_after k h =
      let m = n + length xs in
      let e : length (take n lent ++ xs) ≡ m = omega (arith, length-append (take n lent) xs, front_long) in
      let f : m + (k - m) ≡ k = omega arith in
      sym (ap (λ (j : ℕ). drop j (over n xs lent)) f)
      ∙ ap (λ (j : ℕ). drop (j + (k - m)) (over n xs lent)) (sym e)
      ∙ drop-append-add (take n lent ++ xs) rest (k - m)
      ∙ drop-drop (k - m) m lent
      ∙ ap (λ (j : ℕ). drop j lent) f

  pub at_before : (i : ℕ) → i < n → get_or (over n xs lent) i 0 ≡ get_or lent i 0
  at_before i h = sym (get_or-take n (over n xs lent) i 0 h) ∙ ap (λ (l : List ℕ). get_or l i 0) take_over ∙ get_or-take n lent i 0 h

  pub at_inside : (i : ℕ) → i < length xs → get_or (over n xs lent) (n + i) 0 ≡ get_or xs i 0
  at_inside i h = sym (get_or-drop n (over n xs lent) i 0) ∙ ap (λ (l : List ℕ). get_or l i 0) drop_over ∙ get_or-append xs rest 0 i h

  pub at_after : (i : ℕ) → n + length xs ≤ i → get_or (over n xs lent) i 0 ≡ get_or lent i 0
  at_after i h =
      let e : i + 0 ≡ i = omega arith in
      let f = ap (λ (l : List ℕ). get_or l 0 0) (drop_over_after i h) in
      ap (λ (j : ℕ). get_or (over n xs lent) j 0) (sym e) ∙ sym (get_or-drop i (over n xs lent) 0 0) ∙ f ∙ get_or-drop i lent 0 0 ∙ ap (λ (j : ℕ). get_or lent j 0) e

  pub part_after : (from to : ℕ) → n + length xs ≤ from → slice from to (over n xs lent) ≡ slice from to lent
  part_after from to h =
      sym (part_slice (over n xs lent) from to) ∙ ap (take (to - from)) (drop_over_after from h) ∙ part_slice lent from to

  -- a part of what is written
  pub part_inside : (from to : ℕ) → from ≤ to → to ≤ length xs → slice (n + from) (n + to) (over n xs lent) ≡ slice from to xs
  part_inside from to g h =
      let e : n + to - (n + from) ≡ to - from = omega arith in
      sym (part_slice (over n xs lent) (n + from) (n + to))
      ∙ ap (λ (k : ℕ). take k (drop (n + from) (over n xs lent))) e
      ∙ ap (take (to - from)) (sym (drop-drop from n (over n xs lent)) ∙ ap (drop from) drop_over ∙ drop-append-le from xs rest (omega arith))
      ∙ take-append-le (to - from) (drop from xs) rest (omega (arith, length-drop from xs))
      ∙ part_slice xs from to

-- ---- By number

module _ {A : Type 0} where
  pub each_long : (f : ℕ → A) (i n : ℕ) → length (each f i n) ≡ n
  unfolding each
  each_long f i zero = refl
  each_long f i (suc n) = ap suc (each_long f (suc i) n)

  pub each_same : (f g : ℕ → A) (i n : ℕ) → ((j : ℕ) → i ≤ j → j < i + n → f j ≡ g j) → each f i n ≡ each g i n
  unfolding each
  each_same f g i zero h = refl
  each_same f g i (suc n) h =
      let k : each f (suc i) n ≡ each g (suc i) n = each_same f g (suc i) n (λ j a b. h j (omega arith) (omega arith)) in
      ap (λ (x : A). x ∷ each f (suc i) n) (h i (omega arith) (omega arith)) ∙ ap (λ (l : List A). g i ∷ l) k

  pub each_shift : (f : ℕ → A) (i n : ℕ) → each (λ j. f (suc j)) i n ≡ each f (suc i) n
  unfolding each
  each_shift f i zero = refl
  each_shift f i (suc n) = ap (λ (l : List A). f (suc i) ∷ l) (each_shift f (suc i) n)

  pub each_split : (f : ℕ → A) (i n m : ℕ) → each f i (n + m) ≡ each f i n ++ each f (i + n) m
  unfolding each
  each_split f i zero m = let e : 0 + m ≡ m = omega arith in let g : i + 0 ≡ i = omega arith in rw (e, g) refl
  each_split f i (suc n) m =
      let e : suc n + m ≡ suc (n + m) = omega arith in
      let g : i + suc n ≡ suc i + n = omega arith in
      rw (e, g) (ap (λ (l : List A). f i ∷ l) (each_split f (suc i) n m))

  pub each_at : (f : ℕ → A) (i n q : ℕ) (d : A) → q < n → get_or (each f i n) q d ≡ f (i + q)
  unfolding each
  each_at f i zero q d h = absurd (omega arith)
  each_at f i (suc n) zero d h = let e : i + 0 ≡ i = omega arith in ap f (sym e)
  each_at f i (suc n) (suc q) d h = let e : suc i + q ≡ i + suc q = omega arith in each_at f (suc i) n q d (omega arith) ∙ ap f e

  -- one more
  pub each_more : (f : ℕ → A) (n : ℕ) → each f 0 (n + 1) ≡ each f 0 n ++ f n ∷ []
  unfolding each
  each_more f n = let e : 0 + n ≡ n = omega arith in each_split f 0 n 1 ∙ rw e refl

  pub take_each : (f : ℕ → A) (i n m : ℕ) → take n (each f i (n + m)) ≡ each f i n
  take_each f i n m = ap (take n) (each_split f i n m) ∙ take_at (each f i n) (each f (i + n) m) n (each_long f i n)

  pub drop_each : (f : ℕ → A) (i n m : ℕ) → drop n (each f i (n + m)) ≡ each f (i + n) m
  drop_each f i n m = ap (drop n) (each_split f i n m) ∙ drop_at (each f i n) (each f (i + n) m) n (each_long f i n)

  pub all_each : (p : A → Bool) (f : ℕ → A) (i n : ℕ) → all p (each f i n) ≡ true → (j : ℕ) → i ≤ j → j < i + n → p (f j) ≡ true
  unfolding all each
  all_each p f i zero h j a b = absurd (omega arith)
  all_each p f i (suc n) h j a b =
      let k = and_true (p (f i)) (all p (each f (suc i) n)) h in
      at (order i j) k.0 (λ z. all_each p f (suc i) n k.1 j z (omega arith))
    where
      at : Order i j → p (f i) ≡ true → (i < j → p (f j) ≡ true) → p (f j) ≡ true
      at (below z) first later = later z
      at (equal z) first later = rw (← z) first
      at (above z) first later = absurd (omega arith)

  -- and the other way
  pub each_all : (p : A → Bool) (f : ℕ → A) (i n : ℕ) → ((j : ℕ) → i ≤ j → j < i + n → p (f j) ≡ true) → all p (each f i n) ≡ true
  unfolding all each
  each_all p f i zero h = refl
  each_all p f i (suc n) h = and_both (h i (omega arith) (omega arith)) (each_all p f (suc i) n (λ j a b. h j (omega arith) (omega arith)))
