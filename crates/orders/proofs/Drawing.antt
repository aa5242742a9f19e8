-- A rearranged list, taken apart: the first element is drawn from wherever it stands in the other list, and the rest are rearranged. Assumes
-- nothing.
use Rattle.std.specs.Prelude.{if◌then◌else◌}
use mathlib.Core.List.{List, [], ◌∷◌, ◌++◌}
use mathlib.Core.Path.{◌≡◌, refl, sym, ap, ◌∙◌}
use Prim.Native.Nat.{ℕ, suc, ◌+◌, ◌-◌, ◌≤◌, ◌<◌}
use native.Mathlib.Omega.{arith}
use lib.Dec.{ltb}
use lib.ListN.{length, get_or, take, drop, get_or-append}
use lib.Seq.{length-take-le, get_or-take, get_or-drop, get_or-append-add, split_at}
use borrow.Author.Tests.{lt-ltb, le-ltb}
use Rattle.definition.specs.Orders.{Rearranged}
use Rattle.laws.proofs.Lists.{Order, below, equal, above, order, length_without}

-- ---- Numbers with number k among them, and without it

-- where the i-th of the others stands among all
with_k : ℕ → ℕ → ℕ
with_k k i = if ltb i k then i else suc i

-- where j, another than k, stands among the others
without_k : ℕ → ℕ → ℕ
without_k k j = if ltb k j then j - 1 else j

module _ (k : ℕ) where
  with_low : (i : ℕ) → i < k → with_k k i ≡ i
  unfolding with_k
  with_low i h = rw (lt-ltb i k h) refl

  with_high : (i : ℕ) → k ≤ i → with_k k i ≡ suc i
  unfolding with_k
  with_high i h = rw (le-ltb i k h) refl

  without_low : (j : ℕ) → j < k → without_k k j ≡ j
  unfolding without_k
  without_low j h = rw (le-ltb k j (omega arith)) refl

  without_high : (j : ℕ) → k < j → suc (without_k k j) ≡ j
  unfolding without_k
  without_high j h = rw (lt-ltb k j h) (omega arith)

  with_apart : (i : ℕ) → with_k k i ≡ k → ⊥
  with_apart i e = at (order i k)
    where
      at : Order i k → ⊥
      at (below h) = omega (arith, with_low i h)
      at (equal h) = omega (arith, with_high i (omega arith))
      at (above h) = omega (arith, with_high i (omega arith))

  with_most : (i : ℕ) → with_k k i ≤ suc i
  with_most i = at (order i k)
    where
      at : Order i k → with_k k i ≤ suc i
      at (below h) = omega (arith, with_low i h)
      at (equal h) = omega (arith, with_high i (omega arith))
      at (above h) = omega (arith, with_high i (omega arith))

  without_with : (i : ℕ) → without_k k (with_k k i) ≡ i
  without_with i = at (order i k)
    where
      high : k ≤ i → without_k k (with_k k i) ≡ i
      high h = rw (with_high i h) (omega (arith, without_high (suc i) (omega arith)))

      at : Order i k → without_k k (with_k k i) ≡ i
      at (below h) = rw (with_low i h) (without_low i h)
      at (equal h) = high (omega arith)
      at (above h) = high (omega arith)

  module _ (j : ℕ) (other : j ≡ k → ⊥) where
    with_without : with_k k (without_k k j) ≡ j
    with_without = at (order j k)
      where
        at : Order j k → with_k k (without_k k j) ≡ j
        at (below h) = rw (without_low j h) (with_low j h)
        at (equal h) = absurd (other h)
        at (above h) = with_high (without_k k j) (omega (arith, without_high j h)) ∙ without_high j h

    without_less : (n : ℕ) → k < suc n → j < suc n → without_k k j < n
    without_less n hk hj = at (order j k)
      where
        at : Order j k → without_k k j < n
        at (below h) = omega (arith, without_low j h)
        at (equal h) = absurd (other h)
        at (above h) = omega (arith, without_high j h)

    without_rises : (i : ℕ) → (i ≡ k → ⊥) → i < j → without_k k i < without_k k j
    without_rises i apart h = at (order i k) (order j k)
      where
        at : Order i k → Order j k → without_k k i < without_k k j
        at (below a) (below b) = omega (arith, without_low i a, without_low j b)
        at (below a) (equal b) = absurd (other b)
        at (below a) (above b) = omega (arith, without_low i a, without_high j b)
        at (equal a) b = absurd (apart a)
        at (above a) (below b) = absurd (omega arith)
        at (above a) (equal b) = absurd (other b)
        at (above a) (above b) = omega (arith, without_high i a, without_high j b)

-- ---- The first element drawn

module _ {A : Type 0} where
  -- the list without element k
  abbrev pub others : ℕ → List A → List A
  others k ys = take k ys ++ drop (suc k) ys

  others_get_d : (k : ℕ) (ys : List A) (i : ℕ) (d : A) → k < length ys → get_or (others k ys) i d ≡ get_or ys (with_k k i) d
  others_get_d k ys i d h = at (order i k)
    where
      long : length (take k ys) ≡ k
      long = length-take-le k ys (omega arith)

      high : k ≤ i → get_or (others k ys) i d ≡ get_or ys (with_k k i) d
      high z =
          let e : i ≡ length (take k ys) + (i - k) = omega (arith, long) in
          let f : suc k + (i - k) ≡ with_k k i = omega (arith, with_high k i z) in
          ap (λ (n : ℕ). get_or (others k ys) n d) e
          ∙ get_or-append-add (take k ys) (drop (suc k) ys) (i - k) d
          ∙ get_or-drop (suc k) ys (i - k) d
          ∙ ap (λ (n : ℕ). get_or ys n d) f

      at : Order i k → get_or (others k ys) i d ≡ get_or ys (with_k k i) d
      at (below z) =
          get_or-append (take k ys) (drop (suc k) ys) d i (omega (arith, long))
          ∙ get_or-take k ys i d z
          ∙ ap (λ (n : ℕ). get_or ys n d) (sym (with_low k i z))
      at (equal z) = high (omega arith)
      at (above z) = high (omega arith)

module _ {A : Type 0} (d x : A) (xs ys : List A) (r : Rearranged d (x ∷ xs) ys) where
  -- where it stands
  abbrev pub drawn : ℕ
  drawn = r.place 0

  pub drawn_inside : drawn < length ys
  drawn_inside = r.inside 0 (omega arith)

  -- of the others there is one less
  fewer : suc (length (others drawn ys)) ≡ length ys
  fewer = length_without drawn ys drawn_inside

  another : (i : ℕ) → i < length xs → r.place (suc i) ≡ drawn → ⊥
  another i h e = omega (arith, r.undone (suc i) (omega arith), r.undone 0 (omega arith), ap r.back e)

  back_another : (j : ℕ) → j < length (others drawn ys) → suc (r.back (with_k drawn j) - 1) ≡ r.back (with_k drawn j)
  back_another j h = at (order 0 (r.back (with_k drawn j)))
    where
      inside : with_k drawn j < length ys
      inside = omega (arith, with_most drawn j, fewer)

      at : Order 0 (r.back (with_k drawn j)) → suc (r.back (with_k drawn j) - 1) ≡ r.back (with_k drawn j)
      at (below z) = omega arith
      at (equal z) = absurd (with_apart drawn j (sym (r.undone_back (with_k drawn j) inside) ∙ ap r.place (sym z)))
      at (above z) = absurd (omega arith)

  pub rest : Rearranged d xs (others drawn ys)
  rest = record {
    place = λ i. without_k drawn (r.place (suc i));
    back = λ j. r.back (with_k drawn j) - 1;
    inside = λ i h.
        without_less drawn (r.place (suc i)) (another i h) (length (others drawn ys)) (omega (arith, drawn_inside, fewer))
        (omega (arith, r.inside (suc i) (omega arith), fewer));
    inside_back = λ j h.
        omega (arith, back_another j h, r.inside_back (with_k drawn j) (omega (arith, with_most drawn j, fewer)));
    undone = λ i h.
        rw (with_without drawn (r.place (suc i)) (another i h), r.undone (suc i) (omega arith)) (omega arith);
    undone_back = λ j h.
        rw (back_another j h, r.undone_back (with_k drawn j) (omega (arith, with_most drawn j, fewer))) (without_with drawn j);
    element = λ i h.
        others_get_d drawn ys (without_k drawn (r.place (suc i))) d drawn_inside
        ∙ ap (λ (n : ℕ). get_or ys n d) (with_without drawn (r.place (suc i)) (another i h))
        ∙ r.element (suc i) (omega arith);
  }

  pub rest_rises : (i j : ℕ) → i < length xs → j < length xs → r.place (suc i) < r.place (suc j) → rest.place i < rest.place j
  unfolding rest
  rest_rises i j hi hj z = without_rises drawn (r.place (suc j)) (another j hj) (r.place (suc i)) (another i hi) z

  pub drawn_from : ys ≡ take drawn ys ++ x ∷ drop (suc drawn) ys
  drawn_from = split_at ys drawn d drawn_inside ∙ ap (λ (y : A). take drawn ys ++ y ∷ drop (suc drawn) ys) (r.element 0 (omega arith))

-- ---- All of them, one after another

pub data Drawn {A : Type 0} : List A → List A → Type 0 where
  none : Drawn [] []
  one : (x : A) (xs ys zs : List A) → Drawn xs (ys ++ zs) → Drawn (x ∷ xs) (ys ++ x ∷ zs)

pub all_drawn : {A : Type 0} (d : A) (xs ys : List A) → Rearranged d xs ys → Drawn xs ys
all_drawn d [] [] r = none
all_drawn d [] (y ∷ ys) r = absurd (omega (arith, r.inside_back 0 (omega arith)))
all_drawn d (x ∷ xs) ys r =
    let k = drawn d x xs ys r in
    rw (drawn_from d x xs ys r) (one x xs (take k ys) (drop (suc k) ys) (all_drawn d xs (others k ys) (rest d x xs ys r)))
