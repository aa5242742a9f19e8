-- A buffer filled with 0 from a place on. Assumes nothing.
use mathlib.Core.List.{List, [], ◌++◌, append-nil}
use mathlib.Core.Path.{◌≡◌, refl, ap, ◌∙◌}
use Prim.Native.Nat.{ℕ, ◌-◌}
use native.Mathlib.Omega.{arith}
use lib.ListN.{length, take, drop, set, replicate, length-set, length-drop, drop_of_length-le}
use lib.Seq.{length-take-le}
use borrow.Rule.Slice.PartMut.{post_of}
use Rattle.definition.specs.Lists.{zeroes}
use Rattle.image.specs.Rows.{row_start}
use Rattle.image.specs.Running.{closed_words}
use Rattle.image.specs.declared.Totals.{Totals}

-- all of it
pub filled : (n : ℕ) {ys : List ℕ} → ys ≡ replicate n 0 → ys ≡ zeroes n
unfolding zeroes
filled n e = e

-- the part from n on, ys
pub cleared : (n : ℕ) (xs : List ℕ) {ys : List ℕ} → ys ≡ replicate (length (take (length xs - n) (drop n xs))) 0
    → take n xs ++ (ys ++ post_of n (length xs - n) xs) ≡ take n xs ++ zeroes (length xs - n)
unfolding zeroes
cleared n xs {ys} e =
    let none : drop (length xs - n) (drop n xs) ≡ [] = drop_of_length-le (drop n xs) {i = length xs - n} (omega (arith, length-drop n xs)) in
    let long : length (take (length xs - n) (drop n xs)) ≡ length xs - n = length-take-le (length xs - n) (drop n xs) (omega (arith, length-drop n xs)) in
    ap (λ (l : List ℕ). take n xs ++ (ys ++ l)) none
    ∙ ap (λ (l : List ℕ). take n xs ++ l) (append-nil ys ∙ e ∙ ap (λ (k : ℕ). replicate k 0) long)

-- the first two words are written, and the words are cleared from row n on
pub closed_words_lem : (s : Totals) (c : List ℕ) {c' : List ℕ} {n : ℕ} → n ≡ row_start s.entries
    → c' ≡ take n (set (set c 0 s.entries) 1 s.used) ++ zeroes (length (set (set c 0 s.entries) 1 s.used) - n) → c' ≡ closed_words s c
closed_words_lem s c n e = e ∙ rw (n, length-set (set c 0 s.entries) 1 s.used, length-set c 0 s.entries) refl
