-- What `<` answers on two slices of bytes is what the definition says of them. Assumes nothing.
use mathlib.Core.List.{List, [], ◌∷◌}
use mathlib.Core.Path.{◌≡◌, refl}
use Prim.Native.Nat.{ℕ, ◌≤◌}
use native.Mathlib.Omega.{arith}
use borrow.Author.Tests.{lt-ltb, le-ltb, eq-eqb, ne_eqb}
use Rattle.std.specs.Prelude.{Some}
use Rattle.std.specs.Ordering.{nat_cmp, is_some_and, is_lt}
use Rattle.std.specs.Cmp.Lexicographic.{slice_partial_cmp}
use Rattle.definition.specs.Lists.{lower}
use Rattle.laws.proofs.Lists.{Order, below, equal, above, order}

pub lower_lt : (xs ys : List ℕ) → is_some_and is_lt (slice_partial_cmp (λ x y. Some (nat_cmp x y)) xs ys) ≡ lower xs ys
unfolding lower
lower_lt [] [] = refl
lower_lt [] (y ∷ ys) = refl
lower_lt (x ∷ xs) [] = refl
lower_lt (x ∷ xs) (y ∷ ys) = at (order x y) (lower_lt xs ys)
  where
    at : Order x y → is_some_and is_lt (slice_partial_cmp (λ a b. Some (nat_cmp a b)) xs ys) ≡ lower xs ys
        → is_some_and is_lt (slice_partial_cmp (λ a b. Some (nat_cmp a b)) (x ∷ xs) (y ∷ ys)) ≡ lower (x ∷ xs) (y ∷ ys)
    at (below h) ih = rw (lt-ltb x y h) refl
    at (equal e) ih = let z : y ≤ y = omega arith in rw (e, le-ltb y y z, eq-eqb y y refl) ih
    at (above h) ih = let z : y ≤ x = omega arith in rw (le-ltb x y z, ne_eqb x y (λ e. omega arith), lt-ltb y x h) refl
