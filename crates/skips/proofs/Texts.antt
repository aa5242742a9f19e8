-- The bytes that a loop passes over. Assumes nothing.
use mathlib.Core.Bool.{Bool, true, false, ◌||◌, not}
use mathlib.Core.Path.{◌≡◌, refl, sym, ap}
use Prim.Native.Nat.{ℕ}
use lib.Dec.{eqb}
use borrow.Author.Tests.{eq-eqb, ne_eqb, eqb-true, eqb-false}
use Rattle.definition.specs.Bytes.{newline, space, is_space, not_newline}
use Rattle.blocks.specs.Either.{either}

or_same : (b : Bool) → (b || b) ≡ b
or_same true = refl
or_same false = refl

module _ (c : ℕ) where
  pub line_on : (c ≡ newline → ⊥) → not_newline c ≡ true
  unfolding not_newline
  line_on e = ap not (ne_eqb c newline e)

  pub line_over : c ≡ newline → not_newline c ≡ false
  unfolding not_newline
  line_over e = ap not (eq-eqb c newline e)

  pub line_block : not_newline c ≡ not (either newline newline c)
  unfolding not_newline either
  line_block = ap not (sym (or_same (eqb c newline)))

  pub space_is : eqb space c ≡ is_space c
  unfolding is_space
  space_is = at (eqb c space) refl
    where
      at : (b : Bool) → eqb c space ≡ b → eqb space c ≡ b
      at true e = eq-eqb space c (sym (eqb-true c space e))
      at false e = ne_eqb space c (λ k. eqb-false c space e (sym k))
