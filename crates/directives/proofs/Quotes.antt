-- The bytes between quotes. Assumes nothing.
use mathlib.Core.Bool.{Bool, true, false, ◌||◌, ◌&&◌, not}
use mathlib.Core.Path.{◌≡◌, refl}
use Prim.Native.Nat.{ℕ}
use lib.Dec.{eqb}
use Rattle.definition.specs.Bytes.{newline, quote, not_newline}
use Rattle.definition.specs.Text.{in_quotes}

-- the code's test of the byte that ends a name
abbrev pub ends_quoted : ℕ → Bool
ends_quoted c = eqb c quote || eqb c newline

pub quoted : (c : ℕ) → in_quotes c ≡ not (ends_quoted c)
unfolding not_newline
quoted c = at (eqb c quote) (eqb c newline)
  where
    at : (a b : Bool) → (not a && not b) ≡ not (a || b)
    at true b = refl
    at false b = refl
