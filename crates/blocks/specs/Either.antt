-- One of two bytes.
use Rattle.std.specs.Prelude.{Bool, ◌||◌, ℕ, eqb}

unfoldable pub either : ℕ → ℕ → ℕ → Bool
either a b c = eqb c a || eqb c b
