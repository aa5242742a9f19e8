-- What the code's answers are.
use Rattle.std.specs.Prelude.{Bool, true, false, List, [], ◌∷◌, ℕ, eqb, if◌then◌else◌}

-- does the second begin with the first?
unfoldable pub starts_with : List ℕ → List ℕ → Bool
starts_with [] t = true
starts_with (b ∷ w) [] = false
starts_with (b ∷ w) (c ∷ t) = if eqb b c then starts_with w t else false
