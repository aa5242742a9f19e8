-- A key by its neighbouring bytes.
use Rattle.std.specs.Prelude.{Bool, ◌&&◌, ◌||◌, not, List, [], ◌∷◌, ℕ, ◌+◌, eqb, if◌then◌else◌}
use Rattle.definition.specs.Bytes.{question, is_name, is_binding}

-- a binding after anything else, `?` after a binding, a byte of a name after anything but `?`
unfoldable pub may_follow : ℕ → ℕ → Bool
may_follow p c = is_binding c && not (is_binding p) || is_binding p && eqb c question || is_name c && not (eqb p question)

unfoldable pub bindings_in : List ℕ → ℕ
bindings_in [] = 0
bindings_in (c ∷ t) = (if is_binding c then 1 else 0) + bindings_in t
