-- What a split key is, and what its bounds stand for.
use Rattle.std.specs.Prelude.{Bool, not, List, [], ◌∷◌, ◌++◌, ℕ, suc, ◌+◌, ◌-◌, ◌≤◌, ◌<◌, ◌≡◌, eqb, length, get_or, take, drop, if◌then◌else◌}
use Rattle.definition.specs.Limits.{most_parts}
use Rattle.definition.specs.Bytes.{question, is_binding}
use Rattle.definition.specs.Text.{tight, Component, wildcard, name, Part, binding_of}
use Rattle.definition.specs.Image.{component_bytes, key_parts}

unfoldable pub not_binding : ℕ → Bool
not_binding c = not (is_binding c)

-- ---- Where the parts stand

-- a part's binding stands at `at`, and its component after it
abbrev pub part_end : ℕ → Part → ℕ
part_end at p = at + 1 + length (component_bytes p.component)

-- where each of the parts ends, of which the first begins at `at`
unfoldable pub ends_of : ℕ → List Part → List ℕ
ends_of at [] = []
ends_of at (p ∷ ps) = part_end at p ∷ ends_of (part_end at p) ps

-- a key's bounds in the place of those held: where each part ends, after the first
unfoldable pub bounds_over : List ℕ → List ℕ → List ℕ
bounds_over key held = (take 1 held ++ ends_of 0 (key_parts key)) ++ drop (suc (length (key_parts key))) held

-- ---- What stands between two bounds

unfoldable pub component_of : List ℕ → Component
component_of t = if eqb (get_or t 0 0) question then wildcard else name t

-- the part that a key writes from b up to e
unfoldable pub part_between : List ℕ → ℕ → ℕ → Part
part_between key b e = record { binding = binding_of (get_or key b 0 ∷ []); component = component_of (take (e - (b + 1)) (drop (b + 1) key)) }

abbrev pub no_part : Part
no_part = record { binding = tight; component = wildcard }

-- the key's parts, so many, stand between the bounds
pub record Bounded (key bounds : List ℕ) (count : ℕ) : Type 0 where
  pub counted : count ≡ length (key_parts key)
  pub few : count ≤ most_parts
  pub some : 0 < count
  pub first : get_or bounds 0 0 ≡ 0
  pub part : (i : ℕ) → i < count → get_or (key_parts key) i no_part ≡ part_between key (get_or bounds i 0) (get_or bounds (i + 1) 0)
  pub rises : (i : ℕ) → i < count → get_or bounds i 0 + 1 < get_or bounds (i + 1) 0
  pub inside : (i : ℕ) → i ≤ count → get_or bounds i 0 ≤ length key
