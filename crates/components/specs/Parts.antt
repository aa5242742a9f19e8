-- What an answer of the code says of a text.
use Rattle.std.specs.Prelude.{Option, Some, None, Bool, ◌||◌, List, [], ◌∷◌, ◌++◌, ◌≡◌, ℕ, ◌-◌, ◌≤◌, ◌<◌, eqb, length, take, drop, if◌then◌else◌}
use Rattle.definition.specs.Lists.{any, take_while, is_empty, same}
use Rattle.definition.specs.Parsing.{nothing, found, many}
use Rattle.definition.specs.Bytes.{dot, star, is_binding}
use Rattle.definition.specs.Text.{Binding, tight, loose, Component, wildcard, name, Part, component_at, part_at, ends_in_name}
use Rattle.definition.specs.Image.{component_bytes, key_of}
use Rattle.components.specs.declared.Run.{Run}
use Rattle.components.specs.declared.Component as code
use Rattle.components.specs.declared.Next.{Next}
use Rattle.components.specs.declared.Components.{Components}

abbrev pub binding_if : Bool → Binding
binding_if b = if b then loose else tight

-- the run of bindings at the front of t
pub record Bound (t : List ℕ) (r : Run) : Type 0 where
  pub loose : r.loose ≡ any (eqb star) (take_while is_binding t)
  pub len : r.len ≡ length (take_while is_binding t)

-- the component that the bytes w are
unfoldable pub component_if : Bool → List ℕ → Component
component_if named w = if named then name w else wildcard

-- the component at the front of t, whatever binds it
pub record Begins (t : List ℕ) (r : code.Component) : Type 0 where
  pub is : (b : Binding) → component_at b t ≡ found (record { binding = b; component = component_if r.named (take r.len t) }) (drop r.len t)
  pub bytes : component_bytes (component_if r.named (take r.len t)) ≡ take r.len t
  pub some : 0 < r.len
  pub inside : r.len ≤ length t

abbrev pub Begun : List ℕ → Option code.Component → Type 0
Begun t (Some r) = Begins t r
Begun t None = (b : Binding) → component_at b t ≡ nothing

-- the bytes of the component
abbrev pub component_text : List ℕ → Next → List ℕ
component_text t r = take (r.end - r.start) (drop r.start t)

unfoldable pub part_of : List ℕ → Next → Part
part_of t r = record { binding = binding_if r.loose; component = component_if r.named (component_text t r) }

-- the part at the front of t
pub record FirstPart (t : List ℕ) (r : Next) : Type 0 where
  pub loose : r.loose ≡ any (eqb star) (take_while is_binding t)
  pub bindings : r.start ≡ length (take_while is_binding t)
  pub is : part_at t ≡ found (part_of t r) (drop r.end t)
  pub bytes : component_bytes (part_of t r).component ≡ component_text t r
  pub some : r.start < r.end
  pub inside : r.end ≤ length t

abbrev pub Parted : List ℕ → Option Next → Type 0
Parted t (Some r) = FirstPart t r
Parted t None = part_at t ≡ nothing

-- the parts at the front of a text, and the key that writes them
abbrev pub parts_of : List ℕ → List Part
parts_of t = (many part_at t).items

abbrev pub key_first : List ℕ → List ℕ
key_first t = key_of (parts_of t)

-- a text as its key would have it, with a binding first: without one a part is tight
unfoldable pub bound_first : List ℕ → List ℕ
bound_first [] = []
bound_first (c ∷ t) = if is_binding c then c ∷ t else dot ∷ c ∷ t

-- is the key the text itself? One binding stands before each part, or none before the first
unfoldable pub is_verbatim : List ℕ → Bool
is_verbatim t = is_empty (parts_of t) || same (key_first t ++ (many part_at t).rest) (bound_first t)

-- what the code answers of them
unfoldable pub components_at : List ℕ → Components
components_at t = record {
  count = length (parts_of t);
  size = length (key_first t);
  named = ends_in_name (parts_of t);
  end = length t - length (many part_at t).rest;
  verbatim = is_verbatim t;
}
