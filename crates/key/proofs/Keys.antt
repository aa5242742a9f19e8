-- How a loop finds the parts of a key in it. Assumes nothing.
use mathlib.Core.Bool.{true, not}
use mathlib.Core.List.{List, [], ◌∷◌, ◌++◌}
use mathlib.Core.Path.{◌≡◌, refl, sym, ap, ◌∙◌}
use Prim.Native.Nat.{ℕ, ◌+◌, ◌-◌, ◌≤◌, ◌<◌}
use native.Mathlib.Omega.{arith}
use lib.ListN.{length, get_or, drop, length-drop, length-append}
use lib.Seq.{drop-drop, take-append_seam, drop-append_seam, get_or-drop}
use Rattle.definition.specs.Lists.{all, any, take_while, is_empty}
use Rattle.definition.specs.Bytes.{is_name, is_binding}
use Rattle.definition.specs.Text.{Binding, tight, loose, Component, wildcard, name, Part, binding_of, ends_in_name}
use Rattle.definition.specs.Image.{binding_byte, component_bytes, key_of, key_parts}
use Rattle.laws.proofs.Lists.{not_both, and_true, take_while_append}
use Rattle.laws.proofs.Keys.{is_legal_component, is_legal, name_no_binding, Parts, component_some}
use Rattle.key_judge.proofs.Bytes.{name_not_wild}
use Rattle.key.specs.Keys.{not_binding, component_of, part_between}

ends_some : (ps : List Part) → ends_in_name ps ≡ true → 0 < length ps
unfolding ends_in_name
ends_some [] e = absurd (not_both e refl)
ends_some (p ∷ ps) e = omega arith

pub some_part : (key : List ℕ) → Parts key (key_parts key) → 0 < length (key_parts key)
some_part key K = ends_some (key_parts key) K.named

-- ---- A part in a key

first : (t : List ℕ) (n : ℕ) → get_or (drop n t) 0 0 ≡ get_or t n 0
first t n = let z : n + 0 ≡ n = omega arith in get_or-drop n t 0 0 ∙ ap (λ (k : ℕ). get_or t k 0) z

no_binding : (c : ℕ) → is_name c ≡ true → not_binding c ≡ true
unfolding not_binding
no_binding c h = rw (name_no_binding c h) refl

all_names : (n : List ℕ) → all is_name n ≡ true → all not_binding n ≡ true
unfolding all
all_names [] h = refl
all_names (c ∷ n) h =
    let a = and_true (is_name c) (all is_name n) h in
    rw (no_binding c a.0, all_names n a.1) refl

component_run : (c : Component) → is_legal_component c ≡ true → all not_binding (component_bytes c) ≡ true
unfolding all not_binding is_binding is_legal_component
component_run wildcard h = refl
component_run (name n) h = all_names n (and_true (not (is_empty n)) (all is_name n) h).1

component_is : (c : Component) → is_legal_component c ≡ true → component_of (component_bytes c) ≡ c
unfolding component_of is_legal_component is_empty all
component_is wildcard h = refl
component_is (name []) h = absurd (not_both h refl)
component_is (name (c ∷ n)) h =
    let a = and_true (is_name c) (all is_name n) h in
    rw (name_not_wild c a.0) refl

binding_is : (b : Binding) → binding_of (binding_byte b ∷ []) ≡ b
unfolding binding_of any
binding_is tight = refl
binding_is loose = refl

-- a component ends where a key goes on
key_stops : (ps : List Part) → take_while not_binding (key_of ps) ≡ []
unfolding key_of take_while not_binding is_binding
key_stops [] = refl
key_stops (p ∷ ps) = at p.binding
  where
    at : (b : Binding) → take_while not_binding (binding_byte b ∷ component_bytes p.component ++ key_of ps) ≡ []
    at tight = refl
    at loose = refl

-- the key goes on with p at `at`, and with ps after it
module _ (key : List ℕ) (at : ℕ) (p : Part) (ps : List Part) (h : is_legal p ≡ true) (e : drop at key ≡ key_of (p ∷ ps)) where
  abbrev bytes : List ℕ
  bytes = component_bytes p.component

  legal : is_legal_component p.component ≡ true
  unfolding is_legal
  legal = h

  after_binding : drop (at + 1) key ≡ bytes ++ key_of ps
  unfolding key_of
  after_binding = sym (drop-drop 1 at key) ∙ ap (drop 1) e

  pub part_run : take_while not_binding (drop (at + 1) key) ≡ bytes
  part_run = rw after_binding (take_while_append not_binding bytes (key_of ps) (component_run p.component legal) (key_stops ps))

  pub part_some : 0 < length bytes
  part_some = component_some p.component legal

  pub part_rest : drop (at + 1 + length bytes) key ≡ key_of ps
  part_rest = sym (drop-drop (length bytes) (at + 1) key) ∙ ap (drop (length bytes)) after_binding ∙ drop-append_seam bytes (key_of ps)

  pub part_inside : at + 1 + length bytes ≤ length key
  part_inside =
      let f = ap length after_binding in
      let g = simp (length-drop, length-append) at f in
      omega (arith, part_some)

  pub part_is : part_between key at (at + 1 + length bytes) ≡ p
  unfolding part_between key_of
  part_is =
      let f : at + 1 + length bytes - (at + 1) ≡ length bytes = omega arith in
      let g : get_or key at 0 ≡ binding_byte p.binding = sym (first key at) ∙ ap (λ (t : List ℕ). get_or t 0 0) e in
      rw (f, g, after_binding, take-append_seam bytes (key_of ps), component_is p.component legal, binding_is p.binding) refl
