-- How `walk_key` goes through a key. Assumes nothing.
use Rattle.std.specs.Prelude.{if◌then◌else◌}
use mathlib.Core.Bool.{Bool, true, false, ◌&&◌, not, and-false}
use mathlib.Core.List.{List, [], ◌∷◌}
use mathlib.Core.Path.{◌≡◌, refl, sym, ap, ◌∙◌}
use Prim.Native.Nat.{ℕ, suc, ◌+◌, ◌-◌, ◌≤◌, ◌<◌}
use native.Mathlib.Omega.{arith}
use lib.Dec.{eqb, leb}
use lib.ListN.{length, get_or, take, drop, length-drop, drop_of_length-le}
use borrow.Author.Tests.{eq-eqb, ne_eqb, le-leb, lt-leb}
use Rattle.definition.specs.Lists.{take_while, drop_while, is_empty}
use Rattle.definition.specs.Parsing.{Parse, nothing, found, Parsed, parsed, many}
use Rattle.definition.specs.Limits.{most_parts}
use Rattle.definition.specs.Bytes.{question, is_name, is_binding}
use Rattle.definition.specs.Text.{Binding, wildcard, name, Part, binding_of, component_at, is_named, ends_in_name}
use Rattle.definition.specs.Image.{stored_part_at, key_parts, is_key}
use Rattle.laws.proofs.Lists.{part_rest, length_part_rest, drop_run, length_take_while_le}
use Rattle.laws.proofs.Parsing.{many_stop, many_more}
use Rattle.laws.proofs.Keys.{stored_part_shrinks}
use Rattle.key_judge.proofs.Bytes.{name_not_wild}

-- ---- What is left of a key after n parts

abbrev ends_parsed : ℕ → Parsed Part → Bool
ends_parsed n m = is_empty m.rest && leb (n + length m.items) most_parts && ends_in_name m.items

-- does t end a key that has n parts before t?
unfoldable pub ends_key : ℕ → List ℕ → Bool
ends_key n t = ends_parsed n (many stored_part_at t)

pub key_whole : (t : List ℕ) → is_key t ≡ ends_key 0 t
unfolding is_key ends_key
key_whole t =
    let ps = key_parts t in
    let e : length ps ≡ 0 + length ps = omega arith in
    ap (λ (k : ℕ). is_empty (many stored_part_at t).rest && leb k most_parts && ends_in_name ps) e

-- of two parts the second counts
two_parts : (n : ℕ) (p q : Part) (ps : List Part) (r : List ℕ) → ends_parsed n (parsed (p ∷ q ∷ ps) r) ≡ ends_parsed (n + 1) (parsed (q ∷ ps) r)
unfolding ends_in_name
two_parts n p q ps r = let k : n + suc (suc (length ps)) ≡ n + 1 + suc (length ps) = omega arith in rw k refl

-- what is left over is no key
left_over : (n : ℕ) (ps : List Part) (r : List ℕ) → 0 < length r → ends_parsed n (parsed ps r) ≡ false
unfolding is_empty
left_over n ps [] h = absurd (omega arith)
left_over n ps (c ∷ r) h = refl

no_part : (n : ℕ) (r : List ℕ) → ends_parsed n (parsed [] r) ≡ false
unfolding ends_in_name
no_part n r = and-false (is_empty r && leb (n + 0) most_parts)

-- a part must follow, and 16 are the most
pub key_full : (n : ℕ) (t : List ℕ) → most_parts ≤ n → ends_key n t ≡ false
unfolding ends_key ends_in_name
key_full n t h = at (many stored_part_at t).items
  where
    at : (ps : List Part) → ends_parsed n (parsed ps (many stored_part_at t).rest) ≡ false
    at [] = no_part n (many stored_part_at t).rest
    at (p ∷ ps) = rw (lt-leb (n + suc (length ps)) most_parts (omega arith), and-false (is_empty (many stored_part_at t).rest)) refl

key_none : (n : ℕ) (t : List ℕ) → stored_part_at t ≡ nothing → ends_key n t ≡ false
unfolding ends_key
key_none n t e = ap (ends_parsed n) (many_stop stored_part_at stored_part_shrinks t e) ∙ no_part n t

module _ (n : ℕ) (t : List ℕ) (p : Part) (u : List ℕ) (e : stored_part_at t ≡ found p u) where
  key_turn : ends_key n t ≡ ends_parsed n (parsed (p ∷ key_parts u) (many stored_part_at u).rest)
  unfolding ends_key
  key_turn = ap (ends_parsed n) (many_more stored_part_at stored_part_shrinks t p u e)

  -- the key ends here, in a name
  pub key_ends : is_named p.component ≡ true → u ≡ [] → n < most_parts → ends_key n t ≡ true
  unfolding is_empty ends_in_name stored_part_at
  key_ends h z k =
      key_turn
      ∙ ap (λ (m : Parsed Part). ends_parsed n (parsed (p ∷ m.items) m.rest))
      (ap (many stored_part_at) z ∙ many_stop stored_part_at stored_part_shrinks [] refl)
      ∙ rw (le-leb (n + 1) most_parts (omega arith)) h

  pub key_wild : is_named p.component ≡ false → ends_key n t ≡ ends_key (n + 1) u
  unfolding ends_key ends_in_name
  key_wild h = key_turn ∙ at (key_parts u) (many stored_part_at u).rest
    where
      at : (ps : List Part) (r : List ℕ) → ends_parsed n (parsed (p ∷ ps) r) ≡ ends_parsed (n + 1) (parsed ps r)
      at [] r = rw h (and-false (is_empty r && leb (n + 1) most_parts)) ∙ sym (no_part (n + 1) r)
      at (q ∷ ps) r = two_parts n p q ps r

  pub key_more : 0 < length u → ends_key n t ≡ ends_key (n + 1) u
  unfolding ends_key
  key_more h = key_turn ∙ at (stored_part_at u) refl
    where
      at : (r : Parse Part) → stored_part_at u ≡ r → ends_parsed n (parsed (p ∷ key_parts u) (many stored_part_at u).rest) ≡ ends_key (n + 1) u
      at nothing f =
          ap (λ (m : Parsed Part). ends_parsed n (parsed (p ∷ m.items) m.rest)) (many_stop stored_part_at stored_part_shrinks u f)
          ∙ left_over n (p ∷ []) u h
          ∙ sym (key_none (n + 1) u f)
      at (found q v) f =
          let m = many_more stored_part_at stored_part_shrinks u q v f in
          ap (λ (m : Parsed Part). ends_parsed n (parsed (p ∷ m.items) m.rest)) m
          ∙ two_parts n p q (key_parts v) (many stored_part_at v).rest
          ∙ sym (ap (ends_parsed (n + 1)) m)

-- ---- A component

name_first : (u : List ℕ) → 0 < length (take_while is_name u) → is_name (get_or u 0 0) ≡ true
unfolding take_while
name_first [] h = absurd (omega arith)
name_first (c ∷ t) h = at (is_name c) refl
  where
    at : (k : Bool) → is_name c ≡ k → is_name c ≡ true
    at true k = k
    at false k = absurd (let z : 0 < 0 = rw k at h in omega arith)

pub component_name : (b : Binding) (u : List ℕ) → 0 < length (take_while is_name u)
    → component_at b u ≡ found (record { binding = b; component = name (take_while is_name u) }) (drop_while is_name u)
unfolding component_at take_while drop_while
component_name b [] h = absurd (omega arith)
component_name b (c ∷ t) h = let k = name_first (c ∷ t) h in rw (name_not_wild c k, k) refl

pub component_wild : (b : Binding) (u : List ℕ) → 0 < length u → get_or u 0 0 ≡ question
    → component_at b u ≡ found (record { binding = b; component = wildcard }) (drop 1 u)
unfolding component_at
component_wild b [] h e = absurd (omega arith)
component_wild b (c ∷ t) h e = rw (eq-eqb c question e) refl

component_none : (b : Binding) (u : List ℕ) → length (take_while is_name u) ≡ 0 → (get_or u 0 0 ≡ question → ⊥) → component_at b u ≡ nothing
unfolding component_at take_while
component_none b [] h e = refl
component_none b (c ∷ t) h e = at (is_name c) refl
  where
    at : (k : Bool) → is_name c ≡ k → component_at b (c ∷ t) ≡ nothing
    at true k = absurd (let z : suc (length (take_while is_name t)) ≡ 0 = rw k at h in omega arith)
    at false k = rw (ne_eqb c question e, k) refl

pub stored_part : (t : List ℕ) → is_binding (get_or t 0 0) ≡ true → 0 < length t → stored_part_at t ≡ component_at (binding_of (get_or t 0 0 ∷ [])) (drop 1 t)
unfolding stored_part_at
stored_part [] e h = absurd (omega arith)
stored_part (c ∷ t) e h = rw e refl

-- ---- A turn of the loop

-- a binding and a component take two bytes
pub key_short : (n : ℕ) (t : List ℕ) → length t < 2 → ends_key n t ≡ false
unfolding stored_part_at component_at
key_short n [] h = key_none n [] refl
key_short n (c ∷ []) h = key_none n (c ∷ []) (at (is_binding c))
  where
    at : (b : Bool) → ◌≡◌ {A = Parse Part} (if b then nothing else nothing) nothing
    at true = refl
    at false = refl
key_short n (c ∷ d ∷ t) h = absurd (omega arith)

pub key_unbound : (n : ℕ) (t : List ℕ) → is_binding (get_or t 0 0) ≡ false → ends_key n t ≡ false
unfolding stored_part_at
key_unbound n [] e = key_none n [] refl
key_unbound n (c ∷ t) e = key_none n (c ∷ t) (rw e refl)

-- what follows n bytes, as the borrow checker gives it
abbrev pub past : List ℕ → ℕ → List ℕ
past t n = take (length t - n) (drop n t)

-- t begins with a binding, and m bytes of a name follow it
pub record Begins (t : List ℕ) (m : ℕ) : Type 0 where
  pub long : 2 ≤ length t
  pub bound : is_binding (get_or t 0 0) ≡ true
  pub run : m ≡ length (take_while is_name (past t 1))

module _ {t : List ℕ} {m : ℕ} (s : Begins t m) where
  abbrev u : List ℕ
  u = past t 1

  abbrev b : Binding
  b = binding_of (get_or t 0 0 ∷ [])

  part_is : stored_part_at t ≡ component_at b u
  part_is = rw (part_rest t 1) (stored_part t s.bound (omega arith))

  named_part : 0 < m → stored_part_at t ≡ found (record { binding = b; component = name (take_while is_name u) }) (drop m u)
  named_part h = part_is ∙ component_name b u (omega arith) ∙ rw (s.run, drop_run is_name u) refl

  pub run_inside : m ≤ length u
  run_inside = omega (arith, length_take_while_le is_name u)

  module _ (k : ℕ) where
    pub wild_on : get_or u 0 0 ≡ question → ends_key k t ≡ ends_key (k + 1) (past u 1)
    unfolding is_named
    wild_on q =
        rw (part_rest u 1)
        (key_wild k t _ (drop 1 u) (part_is ∙ component_wild b u (omega (arith, length_part_rest t 1)) q) refl)

    pub last_name : (m ≡ 0 → ⊥) → m ≡ length u → k < most_parts → ends_key k t ≡ not (eqb (get_or u 0 0) question)
    unfolding is_named
    last_name z h g =
        let l : length u ≤ m = omega arith in
        let e : eqb (get_or u 0 0) question ≡ false = name_not_wild (get_or u 0 0) (name_first u (omega (arith, z))) in
        key_ends k t _ (drop m u) (named_part (omega (arith, z))) refl (drop_of_length-le u l) g ∙ rw e refl

    pub last_wild : get_or u 0 0 ≡ question → 1 ≡ length u → ends_key k t ≡ not (eqb (get_or u 0 0) question)
    last_wild q h =
        wild_on q
        ∙ key_short (k + 1) (past u 1) (omega (arith, length_part_rest u 1))
        ∙ rw (eq-eqb (get_or u 0 0) question q) refl

    pub none_here : m ≡ 0 → (get_or u 0 0 ≡ question → ⊥) → ends_key k t ≡ false
    none_here h q = key_none k t (part_is ∙ component_none b u (omega arith) q)

    pub name_on : (m ≡ 0 → ⊥) → (m ≡ length u → ⊥) → ends_key k t ≡ ends_key (k + 1) (past u m)
    name_on z f =
        rw (part_rest u m)
        (key_more k t _ (drop m u) (named_part (omega (arith, z))) (omega (arith, f, length-drop m u, run_inside)))
