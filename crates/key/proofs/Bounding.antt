-- The invariant of `split_key`: the bounds found so far, and what the rest of the key has to give. Assumes nothing.
use mathlib.Core.Bool.{true}
use mathlib.Core.List.{List, [], ◌∷◌, ◌++◌, append_assoc, append-nil}
use mathlib.Core.Path.{◌≡◌, refl, sym, ap, ◌∙◌}
use Prim.Native.Nat.{ℕ, suc, ◌+◌, ◌≤◌, ◌<◌}
use native.Mathlib.Omega.{arith}
use native.Mathlib.Numerals.{add-one}
use lib.ListN.{length, get_or, take, drop, set, length-set, length-drop, take-append-drop, drop_of_length-le}
use lib.Seq.{drop-cons, drop-drop, drop-set-lt, take-suc-set}
use Rattle.definition.specs.Lists.{take_while}
use Rattle.definition.specs.Limits.{most_parts}
use Rattle.definition.specs.Text.{Part}
use Rattle.definition.specs.Image.{key_of, key_parts}
use Rattle.laws.proofs.Lists.{Order, below, equal, above, order, all_get_d}
use Rattle.laws.proofs.Keys.{is_legal, Parts}
use Rattle.key.specs.Keys.{not_binding, no_part, part_end, ends_of, bounds_over}
use Rattle.key.proofs.Keys.{part_run, part_rest, part_inside}

-- `count` parts are found, and end at `at`
pub record Bounding (key held bounds : List ℕ) (count at : ℕ) : Type 0 where
  pub upto : at ≤ length key
  pub few : count ≤ length (key_parts key)
  pub size : length bounds ≡ suc most_parts
  pub rest : drop at key ≡ key_of (drop count (key_parts key))
  pub bound : take 1 held ++ ends_of 0 (key_parts key) ≡ take (suc count) bounds ++ ends_of at (drop count (key_parts key))
  pub past : drop (suc count) bounds ≡ drop (suc count) held

nothing_written : (ps : List Part) → length (key_of ps) ≡ 0 → ps ≡ []
unfolding key_of
nothing_written [] e = refl
nothing_written (p ∷ ps) e = absurd (omega arith)

module _ {key : List ℕ} (K : Parts key (key_parts key)) where
  pub begun : (held : List ℕ) → length held ≡ suc most_parts → Bounding key held held 0 0
  begun held z = record {
    upto = omega arith;
    few = omega arith;
    size = z;
    rest = sym K.written;
    bound = refl;
    past = refl;
  }

  module _ {held bounds : List ℕ} {count at : ℕ} (S : Bounding key held bounds count at) where
    left : length (drop at key) ≡ length (key_of (drop count (key_parts key)))
    left = ap length S.rest

    pub ended : length key ≤ at → (count ≡ length (key_parts key)) × (bounds ≡ bounds_over key held)
    unfolding bounds_over ends_of
    ended h =
        let e = nothing_written (drop count (key_parts key)) (sym left ∙ length-drop at key ∙ (omega arith)) in
        let z : count ≡ length (key_parts key) = omega (arith, sym (length-drop count (key_parts key)) ∙ ap length e, S.few) in
        let b : take 1 held ++ ends_of 0 (key_parts key) ≡ take (suc count) bounds = S.bound ∙ rw e (append-nil (take (suc count) bounds)) in
        (z, sym (take-append-drop (suc count) bounds) ∙ rw (← b, S.past, z) refl)

    module _ (h : at < length key) where
      pub room : count < length (key_parts key)
      unfolding key_of
      room = more (order count (length (key_parts key)))
        where
          more : Order count (length (key_parts key)) → count < length (key_parts key)
          more (below k) = k
          more (equal k) =
              let e : drop count (key_parts key) ≡ [] = drop_of_length-le (key_parts key) {i = count} (omega arith) in
              let f : length (key_of (drop count (key_parts key))) ≡ 0 = rw e refl in
              absurd (omega (arith, length-drop at key, left))
          more (above k) = absurd (omega (arith, S.few))

      abbrev p : Part
      p = get_or (key_parts key) count no_part

      abbrev ps : List Part
      ps = drop (suc count) (key_parts key)

      parts : drop count (key_parts key) ≡ p ∷ ps
      parts = drop-cons (key_parts key) count no_part room

      legal : is_legal p ≡ true
      legal = all_get_d is_legal (key_parts key) count no_part K.legal room

      rest : drop at key ≡ key_of (p ∷ ps)
      rest = S.rest ∙ ap key_of parts

      pub next_inside : at + 1 + length (take_while not_binding (drop (at + 1) key)) ≤ length key
      next_inside = rw (part_run key at p ps legal rest) (part_inside key at p ps legal rest)

      rest_past : drop (suc (suc count)) bounds ≡ drop (suc (suc count)) held
      rest_past = rw (← add-one (suc count), ← drop-drop 1 (suc count) bounds, S.past, drop-drop 1 (suc count) held) refl

      -- one more part, up to e
      more_at : (e : ℕ) → e ≡ part_end at p → Bounding key held (set bounds (count + 1) e) (count + 1) e
      unfolding ends_of
      more_at e z =
          let long : suc count < length bounds = omega (arith, room, K.few, S.size) in
          rw add-one record {
            upto = rw z (part_inside key at p ps legal rest);
            few = omega (arith, room);
            size = length-set bounds (suc count) e ∙ S.size;
            rest = rw z (part_rest key at p ps legal rest);
            bound = S.bound ∙ rw (parts, take-suc-set bounds (suc count) e long, ← z) (sym (append_assoc (take (suc count) bounds) (e ∷ []) (ends_of e ps)));
            past = drop-set-lt (suc (suc count)) bounds (suc count) e (omega arith) ∙ rest_past;
          }

      pub more : (e : ℕ) → e ≡ at + 1 + length (take_while not_binding (drop (at + 1) key)) → Bounding key held (set bounds (count + 1) e) (count + 1) e
      more e z = more_at e (z ∙ ap (λ (t : List ℕ). at + 1 + length t) (part_run key at p ps legal rest))
