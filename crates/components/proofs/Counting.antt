-- How `parse_components` counts. Assumes nothing.
use mathlib.Core.Bool.{Bool, true, false, ◌&&◌, and-true, and_assoc}
use mathlib.Core.List.{List, [], ◌∷◌}
use mathlib.Core.Path.{◌≡◌, refl, sym, ap, ◌∙◌}
use Prim.Native.Nat.{ℕ, ◌+◌, ◌*◌, ◌-◌, ◌≤◌}
use native.Mathlib.Omega.{arith}
use lib.ListN.{length, length-append}
use Rattle.definition.specs.Parsing.{nothing, Parsed, many}
use Rattle.definition.specs.Text.{Part, part_at, is_named, ends_in_name}
use Rattle.laws.proofs.Lists.{Suffix, suffix_whole, suffix_part, length_part_rest}
use Rattle.components.specs.Parts.{parts_of, key_first, component_if, part_of, component_text, FirstPart, is_verbatim, components_at}
use Rattle.components.specs.declared.Next.{Next}
use Rattle.components.proofs.Turns.{past, parts_over, key_over, parts_turn, key_turn, bytes_length}
use Rattle.components.proofs.Verbatim.{passes, verbatim_from, verbatim_turn, verbatim_over}

-- is the last part a name, if that before these is one or not
unfoldable pub ends_after : Bool → List Part → Bool
ends_after b [] = b
ends_after b (p ∷ ps) = ends_in_name (p ∷ ps)

ends_cons : (p : Part) (ps : List Part) → ends_in_name (p ∷ ps) ≡ ends_after (is_named p.component) ps
unfolding ends_in_name ends_after
ends_cons p [] = refl
ends_cons p (q ∷ ps) = refl

ends_first : (ps : List Part) → ends_in_name ps ≡ ends_after false ps
unfolding ends_in_name ends_after
ends_first [] = refl
ends_first (p ∷ ps) = refl

is_named_lem : (b : Bool) (w : List ℕ) → is_named (component_if b w) ≡ b
unfolding is_named component_if
is_named_lem true w = refl
is_named_lem false w = refl

-- u is left of t, and what is before u has been counted
pub record Counting (t u : List ℕ) (count size : ℕ) (named verbatim : Bool) : Type 0 where
  pub count_is : length (parts_of t) ≡ count + length (parts_of u)
  pub size_is : length (key_first t) ≡ size + length (key_first u)
  pub named_is : ends_in_name (parts_of t) ≡ ends_after named (parts_of u)
  pub verbatim_is : is_verbatim t ≡ (verbatim && verbatim_from count u)
  pub rest_is : (many part_at t).rest ≡ (many part_at u).rest
  pub left : Suffix u t
  -- each part takes a byte or more, and its key is at most twice as long
  pub count_most : count + length u ≤ length t
  pub size_most : size + 2 * length u ≤ 2 * length t

pub counting_first : (t : List ℕ) → Counting t t 0 0 false true
unfolding verbatim_from
counting_first t = record {
  count_is = omega arith;
  size_is = omega arith;
  named_is = ends_first (parts_of t);
  verbatim_is = refl;
  rest_is = refl;
  left = suffix_whole t;
  count_most = omega arith;
  size_most = omega arith;
}

module _ {t u : List ℕ} {count size : ℕ} {named verbatim : Bool} (c : Counting t u count size named verbatim) where
  pub counting_next : {r : Next} → FirstPart u r → (flag : Bool) → flag ≡ (verbatim && passes count r.start)
      → Counting t (past u r) (count + 1) (size + (1 + (r.end - r.start))) r.named flag
  unfolding ends_after part_of
  counting_next {r} p flag f =
      let turn = parts_turn p in
      let left = length_part_rest u r.end in
      record {
        count_is = omega (arith, c.count_is, ap (λ (m : Parsed Part). length m.items) turn);
        size_is = omega (arith, c.size_is, ap length (key_turn p), length-append (component_text u r) (key_first (past u r)), bytes_length p);
        named_is =
            c.named_is
            ∙ ap (λ (m : Parsed Part). ends_after named m.items) turn
            ∙ ends_cons (part_of u r) (parts_of (past u r))
            ∙ ap (λ (b : Bool). ends_after b (parts_of (past u r))) (is_named_lem r.named (component_text u r));
        verbatim_is =
            c.verbatim_is
            ∙ ap (λ (b : Bool). verbatim && b) (verbatim_turn p count)
            ∙ sym (and_assoc verbatim (passes count r.start) (verbatim_from (count + 1) (past u r)))
            ∙ ap (λ (b : Bool). b && verbatim_from (count + 1) (past u r)) (sym f);
        rest_is = c.rest_is ∙ ap (λ (m : Parsed Part). m.rest) turn;
        left = suffix_part c.left r.end p.inside;
        count_most = omega (arith, c.count_most, left, p.inside);
        size_most = omega (arith, c.size_most, left, p.inside);
      }

  pub counting_done : part_at u ≡ nothing → (record { count = count; size = size; named = named; end = length t - length u; verbatim = verbatim }) ≡ components_at t
  unfolding ends_after components_at
  counting_done h =
      let over = parts_over u h in
      let a : length (parts_of t) ≡ count = omega (arith, c.count_is, ap (λ (m : Parsed Part). length m.items) over) in
      let b : length (key_first t) ≡ size = omega (arith, c.size_is, ap length (key_over u h)) in
      let d : ends_in_name (parts_of t) ≡ named = c.named_is ∙ ap (λ (m : Parsed Part). ends_after named m.items) over in
      let e : (many part_at t).rest ≡ u = c.rest_is ∙ ap (λ (m : Parsed Part). m.rest) over in
      let f : is_verbatim t ≡ verbatim = c.verbatim_is ∙ ap (λ (x : Bool). verbatim && x) (verbatim_over u h count) ∙ and-true verbatim in
      rw (a, b, d, e, f) refl
