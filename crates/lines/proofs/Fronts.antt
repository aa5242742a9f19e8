-- How the code tells a line by what stands first. Assumes nothing.
use Rattle.std.specs.Prelude.{Option, Some, if◌then◌else◌}
use mathlib.Core.Bool.{Bool, true, false}
use mathlib.Core.List.{List, [], ◌∷◌}
use mathlib.Core.Option.{some, none}
use mathlib.Core.Path.{◌≡◌, refl, sym, ap, ◌∙◌}
use Prim.Native.Nat.{ℕ, ◌+◌, ◌-◌, ◌≤◌, ◌<◌}
use native.Mathlib.Omega.{arith}
use lib.ListN.{length, take, drop, get_or, length-drop}
use borrow.Author.Tests.{ne_eqb}
use Rattle.definition.specs.Lists.{ascii, drop_while}
use Rattle.definition.specs.Parsing.{many, after}
use Rattle.definition.specs.Bytes.{newline, exclamation, hash, is_space}
use Rattle.definition.specs.Text.{part_at, ends_in_name, assigned}
use Rattle.laws.proofs.Lists.{part_rest, length_part_rest, Suffix, suffix_run}
use Rattle.directives.specs.Directives.{include_at}
use Rattle.directives.specs.declared.Named.{Named}
use Rattle.directives.proofs.Includes.{include_found}
use Rattle.components.specs.Parts.{parts_of, components_at}
use Rattle.components.specs.declared.Components.{Components}
use Rattle.components.proofs.Rests.{parts_suffix}
use Rattle.lines.specs.Places.{line_length, directive_in, resource_in, line_in}
use Rattle.lines.specs.declared.Line.TheVariants.{Skip, Entry}

-- ---- The first byte

pub newline_line : (t : List ℕ) → 0 < length t → get_or t 0 0 ≡ newline → Skip 1 ≡ line_in t
unfolding line_in
newline_line [] h e = absurd (omega arith)
newline_line (c ∷ t) h e = rw e refl

pub comment_line : (t : List ℕ) → 0 < length t → get_or t 0 0 ≡ exclamation → (n : ℕ) → n ≡ line_length t → Skip n ≡ line_in t
unfolding line_in
comment_line [] h e n f = absurd (omega arith)
comment_line (c ∷ t) h e n f = rw (f, e) refl

-- r is what follows the `#`
pub directive_line : (t : List ℕ) → 0 < length t → get_or t 0 0 ≡ hash → (n : ℕ) → n ≡ line_length t → (r : Option Named) → r ≡ include_at (take (length t - 1) (drop 1 t))
    → directive_in n r ≡ line_in t
unfolding line_in
directive_line [] h e n f r g = absurd (omega arith)
directive_line (c ∷ t) h e n f r g = rw (f, g, part_rest (c ∷ t) 1, e) refl

-- the name lies inside
pub name_start : (t : List ℕ) → 0 < length t → {n : Named} → Some n ≡ include_at (take (length t - 1) (drop 1 t)) → 1 + n.start ≤ length t
name_start t h e = let i = rw (← e) at (include_found (take (length t - 1) (drop 1 t))) in omega (arith, i.inside, length_part_rest t 1)

pub resource_line : (t : List ℕ) → 0 < length t → (get_or t 0 0 ≡ newline → ⊥) → (get_or t 0 0 ≡ exclamation → ⊥) → (get_or t 0 0 ≡ hash → ⊥)
    → resource_in t (assigned t) ≡ line_in t
unfolding line_in
resource_line [] h n x k = absurd (omega arith)
resource_line (c ∷ t) h n x k = rw (ne_eqb c newline n, ne_eqb c exclamation x, ne_eqb c hash k) refl

-- ---- Parts, spaces, `:`

module _ (t : List ℕ) (r : Components) (e : r ≡ components_at t) where
  parts_end : r.end ≡ length t - length (many part_at t).rest
  unfolding components_at
  parts_end = ap (λ (x : Components). x.end) e

  pub parts_inside : r.end ≤ length t
  parts_inside = omega (arith, parts_end)

  pub unnamed : r.named ≡ false → assigned t ≡ none
  unfolding assigned components_at
  unnamed h = rw (← ap (λ (x : Components). x.named) e, h) refl

  -- s is what follows the spaces after the parts
  module _ (s : List ℕ) (f : s ≡ drop_while is_space (take (length t - r.end) (drop r.end t))) where
    spaced : s ≡ drop_while is_space (many part_at t).rest
    spaced = f ∙ ap (drop_while is_space) (part_rest t r.end ∙ rw parts_end (parts_suffix t).same)

    pub colon_at : Suffix s t
    colon_at = rw spaced (suffix_run (parts_suffix t) is_space)

    pub no_colon : after (ascii ":") s ≡ none → assigned t ≡ none
    unfolding assigned
    no_colon n = at (ends_in_name (parts_of t))
      where
        at : (b : Bool) → (if b then after (ascii ":") (drop_while is_space (many part_at t).rest) else none) ≡ none
        at true = rw (← spaced) n
        at false = refl

    pub entry_line : r.named ≡ true → (after (ascii ":") s ≡ some (drop 1 s)) × (1 ≤ length s)
        → Entry (record { value = length t - length s + 1; count = r.count; size = r.size; verbatim = r.verbatim }) ≡ resource_in t (assigned t)
    unfolding assigned resource_in components_at
    entry_line h n =
        let x : ends_in_name (parts_of t) ≡ true = sym (ap (λ (x : Components). x.named) e) ∙ h in
        let a : length t - length s + 1 ≡ length t - length (drop 1 s) = omega (arith, colon_at.most, n.1, length-drop 1 s) in
        rw (x, ← spaced, n.0, a, e) refl

pub skipped_line : (t : List ℕ) (n : ℕ) → n ≡ line_length t → assigned t ≡ none → Skip n ≡ resource_in t (assigned t)
unfolding resource_in
skipped_line t n f e = rw (e, f) refl
