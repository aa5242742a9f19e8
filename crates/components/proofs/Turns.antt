-- A turn of a loop over the parts: one part, and then the others. Assumes nothing.
use mathlib.Core.List.{List, [], ◌∷◌, ◌++◌}
use mathlib.Core.Path.{◌≡◌, sym, ap, ◌∙◌}
use Prim.Native.Nat.{ℕ, ◌-◌}
use native.Mathlib.Omega.{arith}
use lib.ListN.{length, take, drop, length-drop}
use lib.Seq.{length-take-le}
use Rattle.definition.specs.Parsing.{nothing, Parsed, parsed, many}
use Rattle.definition.specs.Text.{Part, part_at}
use Rattle.definition.specs.Image.{binding_byte, key_of}
use Rattle.laws.proofs.Lists.{part_rest}
use Rattle.laws.proofs.Parsing.{many_stop, many_more}
use Rattle.laws.proofs.Keys.{part_shrinks}
use Rattle.components.specs.Parts.{parts_of, key_first, binding_if, component_text, part_of, FirstPart}
use Rattle.components.specs.declared.Next.{Next}

-- what is left after a part
abbrev pub past : List ℕ → Next → List ℕ
past t r = take (length t - r.end) (drop r.end t)

pub parts_over : (t : List ℕ) → part_at t ≡ nothing → many part_at t ≡ parsed [] t
parts_over t e = many_stop part_at part_shrinks t e

pub key_over : (t : List ℕ) → part_at t ≡ nothing → key_first t ≡ []
unfolding key_of
key_over t e = ap (λ (m : Parsed Part). key_of m.items) (parts_over t e)

module _ {t : List ℕ} {r : Next} (p : FirstPart t r) where
  pub parts_turn : many part_at t ≡ parsed (part_of t r ∷ parts_of (past t r)) (many part_at (past t r)).rest
  parts_turn =
      many_more part_at part_shrinks t (part_of t r) (past t r)
      (p.is ∙ ap (Rattle.definition.specs.Parsing.found (part_of t r)) (sym (part_rest t r.end)))

  pub key_turn : key_first t ≡ binding_byte (binding_if r.loose) ∷ component_text t r ++ key_first (past t r)
  unfolding key_of part_of
  key_turn =
      ap (λ (m : Parsed Part). key_of m.items) parts_turn
      ∙ ap (λ (w : List ℕ). binding_byte (binding_if r.loose) ∷ w ++ key_first (past t r)) p.bytes

  pub bytes_length : length (component_text t r) ≡ r.end - r.start
  bytes_length =
      length-take-le (r.end - r.start) (drop r.start t) (omega (arith, length-drop r.start t, p.inside))
