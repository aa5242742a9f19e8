-- The loop that measures a value: so many bytes of it are counted, and the text that is left gives the rest. Assumes nothing.
use Rattle.std.specs.Prelude.{Option, Some, None, is_some}
use Rattle.std.proofs.lemmas.Bool.{false≢true}
use mathlib.Core.Bool.{true, false}
use mathlib.Core.List.{List, flatten}
use mathlib.Core.Path.{◌≡◌, refl, sym, ap, ◌∙◌}
use Prim.Native.Nat.{ℕ, ◌+◌, ◌≤◌, ◌<◌}
use native.Mathlib.Omega.{arith}
use lib.ListN.{length, drop, get_or, length-append, length-drop}
use lib.Seq.{drop-drop}
use Rattle.definition.specs.Parsing.{nothing, Parsed}
use Rattle.definition.specs.Bytes.{newline, backslash}
use Rattle.definition.specs.Text.{piece_at}
use Rattle.laws.proofs.Parsing.{many_stop}
use Rattle.laws.proofs.Keys.{piece_shrinks}
use Rattle.copies.proofs.Copying.{plain_byte}
use Rattle.values.specs.Decoded.{decoded_at}
use Rattle.escapes.specs.declared.Piece.{Piece}
use Rattle.values.proofs.Pieces.{Yields, given, IsPiece}
use Rattle.values.proofs.Decoding.{over, ended, plain}

pub record Measuring (t : List ℕ) (size i : ℕ) : Type 0 where
  pub counted : length (decoded_at t) ≡ size + length (decoded_at (drop i t))
  pub inside : i ≤ length t
  pub less : size ≤ i

pub measuring_first : (t : List ℕ) → Measuring t 0 0
measuring_first t = record { counted = omega arith; inside = omega arith; less = omega arith }

module _ {t : List ℕ} {size i : ℕ} (m : Measuring t size i) where
  stopped : piece_at (drop i t) ≡ nothing → size ≡ length (decoded_at t)
  unfolding flatten
  stopped e =
      let z : length (decoded_at (drop i t)) ≡ 0 = ap (λ (r : Parsed (List ℕ)). length (flatten r.items)) (many_stop piece_at piece_shrinks (drop i t) e) in
      omega (arith, m.counted)

  pub measured_all : length t ≤ i → size ≡ length (decoded_at t)
  measured_all h = stopped (over t i h)

  pub measured_line : i < length t → get_or t i 0 ≡ newline → size ≡ length (decoded_at t)
  measured_line h e = stopped (ended t i h e)

  module _ {ys : List ℕ} {n : ℕ} (g : Yields (drop i t) ys n) where
    pub piece_inside : i + n ≤ length t
    piece_inside = omega (arith, g.inside, length-drop i t, m.inside)

    pub measuring_more : length ys ≤ n → Measuring t (size + length ys) (i + n)
    measuring_more h =
        let e : length (decoded_at (drop i t)) ≡ length ys + length (decoded_at (drop (i + n) t)) =
        ap length g.value ∙ length-append ys (decoded_at (drop n (drop i t))) ∙ rw (drop-drop n i t) refl in
        record { counted = omega (arith, m.counted); inside = piece_inside; less = omega (arith, m.less) }

  pub measuring_piece : (p : Piece) → IsPiece (drop i t) p → is_some p.byte ≡ true → Measuring t (size + 1) (i + p.len)
  measuring_piece p g e = at p.byte g e
    where
      at : (o : Option ℕ) → Yields (drop i t) (given o) p.len × (1 ≤ p.len) → is_some o ≡ true → Measuring t (size + 1) (i + p.len)
      at (Some b) g e = measuring_more g.0 g.1
      at None g e = absurd (false≢true e)

  pub measuring_none : (p : Piece) → IsPiece (drop i t) p → is_some p.byte ≡ false → Measuring t size (i + p.len)
  measuring_none p g e = at p.byte g e
    where
      at : (o : Option ℕ) → Yields (drop i t) (given o) p.len × (1 ≤ p.len) → is_some o ≡ false → Measuring t size (i + p.len)
      at (Some b) g e = absurd (false≢true (sym e))
      at None g e = let z : size + 0 ≡ size = omega arith in rw z at (measuring_more g.0 (omega arith))

  pub measuring_plain : i < length t → (get_or t i 0 ≡ newline → ⊥) → (get_or t i 0 ≡ backslash → ⊥) → Measuring t (size + 1) (i + 1)
  measuring_plain h e f = measuring_more (plain t i h (plain_byte (get_or t i 0) e f)) (omega arith)
