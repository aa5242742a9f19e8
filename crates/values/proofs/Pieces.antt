-- Pieces of a value: what plain bytes and the code's answer on an escape give of it. Assumes nothing.
use Rattle.std.specs.Prelude.{Option, Some, None}
use mathlib.Core.Bool.{true, ◌||◌}
use mathlib.Core.List.{List, [], ◌∷◌, ◌++◌, flatten}
use mathlib.Core.Path.{◌≡◌, refl, sym, ap, ◌∙◌}
use Prim.Native.Nat.{ℕ, suc, ◌+◌, ◌%◌, ◌≤◌, ◌<◌}
use native.Mathlib.Numerals.{one-add}
use native.Mathlib.Omega.{arith}
use lib.Dec.{eqb}
use lib.ListN.{length, take, drop, get_or, length-take, take-append-drop}
use lib.Seq.{take-take}
use borrow.Author.Tests.{ne_eqb, eqb-true}
use Rattle.definition.specs.Lists.{all, take_while}
use Rattle.definition.specs.Parsing.{found, Parsed}
use Rattle.definition.specs.Bytes.{newline, backslash, letter_n, is_blank, is_octal}
use Rattle.definition.specs.Text.{positional, line_ends, octal_of, escape_at, piece_at}
use Rattle.laws.proofs.Lists.{and_true, not_both, all_take_while, all_get_d, get_d_all, take_run, length_take_while_le}
use Rattle.laws.proofs.Parsing.{many_more}
use Rattle.laws.proofs.Keys.{piece_shrinks, if_either}
use Rattle.copies.specs.Plain.{is_plain}
use Rattle.copies.proofs.Copying.{plain_byte, newline_ends, backslash_ends}
use Rattle.escapes.specs.declared.Piece.{Piece}
use Rattle.escapes.specs.Pieces.{digits, octal_in, escape_in}
use Rattle.escapes.proofs.Escapes.{octal_range, digits_inside, digits_take}
use Rattle.values.specs.Decoded.{decoded_at, rest_at}

-- the value of t begins with ys, which the first n bytes of t give
pub record Yields (t ys : List ℕ) (n : ℕ) : Type 0 where
  pub value : decoded_at t ≡ ys ++ decoded_at (drop n t)
  pub rest : rest_at t ≡ rest_at (drop n t)
  pub inside : n ≤ length t

-- the byte that a piece gives, if it gives one
abbrev pub given : Option ℕ → List ℕ
given (Some b) = b ∷ []
given None = []

-- p stands at the front of t
abbrev pub IsPiece : List ℕ → Piece → Type 0
IsPiece t p = Yields t (given p.byte) p.len × (1 ≤ p.len)

-- a piece of the definition
piece_yields : (t ys : List ℕ) (n : ℕ) → piece_at t ≡ found ys (drop n t) → n ≤ length t → Yields t ys n
unfolding flatten
piece_yields t ys n e h =
    let m = many_more piece_at piece_shrinks t ys (drop n t) e in
    record { value = ap (λ (r : Parsed (List ℕ)). flatten r.items) m; rest = ap (λ (r : Parsed (List ℕ)). r.rest) m; inside = h }

-- ---- Plain bytes stand for themselves

pub plain_yields : (c : ℕ) (t : List ℕ) → is_plain c ≡ true → Yields (c ∷ t) (c ∷ []) 1
unfolding piece_at
plain_yields c t h =
    let e = ne_eqb c newline (λ e. not_both h (newline_ends c e)) in
    let f = ne_eqb c backslash (λ f. not_both h (backslash_ends c f)) in
    piece_yields (c ∷ t) (c ∷ []) 1 (rw (e, f) refl) (omega arith)

all_plain : (cs u : List ℕ) → all is_plain cs ≡ true → (decoded_at (cs ++ u) ≡ cs ++ decoded_at u) × (rest_at (cs ++ u) ≡ rest_at u)
unfolding all
all_plain [] u h = (refl, refl)
all_plain (c ∷ cs) u h =
    let a = and_true (is_plain c) (all is_plain cs) h in
    let g = plain_yields c (cs ++ u) a.0 in
    let ih = all_plain cs u a.1 in
    (g.value ∙ ap (λ (l : List ℕ). c ∷ l) ih.0, g.rest ∙ ih.1)

-- all that t begins with
beginning_yields : (t : List ℕ) (n : ℕ) → n ≤ length t → all is_plain (take n t) ≡ true → Yields t (take n t) n
beginning_yields t n h e =
    let p = all_plain (take n t) (drop n t) e in
    let s = take-append-drop n t in
    record { value = rw s at p.0; rest = rw s at p.1; inside = h }

-- those at the front of the first m bytes
pub run_yields : (t : List ℕ) (m n : ℕ) → n ≡ length (take_while is_plain (take m t)) → Yields t (take_while is_plain (take m t)) n
run_yields t m n e =
    let k = length_take_while_le is_plain (take m t) in
    let l = length-take m t in
    let s : take n t ≡ take_while is_plain (take m t) = sym (take-take n m t (omega arith)) ∙ rw e (take_run is_plain (take m t)) in
    rw s at (beginning_yields t n (omega arith) (rw s (all_take_while is_plain (take m t))))

-- ---- Escapes: t follows the backslash

escape_yields : (t ys : List ℕ) (n : ℕ) → escape_at t ≡ found ys (drop n t) → n ≤ length t → Yields (backslash ∷ t) ys (1 + n) × (1 ≤ 1 + n)
unfolding piece_at
escape_yields t ys n e h = (rw one-add (piece_yields (backslash ∷ t) ys (suc n) e (omega arith)), omega arith)

-- the backslash stands for itself, and so do the digits
kept_piece : (t : List ℕ) → escape_at t ≡ found (backslash ∷ digits t) (drop (length (digits t)) t) → Yields (backslash ∷ t) (backslash ∷ []) 1 × (1 ≤ 1)
kept_piece t e =
    let n = length (digits t) in
    let g = (escape_yields t (backslash ∷ digits t) n e (digits_inside t)).0 in
    let digit : (i : ℕ) → i < n → is_plain (get_or (digits t) i 0) ≡ true =
    λ i h. let r = octal_range (get_or (digits t) i 0) (all_get_d is_octal (digits t) i 0 (all_take_while is_octal (take 3 t)) h) in plain_byte (get_or (digits t) i 0) (λ e. omega arith) (λ e. omega arith) in
    let s = digits_take t in
    let p = rw (← s) at (beginning_yields t n (digits_inside t) (rw (← s) (get_d_all is_plain (digits t) 0 digit))) in
    let value = rw one-add at g.value ∙ ap (λ (l : List ℕ). backslash ∷ l) (sym p.value) in
    (record { value = value; rest = rw one-add at g.rest ∙ sym p.rest; inside = omega arith }, omega arith)

octal_piece : (t : List ℕ) → escape_at t ≡ octal_of (digits t) (drop (length (digits t)) t)
    → IsPiece (backslash ∷ t) (octal_in (digits t) (drop (length (digits t)) t))
unfolding octal_of octal_in
octal_piece t e =
    let P = IsPiece (backslash ∷ t) in
    let n = length (digits t) in
    let h = digits_inside t in
    if_either P (eqb n 3) (λ f. escape_yields t (positional 8 0 (digits t) % 256 ∷ []) 3 (e ∙ rw (eqb-true n 3 f) refl) (omega (arith, eqb-true n 3 f)))
    λ f. if_either P (line_ends (drop n t)) (λ l. escape_yields t [] n (e ∙ rw (f, l) refl) h)
    λ l. kept_piece t (e ∙ rw (f, l) refl)

escape_piece : (t : List ℕ) → IsPiece (backslash ∷ t) (escape_in t)
unfolding escape_at escape_in
escape_piece [] = escape_yields [] (backslash ∷ []) 0 refl (omega arith)
escape_piece (c ∷ t) =
    let P = IsPiece (backslash ∷ c ∷ t) in
    let h : 1 ≤ length (c ∷ t) = omega arith in
    if_either P (is_blank c || eqb c backslash) (λ e. escape_yields (c ∷ t) (c ∷ []) 1 (rw e refl) h)
    λ e. if_either P (eqb c letter_n) (λ f. escape_yields (c ∷ t) (newline ∷ []) 1 (rw (e, f) refl) h)
    λ f. if_either P (eqb c newline) (λ g. escape_yields (c ∷ t) [] 1 (rw (e, f, g) refl) h)
    λ g. if_either P (is_octal c) (λ k. octal_piece (c ∷ t) (rw (e, f, g, k) refl))
    λ k. escape_yields (c ∷ t) (backslash ∷ []) 0 (rw (e, f, g, k) refl) (omega arith)

-- as the code answers it
pub answer_piece : (t : List ℕ) {p : Piece} → p ≡ escape_in t → IsPiece (backslash ∷ t) p
answer_piece t e = rw e (escape_piece t)
