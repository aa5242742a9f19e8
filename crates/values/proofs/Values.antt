-- What a caller of `parse_value` reads off its answer. Assumes nothing.
use Rattle.std.specs.Prelude.{Some, None, if◌then◌else◌}
use mathlib.Core.Bool.{Bool, true, false, ◌||◌}
use mathlib.Core.List.{List, [], ◌∷◌, flatten}
use mathlib.Core.Path.{◌≡◌, refl, ap, ◌∙◌}
use Prim.Native.Nat.{ℕ, zero, suc, ◌+◌, ◌-◌, ◌≤◌, ◌<◌}
use native.Mathlib.Nat.{min-eq_left}
use native.Mathlib.Omega.{arith}
use lib.Dec.{eqb, leb}
use lib.ListN.{length, drop, length-append, length-drop}
use lib.Seq.{paste}
use borrow.Author.Tests.{leb-true, leb-false}
use Rattle.definition.specs.Parsing.{Parse, nothing, found, continued, at_most, many}
use Rattle.definition.specs.Bytes.{newline, backslash, letter_n, is_blank, is_octal}
use Rattle.definition.specs.Text.{line_ends, octal_of, escape_at, piece_at}
use Rattle.laws.proofs.Lists.{Suffix, suffix_whole, suffix_drop}
use Rattle.laws.proofs.Keys.{Finds, if_either}
use Rattle.scan.proofs.Suffixes.{LeavesRest, suffix_cons, many_suffix}
use Rattle.escapes.specs.Pieces.{digits}
use Rattle.escapes.proofs.Escapes.{digits_inside}
use Rattle.values.specs.declared.Stored.{Stored}
use Rattle.values.specs.Decoded.{decoded_at, rest_at, stored_at, Decoded}

-- ---- The text after a value is the text from some place on

leaves_cons : (c : ℕ) (t : List ℕ) (r : Parse (List ℕ)) → LeavesRest t r → LeavesRest (c ∷ t) r
leaves_cons c t nothing h = tt
leaves_cons c t (found a u) h = suffix_cons c h

escape_leaves : (t : List ℕ) → LeavesRest t (escape_at t)
unfolding escape_at octal_of
escape_leaves [] = suffix_whole []
escape_leaves (c ∷ t) =
    let P = LeavesRest {A = List ℕ} (c ∷ t) in
    let s = suffix_cons c (suffix_whole t) in
    let ds = digits (c ∷ t) in
    let u = suffix_drop (suffix_whole (c ∷ t)) (length ds) (digits_inside (c ∷ t)) in
    if_either P (is_blank c || eqb c backslash) (λ e. s)
    λ e. if_either P (eqb c letter_n) (λ e. s)
    λ e. if_either P (eqb c newline) (λ e. s)
    λ e. if_either P (is_octal c)
    (λ e. if_either P (eqb (length ds) 3) (λ e. u) λ e. if_either P (line_ends (drop (length ds) (c ∷ t))) (λ e. u) λ e. u)
    λ e. suffix_whole (c ∷ t)

piece_leaves : (t : List ℕ) → LeavesRest t (piece_at t)
unfolding piece_at
piece_leaves [] = tt
piece_leaves (c ∷ t) =
    let P = LeavesRest {A = List ℕ} (c ∷ t) in
    if_either P (eqb c newline) (λ e. tt)
    λ e. if_either P (eqb c backslash) (λ e. leaves_cons c t (escape_at t) (escape_leaves t)) λ e. suffix_cons c (suffix_whole t)

pub rest_suffix : (t : List ℕ) → Suffix (rest_at t) t
rest_suffix t = many_suffix piece_at piece_leaves t

-- ---- A value is at most as long as its text

-- what was found gives, with what is left, at most n bytes
abbrev Within : ℕ → Parse (List ℕ) → Type 0
Within n r = Finds (λ ys u. length ys + length u ≤ n) r

escape_within : (t : List ℕ) → Within (suc (length t)) (escape_at t)
unfolding escape_at octal_of
escape_within [] = omega arith
escape_within (c ∷ t) =
    let P = Within (suc (suc (length t))) in
    let ds = digits (c ∷ t) in
    let h = digits_inside (c ∷ t) in
    let u = length-drop (length ds) (c ∷ t) in
    if_either P (is_blank c || eqb c backslash) (λ e. omega arith)
    λ e. if_either P (eqb c letter_n) (λ e. omega arith)
    λ e. if_either P (eqb c newline) (λ e. omega arith)
    λ e. if_either P (is_octal c)
    (λ e. if_either P (eqb (length ds) 3) (λ e. omega arith) λ e. if_either P (line_ends (drop (length ds) (c ∷ t))) (λ e. omega arith) λ e. omega arith)
    λ e. omega arith

piece_within : (t : List ℕ) → Within (length t) (piece_at t)
unfolding piece_at
piece_within [] = tt
piece_within (c ∷ t) =
    let P = Within (suc (length t)) in
    if_either P (eqb c newline) (λ e. tt) λ e. if_either P (eqb c backslash) (λ e. escape_within t) λ e. omega arith

at_most_within : (n : ℕ) (t : List ℕ) → length (flatten (at_most n piece_at t).items) + length (at_most n piece_at t).rest ≤ length t
unfolding at_most continued flatten
at_most_within zero t = omega arith
at_most_within (suc n) t = at (piece_at t) (piece_within t) (λ u. at_most_within n u)
  where
    at : (r : Parse (List ℕ)) → Within (length t) r → ((u : List ℕ) → length (flatten (at_most n piece_at u).items) + length (at_most n piece_at u).rest ≤ length u)
        → length (flatten (continued r (at_most n piece_at) t).items) + length (continued r (at_most n piece_at) t).rest ≤ length t
    at nothing h ih = omega arith
    at (found ys u) h ih = omega (arith, ih u, length-append ys (flatten (at_most n piece_at u).items))

pub decoded_within : (t : List ℕ) → length (decoded_at t) + length (rest_at t) ≤ length t
unfolding many
decoded_within t = at_most_within (length t) t

-- ---- The answer

-- the value of t stands whole in the store from `at` on, up to `end`, and took `taken` bytes of t
pub record Fits (t store : List ℕ) (at : ℕ) (store' : List ℕ) (end taken : ℕ) : Type 0 where
  pub room : at + length (decoded_at t) ≤ length store
  pub ends : end ≡ at + length (decoded_at t)
  pub stored : store' ≡ paste store at (decoded_at t) (length (decoded_at t))
  pub rest : drop taken t ≡ rest_at t
  pub inside : taken ≤ length t

module _ {t store : List ℕ} {at : ℕ} {store' : List ℕ} where
  pub decoded_fits : {r : Stored} → Decoded t store at store' (Some r) → Fits t store at store' r.end r.taken
  unfolding stored_at
  decoded_fits {r} d = by (leb (at + length (decoded_at t)) (length store)) refl d.answer
    where
      value : Stored
      value = record { end = at + length (decoded_at t); taken = length t - length (rest_at t) }

      by : (b : Bool) → leb (at + length (decoded_at t)) (length store) ≡ b → Some r ≡ (if b then Some value else None) → Fits t store at store' r.end r.taken
      by true e f =
          let room = leb-true (at + length (decoded_at t)) (length store) e in
          let h : length (decoded_at t) ≤ length store - at = omega arith in
          let g : r ≡ value = cc in
          let x : r.end ≡ at + length (decoded_at t) = ap (λ (v : Stored). v.end) g in
          let y : r.taken ≡ length t - length (rest_at t) = ap (λ (v : Stored). v.taken) g in
          record {
            room = room;
            ends = x;
            stored = d.stored ∙ rw (min-eq_left h) refl;
            rest = rw y (rest_suffix t).same;
            inside = omega arith;
          }
      by false e f = absurd (let z : ◌≡◌ {A = ℕ} 0 1 = cc in omega arith)

  pub decoded_full : Decoded t store at store' None → length store < at + length (decoded_at t)
  unfolding stored_at
  decoded_full d = by (leb (at + length (decoded_at t)) (length store)) refl d.answer
    where
      value : Stored
      value = record { end = at + length (decoded_at t); taken = length t - length (rest_at t) }

      by : (b : Bool) → leb (at + length (decoded_at t)) (length store) ≡ b → None ≡ (if b then Some value else None) → length store < at + length (decoded_at t)
      by true e f = absurd (let z : ◌≡◌ {A = ℕ} 0 1 = cc in omega arith)
      by false e f = leb-false (at + length (decoded_at t)) (length store) e
