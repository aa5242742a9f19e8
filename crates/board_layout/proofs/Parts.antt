-- The parts of a board, as the borrow checker gives them. Assumes nothing.
use mathlib.Core.Bool.{true}
use mathlib.Core.List.{List}
use mathlib.Core.Path.{◌≡◌, ap, ◌∙◌}
use Prim.Native.Nat.{ℕ, suc, ◌+◌, ◌-◌, ◌≤◌}
use native.Mathlib.Numerals.{add-one}
use lib.Dec.{leb}
use lib.ListN.{take, drop}
use lib.Seq.{slice}
use borrow.Author.Tests.{leb-true}
use Rattle.definition.specs.Limits.{query_bytes}
use Rattle.definition.specs.Board.{Lent, slot_start, text_start, body_start, slot_at, name_length, class_length, query_at, have_room}
use Rattle.laws.proofs.Lists.{and_true, part_slice}

part_is : (xs : List ℕ) (a b c d : ℕ) → a ≡ c → b ≡ d → take (b - a) (drop a xs) ≡ slice c d xs
part_is xs a b c d p q = part_slice xs a b ∙ (λ t. slice (p t) (q t) xs)

module _ (l : Lent) where
  pub contents_part : (i at next : ℕ) → at ≡ slot_start i → next ≡ slot_start (i + 1) → take (next - (at + 1)) (drop (at + 1) l.words) ≡ (slot_at l i).contents
  unfolding slot_at
  contents_part i at next p q =
      part_is l.words (at + 1) next (slot_start i + 1) (slot_start (suc i)) (ap (λ (n : ℕ). n + 1) p) (q ∙ ap slot_start (add-one i))

  pub bodies_part : (i at next : ℕ) → at ≡ body_start i → next ≡ body_start (i + 1) → take (next - at) (drop at l.bytes) ≡ (slot_at l i).bodies
  unfolding slot_at
  bodies_part i at next p q = part_is l.bytes at next (body_start i) (body_start (suc i)) p (q ∙ ap body_start (add-one i))

  module _ (q at n c : ℕ) (starts : at ≡ text_start q) (name : n ≡ name_length l q) where
    pub name_part : take (at + n - at) (drop at l.bytes) ≡ (query_at l q).name
    unfolding query_at
    name_part = part_is l.bytes at (at + n) (text_start q) (text_start q + name_length l q) starts (λ t. starts t + name t)

    pub class_part : c ≡ class_length l q → take (at + n + c - (at + n)) (drop (at + n) l.bytes) ≡ (query_at l q).class
    unfolding query_at
    class_part class =
        let e : at + n ≡ text_start q + name_length l q = λ t. starts t + name t in
        part_is l.bytes (at + n) (at + n + c) (text_start q + name_length l q) (text_start q + name_length l q + class_length l q) e
        (λ t. e t + class t)

-- a query that has room
pub room_lengths : (l : Lent) (q : ℕ) → have_room l q ≡ true → (name_length l q ≤ query_bytes) × (class_length l q ≤ query_bytes)
unfolding have_room
room_lengths l q h =
    let y = and_true (leb (name_length l q) query_bytes) (leb (class_length l q) query_bytes) h in
    (leb-true (name_length l q) query_bytes y.0, leb-true (class_length l q) query_bytes y.1)
