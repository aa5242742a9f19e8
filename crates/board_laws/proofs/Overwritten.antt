-- Words and bytes after a call: a part of them is written over, and one of the first two words. Assumes nothing.
use mathlib.Core.List.{List, [], ◌∷◌}
use mathlib.Core.Path.{◌≡◌, refl, sym, ap, ◌∙◌}
use Prim.Native.Nat.{ℕ, ◌+◌, ◌-◌, ◌≤◌, ◌<◌}
use native.Mathlib.Omega.{arith}
use lib.ListN.{length, take, drop, get_or}
use lib.Seq.{slice, get_or-take, get_or-drop, take-take, drop-drop}
use Rattle.definition.specs.Adding.{over}
use Rattle.laws.proofs.Lists.{part_slice}
use Rattle.laws.proofs.Adding.{over_long, over_before}
use Rattle.board_laws.proofs.Placing.{at_before, at_inside, at_after, part_after, part_inside}

-- ---- Parts of a part

module _ (xs : List ℕ) (from to : ℕ) where
  pub part_at_lem : (k : ℕ) → from + k < to → get_or (slice from to xs) k 0 ≡ get_or xs (from + k) 0
  part_at_lem k h = get_or-drop from (take to xs) k 0 ∙ get_or-take to xs (from + k) 0 h

  pub part_part : (f t : ℕ) → f ≤ t → from + t ≤ to → slice f t (slice from to xs) ≡ slice (from + f) (from + t) xs
  part_part f t g h =
      let e : from + t - from ≡ t = omega arith in
      let x : take t (drop from (take to xs)) ≡ drop from (take (from + t) xs) =
      ap (λ (n : ℕ). take n (drop from (take to xs))) (sym e) ∙ part_slice (take to xs) from (from + t) ∙ ap (drop from) (take-take (from + t) to xs h) in
      ap (drop f) x ∙ drop-drop f from (take (from + t) xs)

  pub part_front : (m : ℕ) → from + m ≤ to → take m (slice from to xs) ≡ slice from (from + m) xs
  part_front m h = let e : from + 0 ≡ from = omega arith in part_part 0 m (omega arith) h ∙ ap (λ (n : ℕ). slice n (from + m) xs) e

-- ---- A part written over, and one of the first two words

module _ (c k a : ℕ) (xs words : List ℕ) (low : c < 2) (high : 2 ≤ a) (fits : a + length xs ≤ length words) where
  abbrev inner : List ℕ
  inner = over a xs words

  abbrev marked : List ℕ
  marked = over c (k ∷ []) inner

  inner_long : length inner ≡ length words
  inner_long = over_long a xs words fits

  one_fits : c + length (k ∷ []) ≤ length inner
  one_fits = omega (arith, inner_long)

  pub marked_long : length marked ≡ length words
  marked_long = over_long c (k ∷ []) inner one_fits ∙ inner_long

  pub word_marked : get_or marked c 0 ≡ k
  word_marked = let e : c + 0 ≡ c = omega arith in ap (λ (i : ℕ). get_or marked i 0) (sym e) ∙ at_inside c (k ∷ []) inner one_fits 0 (omega arith)

  pub word_below : (i : ℕ) → i < c → get_or marked i 0 ≡ get_or words i 0
  word_below i h = at_before c (k ∷ []) inner one_fits i h ∙ at_before a xs words fits i (omega arith)

  pub word_before : (i : ℕ) → c < i → i < a → get_or marked i 0 ≡ get_or words i 0
  word_before i h g = at_after c (k ∷ []) inner one_fits i (omega arith) ∙ at_before a xs words fits i g

  pub word_inside : (i : ℕ) → i < length xs → get_or marked (a + i) 0 ≡ get_or xs i 0
  word_inside i h = at_after c (k ∷ []) inner one_fits (a + i) (omega arith) ∙ at_inside a xs words fits i h

  pub word_after : (i : ℕ) → a + length xs ≤ i → get_or marked i 0 ≡ get_or words i 0
  word_after i h = at_after c (k ∷ []) inner one_fits i (omega arith) ∙ at_after a xs words fits i h

  pub words_before : (from to : ℕ) → 2 ≤ from → to ≤ a → slice from to marked ≡ slice from to words
  words_before from to h g = part_after c (k ∷ []) inner one_fits from to (omega arith) ∙ over_before a xs words (omega arith) from to g

  pub words_inside : (from to : ℕ) → from ≤ to → to ≤ length xs → slice (a + from) (a + to) marked ≡ slice from to xs
  words_inside from to h g = part_after c (k ∷ []) inner one_fits (a + from) (a + to) (omega arith) ∙ part_inside a xs words fits from to h g

  pub words_after : (from to : ℕ) → a + length xs ≤ from → slice from to marked ≡ slice from to words
  words_after from to h = part_after c (k ∷ []) inner one_fits from to (omega arith) ∙ part_after a xs words fits from to h
