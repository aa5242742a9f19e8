-- Document 02 (v), a walk over a list of entries: its numbers are just those of the entries that align, rising; a step gives the least of them
-- in reach; and it is refused as a lookup is. Assumes nothing.
use Rattle.std.specs.Prelude.{if◌then◌else◌}
use mathlib.Core.Bool.{Bool, true, false, not}
use mathlib.Core.List.{List, [], ◌∷◌, ◌++◌}
use mathlib.Core.Logic.{◌↔◌}
use mathlib.Core.Option.{Option, some, none}
use mathlib.Core.Path.{◌≡◌, refl, sym, ap, ◌∙◌}
use Prim.Native.Nat.{ℕ, zero, suc, ◌+◌, ◌-◌, ◌≤◌, ◌<◌}
use native.Mathlib.Omega.{arith}
use lib.ListN.{length, get_or, take, drop, length-drop}
use lib.Seq.{drop-drop, get_or-drop, get_or-take}
use Rattle.definition.specs.Limits.{most_entries}
use Rattle.definition.specs.Text.{Entry}
use Rattle.definition.specs.Image.{Row, count_of, rows_in, is_image}
use Rattle.definition.specs.Writing.{entries_of_image}
use Rattle.definition.specs.Query.{Position, Query, positions, malformed, past_limit, query_of}
use Rattle.definition.specs.Matching.{Aligned}
use Rattle.definition.specs.Ranking.{rank_of, Best, no_entry, best, best_of}
use Rattle.definition.specs.Lookup.{keys_of, given, no_value, refused, place_of, lookup, get_bytes_by}
use Rattle.definition.specs.Walking.{
  has_row,
  aligns,
  aligned_from,
  first_of,
  Walk,
  next_of,
  begun,
  walk_start_by,
  number_or,
  stepped,
  walk_step_by,
  walk_step,
  AlignsAt,
  NumbersAlign,
  InReach,
  GivesLeast,
  StepLeast,
  refusal_in,
  RefusedAlike,
}
use Rattle.laws.proofs.Lists.{not_both, get_d_map, Order, below, equal, above, order}
use Rattle.laws.proofs.Image.{image_held}
use Rattle.laws.proofs.Ranking.{IsRank, rank_is}

-- ---- An entry that aligns

pub aligns_is : (qs : List Position) (e : Entry) → (aligns qs e ≡ true) ↔ ((row : List ℕ) × Aligned e.parts qs row)
unfolding aligns has_row
aligns_is qs e = at (rank_of e.parts qs) (rank_is e.parts qs)
  where
    at : (o : Option (List ℕ)) → IsRank e.parts qs o → (has_row o ≡ true) ↔ ((row : List ℕ) × Aligned e.parts qs row)
    at none k = (λ h. absurd (not_both h refl), λ a. absurd (k a.0 a.1))
    at (some row) k = (λ h. (row, k.aligned), λ a. refl)

-- ---- The numbers of those that align

module _ (qs : List Position) where
  pub aligned_append : (i : ℕ) (xs ys : List Entry) → aligned_from i qs (xs ++ ys) ≡ aligned_from i qs xs ++ aligned_from (i + length xs) qs ys
  unfolding aligned_from
  aligned_append i [] ys = let e : i + 0 ≡ i = omega arith in rw e refl
  aligned_append i (x ∷ xs) ys = let e : i + suc (length xs) ≡ suc i + length xs = omega arith in rw e (at (aligns qs x) (aligned_append (suc i) xs ys))
    where
      at : (b : Bool) → aligned_from (suc i) qs (xs ++ ys) ≡ aligned_from (suc i) qs xs ++ aligned_from (suc i + length xs) qs ys
          → (if b then i ∷ aligned_from (suc i) qs (xs ++ ys) else aligned_from (suc i) qs (xs ++ ys))
          ≡ (if b then i ∷ aligned_from (suc i) qs xs else aligned_from (suc i) qs xs) ++ aligned_from (suc i + length xs) qs ys
      at true ih = ap (λ (l : List ℕ). i ∷ l) ih
      at false ih = ih

  -- behind the first number k, what is left is numbered from the one above it
  record Behind (i : ℕ) (xs : List Entry) (k : ℕ) (ks : List ℕ) : Type 0 where
    place : ℕ
    number : k ≡ i + place
    rest : aligned_from (suc k) qs (drop (suc place) xs) ≡ ks

  behind : (i : ℕ) (xs : List Entry) (k : ℕ) (ks : List ℕ) → aligned_from i qs xs ≡ k ∷ ks → Behind i xs k ks
  unfolding aligned_from
  behind i [] k ks h = let z : ◌≡◌ {A = ℕ} 0 1 = cc in absurd (omega arith)
  behind i (x ∷ xs) k ks h = at (aligns qs x) h (λ g. behind (suc i) xs k ks g)
    where
      at : (b : Bool) → (if b then i ∷ aligned_from (suc i) qs xs else aligned_from (suc i) qs xs) ≡ k ∷ ks
          → (aligned_from (suc i) qs xs ≡ k ∷ ks → Behind (suc i) xs k ks) → Behind i (x ∷ xs) k ks
      at true h ih =
          let e : i ≡ k = cc in
          let f : aligned_from (suc i) qs xs ≡ ks = cc in
          record { place = 0; number = omega arith; rest = rw (← e) f }
      at false h ih = let r = ih h in record { place = suc r.place; number = omega (arith, r.number); rest = r.rest }

  pub aligned_rest : (es : List Entry) (n k : ℕ) (ks : List ℕ) → aligned_from n qs (drop n es) ≡ k ∷ ks → aligned_from (suc k) qs (drop (suc k) es) ≡ ks
  aligned_rest es n k ks h =
      let r = behind n (drop n es) k ks h in
      let e : n + suc r.place ≡ suc k = omega (arith, r.number) in
      ap (λ (l : List Entry). aligned_from (suc k) qs l) (ap (λ (m : ℕ). drop m es) (sym e) ∙ sym (drop-drop (suc r.place) n es)) ∙ r.rest

-- ---- They rise, and are just those of the entries that align

-- no entry has this number
abbrev none_such : Entry
none_such = record { parts = []; value = [] }

-- does entry i align?
abbrev aligns_at : List Position → List Entry → ℕ → Bool
aligns_at qs es i = aligns qs (get_or es i none_such)

module _ (qs : List Position) where
  -- n is the number of an entry that aligns, where the first entry has number i
  record Numbers (i : ℕ) (xs : List Entry) (n : ℕ) : Type 0 where
    place : ℕ
    number : n ≡ i + place
    inside : place < length xs
    aligned : aligns_at qs xs place ≡ true

  later : (i : ℕ) (x : Entry) (xs : List Entry) (n : ℕ) → Numbers (suc i) xs n → Numbers i (x ∷ xs) n
  later i x xs n r = record { place = suc r.place; number = omega (arith, r.number); inside = omega (arith, r.inside); aligned = r.aligned }

  each_aligns : (i : ℕ) (xs : List Entry) (k : ℕ) → k < length (aligned_from i qs xs) → Numbers i xs (get_or (aligned_from i qs xs) k 0)
  unfolding aligned_from
  each_aligns i [] k h = absurd (omega arith)
  each_aligns i (x ∷ xs) k h = at (aligns qs x) refl k h (λ j g. each_aligns (suc i) xs j g)
    where
      at : (b : Bool) → aligns qs x ≡ b → (k : ℕ) → k < length (if b then i ∷ aligned_from (suc i) qs xs else aligned_from (suc i) qs xs)
          → ((j : ℕ) → j < length (aligned_from (suc i) qs xs) → Numbers (suc i) xs (get_or (aligned_from (suc i) qs xs) j 0))
          → Numbers i (x ∷ xs) (get_or (if b then i ∷ aligned_from (suc i) qs xs else aligned_from (suc i) qs xs) k 0)
      at true e zero h ih = record { place = 0; number = omega arith; inside = omega arith; aligned = e }
      at true e (suc k) h ih = later i x xs _ (ih k (omega arith))
      at false e k h ih = later i x xs _ (ih k h)

  they_rise : (i : ℕ) (xs : List Entry) (j k : ℕ) → j < k → k < length (aligned_from i qs xs)
      → get_or (aligned_from i qs xs) j 0 < get_or (aligned_from i qs xs) k 0
  unfolding aligned_from
  they_rise i [] j k l h = absurd (omega arith)
  they_rise i (x ∷ xs) j k l h = at (aligns qs x) j k l h (λ m g. each_aligns (suc i) xs m g) (they_rise (suc i) xs)
    where
      at : (b : Bool) (j k : ℕ) → j < k → k < length (if b then i ∷ aligned_from (suc i) qs xs else aligned_from (suc i) qs xs)
          → ((m : ℕ) → m < length (aligned_from (suc i) qs xs) → Numbers (suc i) xs (get_or (aligned_from (suc i) qs xs) m 0))
          → ((j k : ℕ) → j < k → k < length (aligned_from (suc i) qs xs) → get_or (aligned_from (suc i) qs xs) j 0 < get_or (aligned_from (suc i) qs xs) k 0)
          → get_or (if b then i ∷ aligned_from (suc i) qs xs else aligned_from (suc i) qs xs) j 0
          < get_or (if b then i ∷ aligned_from (suc i) qs xs else aligned_from (suc i) qs xs) k 0
      at true zero zero l h f ih = absurd (omega arith)
      at true zero (suc k) l h f ih = omega (arith, (f k (omega arith)).number)
      at true (suc j) zero l h f ih = absurd (omega arith)
      at true (suc j) (suc k) l h f ih = ih j k (omega arith) (omega arith)
      at false j k l h f ih = ih j k l h

  -- every entry that aligns is numbered
  every_is : (i : ℕ) (xs : List Entry) (m : ℕ) → m < length xs → aligns_at qs xs m ≡ true
      → (k : ℕ) × (k < length (aligned_from i qs xs)) × (get_or (aligned_from i qs xs) k 0 ≡ i + m)
  unfolding aligned_from
  every_is i [] m h e = absurd (omega arith)
  every_is i (x ∷ xs) zero h e = rw e (0, omega arith, omega arith)
  every_is i (x ∷ xs) (suc m) h e = at (aligns qs x) (every_is (suc i) xs m (omega arith) e)
    where
      at : (b : Bool) → (k : ℕ) × (k < length (aligned_from (suc i) qs xs)) × (get_or (aligned_from (suc i) qs xs) k 0 ≡ suc i + m)
          → (k : ℕ) × (k < length (if b then i ∷ aligned_from (suc i) qs xs else aligned_from (suc i) qs xs))
          × (get_or (if b then i ∷ aligned_from (suc i) qs xs else aligned_from (suc i) qs xs) k 0 ≡ i + suc m)
      at true r = (suc r.0, omega (arith, r.1), omega (arith, r.2))
      at false r = (r.0, r.1, omega (arith, r.2))

-- as the claims say it
module _ (qs : List Position) (es : List Entry) (i : ℕ) where
  aligned_at : i < length es → aligns_at qs es i ≡ true → AlignsAt qs es i
  aligned_at h e =
      let a = (aligns_is qs (get_or es i none_such)).0 e in
      (h, (a.0, rw (get_d_map (λ (e : Entry). e.parts) es i none_such [] h) a.1))

  at_aligned : AlignsAt qs es i → aligns_at qs es i ≡ true
  at_aligned a =
      (aligns_is qs (get_or es i none_such)).1 (a.1.0, rw (get_d_map (λ (e : Entry). e.parts) es i none_such [] a.0) at a.1.1)

pub numbers_align : NumbersAlign
numbers_align qs es = record {
  rising = they_rise qs 0 es;
  each = λ k h.
      let n = each_aligns qs 0 es k h in
      let e : get_or (aligned_from 0 qs es) k 0 ≡ n.place = omega (arith, n.number) in
      rw e (aligned_at qs es n.place n.inside n.aligned);
  every = λ i a. let r = every_is qs 0 es i a.0 (at_aligned qs es i a) in (r.0, r.1, omega (arith, r.2));
}

-- ---- A step gives the least of them

take_inside : {A : Type 0} (n : ℕ) (xs : List A) (j : ℕ) → j < length (take n xs) → (j < n) × (j < length xs)
take_inside zero xs j h = absurd (omega arith)
take_inside (suc n) [] j h = absurd (omega arith)
take_inside (suc n) (x ∷ xs) zero h = (omega arith, omega arith)
take_inside (suc n) (x ∷ xs) (suc j) h = let r = take_inside n xs j (omega arith) in (omega (arith, r.0), omega (arith, r.1))

inside_take : {A : Type 0} (n : ℕ) (xs : List A) (j : ℕ) → j < n → j < length xs → j < length (take n xs)
inside_take zero xs j h k = absurd (omega arith)
inside_take (suc n) [] j h k = absurd (omega arith)
inside_take (suc n) (x ∷ xs) zero h k = omega arith
inside_take (suc n) (x ∷ xs) (suc j) h k = omega (arith, inside_take n xs j (omega arith) (omega arith))

module _ (qs : List Position) where
  -- none of the first m aligns
  abbrev NoneOf : List Entry → ℕ → Type 0
  NoneOf xs m = (j : ℕ) → j < m → aligns_at qs xs j ≡ false

  abbrev IsFirst : ℕ → List Entry → Option ℕ → Type 0
  IsFirst i xs none = NoneOf xs (length xs)
  IsFirst i xs (some n) = (r : Numbers qs i xs n) × NoneOf xs r.place

  one_more : (x : Entry) (xs : List Entry) (m : ℕ) → aligns qs x ≡ false → NoneOf xs m → NoneOf (x ∷ xs) (suc m)
  one_more x xs m e f zero h = e
  one_more x xs m e f (suc j) h = f j (omega arith)

  first_is : (i : ℕ) (xs : List Entry) → IsFirst i xs (first_of (aligned_from i qs xs))
  unfolding aligned_from first_of later
  first_is i [] = λ j h. absurd (omega arith)
  first_is i (x ∷ xs) = at (aligns qs x) refl (first_of (aligned_from (suc i) qs xs)) refl (first_is (suc i) xs)
    where
      later_first : aligns qs x ≡ false → (o : Option ℕ) → IsFirst (suc i) xs o → IsFirst i (x ∷ xs) o
      later_first e none f = one_more x xs (length xs) e f
      later_first e (some n) r = (later qs i x xs n r.0, one_more x xs r.0.place e r.1)

      at : (b : Bool) → aligns qs x ≡ b → (o : Option ℕ) → first_of (aligned_from (suc i) qs xs) ≡ o → IsFirst (suc i) xs o
          → IsFirst i (x ∷ xs) (first_of (if b then i ∷ aligned_from (suc i) qs xs else aligned_from (suc i) qs xs))
      at true e o g ih = (record { place = 0; number = omega arith; inside = omega arith; aligned = e }, λ j h. absurd (omega arith))
      at false e o g ih = rw g (later_first e o ih)

  module _ (w : Walk) (es : List Entry) where
    -- the entries from the next on and below both counts
    abbrev reached : List Entry
    reached = drop w.next (take w.count es)

    reached_at : (j : ℕ) → w.next + j < w.count → aligns_at qs reached j ≡ aligns_at qs es (w.next + j)
    reached_at j h = ap (aligns qs) (get_or-drop w.next (take w.count es) j none_such ∙ get_or-take w.count es (w.next + j) none_such h)

    reached_inside : (j : ℕ) → j < length reached → (w.next + j < w.count) × (w.next + j < length es)
    reached_inside j h = take_inside w.count es (w.next + j) (omega (arith, length-drop w.next (take w.count es)))

    -- where a number in reach stands among them, and that it aligns there
    place_of_lem : (j : ℕ) → InReach w qs es j → (m : ℕ) × (w.next + m ≡ j) × (m < length reached) × (aligns_at qs reached m ≡ true)
    place_of_lem j (h, k, a) =
        let m = j - w.next in
        let e : w.next + m ≡ j = omega arith in
        let t = inside_take w.count es j k a.0 in (
          m,
          e,
          omega (arith, length-drop w.next (take w.count es)),
          reached_at m (omega arith) ∙ ap (aligns_at qs es) e ∙ at_aligned qs es j a,
        )

    next_least : GivesLeast w qs es (number_or (next_of w qs es))
    unfolding next_of number_or
    next_least = at (first_of (aligned_from w.next qs reached)) (first_is w.next reached)
      where
        at : (o : Option ℕ) → IsFirst w.next reached o → GivesLeast w qs es (number_or o)
        at none f = λ j r. let p = place_of_lem j r in not_both p.3 (f p.0 p.2)
        at (some i) r =
            let n = r.0 in
            let m = n.place in
            let b = reached_inside m n.inside in
            let e : w.next + m ≡ i = sym n.number in (
              (omega (arith, e), omega (arith, e, b.0), aligned_at qs es i (omega (arith, e, b.1)) (ap (aligns_at qs es) (sym e) ∙ sym (reached_at m b.0) ∙ n.aligned)),
              λ j q. at_least j (place_of_lem j q),
            )
          where
            at_least : (j : ℕ) → (m : ℕ) × (w.next + m ≡ j) × (m < length reached) × (aligns_at qs reached m ≡ true) → i ≤ j
            at_least j p = by (order p.0 r.0.place)
              where
                by : Order p.0 r.0.place → i ≤ j
                by (below h) = absurd (not_both p.3 (r.1 p.0 h))
                by (equal h) = omega (arith, h, p.1, r.0.number)
                by (above h) = omega (arith, h, p.1, r.0.number)

-- ---- The calls

pub step_least : StepLeast
unfolding walk_step_by stepped
step_least contents bodies name class w qs e f = rw (e, f) (next_least qs w (entries_of_image contents bodies))

-- the number of a step is that of an entry, not below the next and below the count
pub step_within : (contents bodies name class : List ℕ) (w : Walk) (i : ℕ) → walk_step contents bodies name class w ≡ given i
    → (w.next ≤ i) × (i < w.count) × (i < length (entries_of_image contents bodies)) × (is_image contents bodies ≡ true)
unfolding walk_step_by stepped
step_within contents bodies name class w i h = at (is_image contents bodies) refl (query_of name class) h
  where
    at : (b : Bool) → is_image contents bodies ≡ b → (q : Query) → (if not b then refused 8 else stepped w (entries_of_image contents bodies) q) ≡ given i
        → (w.next ≤ i) × (i < w.count) × (i < length (entries_of_image contents bodies)) × (is_image contents bodies ≡ true)
    at true e (positions qs) g =
        let l : GivesLeast w qs (entries_of_image contents bodies) (given i) = rw g at (next_least qs w (entries_of_image contents bodies)) in
        (l.0.0, l.0.1, l.0.2.0, e)
    at true e malformed g = let z : ◌≡◌ {A = ℕ} 0 1 = cc in absurd (omega arith)
    at true e (past_limit k) g = let z : ◌≡◌ {A = ℕ} 0 1 = cc in absurd (omega arith)
    at false e q g = let z : ◌≡◌ {A = ℕ} 0 1 = cc in absurd (omega arith)

-- and within the limits
pub step_small : (contents bodies name class : List ℕ) (w : Walk) (i : ℕ) → walk_step contents bodies name class w ≡ given i → i < most_entries
step_small contents bodies name class w i h =
    let s = step_within contents bodies name class w i h in
    omega (arith, s.2, (image_held contents bodies s.3).few)

pub refused_alike : RefusedAlike
unfolding walk_start_by begun walk_step_by stepped number_or get_bytes_by lookup place_of refusal_in
refused_alike contents bodies name class w = at (is_image contents bodies) (query_of name class)
  where
    numbered : (o : Option ℕ) → refusal_in (number_or o) ≡ none
    numbered none = refl
    numbered (some i) = refl

    placed : (rows : List Row) (b : Best) → refusal_in (place_of rows b) ≡ none
    placed rows no_entry = refl
    placed rows (best i row) = refl

    at : (b : Bool) (q : Query)
        → let answer = refusal_in (if not b then refused 8 else lookup (rows_in contents) bodies q) in
        (refusal_in (if not b then refused 8 else begun (count_of contents) q) ≡ answer)
        × (refusal_in (if not b then refused 8 else stepped w (entries_of_image contents bodies) q) ≡ answer)
    at false q = (refl, refl)
    at true (positions qs) =
        let p = placed (rows_in contents) (best_of (keys_of (entries_of_image contents bodies)) qs) in
        (sym p, numbered (next_of w qs (entries_of_image contents bodies)) ∙ sym p)
    at true malformed = (refl, refl)
    at true (past_limit k) = (refl, refl)
