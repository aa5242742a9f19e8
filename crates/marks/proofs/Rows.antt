-- Rows of marks, as the code holds them and as it continues them. Assumes nothing.
use Rattle.std.specs.Prelude.{if◌then◌else◌}
use mathlib.Core.Bool.{Bool, true, false, not}
use mathlib.Core.List.{List, [], ◌∷◌, ◌++◌, append-nil}
use mathlib.Core.Option.{Option, some, none}
use mathlib.Core.Path.{◌≡◌, refl, sym, ap, ◌∙◌}
use Prim.Native.Nat.{ℕ, zero, suc, ◌+◌, ◌*◌, ◌-◌, ◌/◌, ◌%◌, ◌≤◌, ◌<◌, min}
use native.Mathlib.Omega.{arith}
use native.Mathlib.Decide.{dec_lt}
use lib.Dec.{eqb, ltb}
use lib.ListN.{length, take, drop, length-take, length-drop, length-append, take-append-drop, drop_of_length-le}
use lib.Seq.{take_all, take-append-le, drop-append-le}
use borrow.Author.Tests.{eqb-true, eqb-false, eq-eqb, ne_eqb, lt-ltb, le-ltb}
use Rattle.definition.specs.Lists.{or_else, lower}
use Rattle.definition.specs.Limits.{query_parts}
use Rattle.definition.specs.Bytes.{star}
use Rattle.definition.specs.Text.{Binding, tight, loose, Part, binding_of}
use Rattle.definition.specs.Query.{Position}
use Rattle.definition.specs.Matching.{skip_mark, mark_at}
use Rattle.definition.specs.Ranking.{meet_row, skip_row, rank_of, no_entry, best, better}
use Rattle.laws.proofs.Lists.{Order, below, equal, above, order}
use Rattle.positions.specs.Parts.{mark_byte}
use Rattle.positions.proofs.Marking.{mark_in, mark_most, binding_loose, binding_tight}
use Rattle.marks.specs.Rows.{packed_from, packed, unpacked, third, marks_of, is_live, marks_in, row_in, best_in, Digits, Long, Stands, Held, Roomy, marked, skipped, stepped, next_of, lower_row, wins_over}
use Rattle.marks.specs.declared.Marks.{Marks}

-- ---- Digits

digits_more : (ms : List ℕ) (m : ℕ) → Digits ms → m < 7 → Digits (ms ++ (m ∷ []))
digits_more [] m d h = (h, tt)
digits_more (x ∷ ms) m d h = (d.0, digits_more ms m d.1 h)

digits_take : (n : ℕ) (ms : List ℕ) → Digits ms → Digits (take n ms)
digits_take zero ms d = tt
digits_take (suc n) [] d = tt
digits_take (suc n) (m ∷ ms) d = (d.0, digits_take n ms d.1)

digits_drop : (n : ℕ) (ms : List ℕ) → Digits ms → Digits (drop n ms)
digits_drop zero ms d = d
digits_drop (suc n) [] d = tt
digits_drop (suc n) (m ∷ ms) d = digits_drop n ms d.1

packed_more : (ms : List ℕ) (n m : ℕ) → packed_from n (ms ++ (m ∷ [])) ≡ packed_from n ms * 7 + m
unfolding packed_from
packed_more [] n m = refl
packed_more (x ∷ ms) n m = packed_more ms (n * 7 + x) m

-- the digits come out as they went in
unpacks : (ms : List ℕ) → Digits ms → (n k : ℕ) (rest : List ℕ) → unpacked (length ms + k) (packed_from n ms) rest ≡ unpacked k n (ms ++ rest)
unfolding packed_from unpacked
unpacks [] d n k rest = let z : 0 + k ≡ k = omega arith in rw z refl
unpacks (m ∷ ms) d n k rest =
    let z : suc (length ms) + k ≡ length ms + suc k = omega arith in
    let q : (n * 7 + m) / 7 ≡ n = omega (arith, d.0) in
    let r : (n * 7 + m) % 7 ≡ m = omega (arith, d.0) in
    rw z (unpacks ms d.1 (n * 7 + m) (suc k) rest ∙ rw (q, r) refl)

-- and those before them stay where they are
unpacks_all : (ms : List ℕ) → Digits ms → (n : ℕ) → n ≡ length ms → (k : ℕ) (rest : List ℕ) → unpacked n (packed_from k ms) rest ≡ ms ++ rest
unfolding unpacked
unpacks_all ms d n e k rest =
    let z : n ≡ length ms + 0 = omega arith in
    rw z (unpacks ms d k 0 rest)

-- a digit that leads others leaves no 0
packed_some : (ms : List ℕ) (n : ℕ) → 0 < n → 0 < packed_from n ms
unfolding packed_from
packed_some [] n h = h
packed_some (m ∷ ms) n h = packed_some ms (n * 7 + m) (omega arith)

-- a lesser number stays lesser, whatever digits follow
packed_below : (xs ys : List ℕ) → Digits xs → length xs ≡ length ys → (a b : ℕ) → a < b → packed_from a xs < packed_from b ys
unfolding packed_from
packed_below [] [] d l a b h = h
packed_below [] (y ∷ ys) d l a b h = absurd (omega arith)
packed_below (x ∷ xs) [] d l a b h = absurd (omega arith)
packed_below (x ∷ xs) (y ∷ ys) d l a b h = packed_below xs ys d.1 (omega arith) (a * 7 + x) (b * 7 + y) (omega (arith, d.0))

-- ---- How large a number of k digits may be

unfoldable room : ℕ → ℕ → ℕ
room zero b = b
room (suc k) b = room k (b * 7)

room_over : (k a b : ℕ) → a ≤ b → room k a ≤ room k b
unfolding room
room_over zero a b h = h
room_over (suc k) a b h = room_over k (a * 7) (b * 7) (omega arith)

room_grows : (j k b : ℕ) → j ≤ k → room j b ≤ room k b
unfolding room
room_grows zero zero b h = omega arith
room_grows zero (suc k) b h = omega (arith, room_grows zero k b (omega arith), room_over k b (b * 7) (omega arith))
room_grows (suc j) zero b h = absurd (omega arith)
room_grows (suc j) (suc k) b h = room_grows j k (b * 7) (omega arith)

packed_room : (ms : List ℕ) → Digits ms → (n : ℕ) → packed_from n ms < room (length ms) (n + 1)
unfolding packed_from room
packed_room [] d n = omega arith
packed_room (m ∷ ms) d n = omega (arith, packed_room ms d.1 (n * 7 + m), room_over (length ms) (n * 7 + m + 1) ((n + 1) * 7) (omega (arith, d.0)))

packed_small : (k n : ℕ) (ms : List ℕ) → Digits ms → length ms ≤ k → packed_from n ms < room k (n + 1)
packed_small k n ms d h = omega (arith, packed_room ms d n, room_grows (length ms) k (n + 1) h)

-- ---- What the code holds over p positions

pub none_stands : (p : ℕ) → Stands p (marks_of none) none
none_stands p = record { is = refl; long = tt }

pub first_stands : Stands 0 (marks_of (some [])) (some [])
first_stands = record { is = refl; long = (refl, tt) }

-- the marks of a row, by the number that has them
module _ (row : List ℕ) where
  abbrev first : List ℕ
  first = take third row

  abbrev second : List ℕ
  second = take third (drop third row)

  abbrev last : List ℕ
  last = drop third (drop third row)

  row_is : first ++ (second ++ last) ≡ row
  row_is = rw (take-append-drop third (drop third row), take-append-drop third row) refl

  sizes : (length first ≡ min (length row) third) × (length second ≡ min (length row - third) third) × (length last ≡ length row - third - third)
  sizes =
      let f = length-drop third row in (
        omega (arith, length-take third row),
        omega (arith, length-take third (drop third row)),
        omega (arith, length-drop third (drop third row)),
      )

  module _ (d : Digits row) where
    digits_first : Digits first
    digits_first = digits_take third row d

    digits_second : Digits second
    digits_second = digits_take third (drop third row) (digits_drop third row d)

    digits_last : Digits last
    digits_last = digits_drop third (drop third row) (digits_drop third row d)

marks_in_lem : (row : List ℕ) → Digits row → (n : ℕ) → length row ≡ n → marks_in n (marks_of (some row)) ≡ row
unfolding marks_in marks_of
marks_in_lem row d n l =
    let s = sizes row in
    rw (
      unpacks_all (last row) (digits_last row d) (n - third - third) (omega arith) 1 [],
      unpacks_all (second row) (digits_second row d) (min (n - third) third) (omega arith) 0 (last row ++ []),
      unpacks_all (first row) (digits_first row d) (min n third) (omega arith) 0 (second row ++ (last row ++ [])),
      append-nil (last row),
    ) (row_is row)

live : (row : List ℕ) → is_live (marks_of (some row)) ≡ true
unfolding marks_of
live row = lt-ltb 0 (packed_from 1 (last row)) (packed_some (last row) 1 (omega arith))

pub row_of : (p : ℕ) (o : Option (List ℕ)) → Long p o → row_in p (marks_of o) ≡ o
unfolding row_in
row_of p none l = unfold marks_of in refl
row_of p (some row) l = rw (live row) (ap some (marks_in_lem row l.1 p l.0))

pub stands_row : (p : ℕ) (r : Marks) (o : Option (List ℕ)) → Stands p r o → row_in p r ≡ o
stands_row p r o s = ap (row_in p) s.is ∙ row_of p o s.long

pub stands_own : (p : ℕ) (r : Marks) (o : Option (List ℕ)) → Stands p r o → Held p r
stands_own p r o s = rw (stands_row p r o s) s

pub stands_roomy : (p : ℕ) (r : Marks) (o : Option (List ℕ)) → p < query_parts → Stands p r o → Roomy p r
unfolding marks_of room
stands_roomy p r none h s = rw s.is record { high = λ k. omega arith; middle = λ k. omega arith; low = omega arith }
stands_roomy p r (some row) h s =
    let d = s.long.1 in
    let l = s.long.0 in
    let z = sizes row in
    rw s.is record {
      high = λ k. packed_small 10 0 (first row) (digits_first row d) (omega arith);
      middle = λ k. packed_small 10 0 (second row) (digits_second row d) (omega arith);
      low = packed_small 10 1 (last row) (digits_last row d) (omega arith);
    }

alive : (p : ℕ) (r : Marks) (row : List ℕ) → Stands p r (some row) → is_live r ≡ true
alive p r row s = ap is_live s.is ∙ live row

dead : (p : ℕ) (r : Marks) → Stands p r none → is_live r ≡ false
unfolding marks_of
dead p r s = ap is_live s.is

-- ---- Which row wins

-- of two rows that begin with as many digits each
lower_packed : (xs ys us vs : List ℕ) → Digits xs → Digits ys → length xs ≡ length ys → (n : ℕ)
    → lower (xs ++ us) (ys ++ vs) ≡ (if eqb (packed_from n xs) (packed_from n ys) then lower us vs else ltb (packed_from n xs) (packed_from n ys))
unfolding packed_from lower
lower_packed [] [] us vs d g l n = rw (eq-eqb n n refl) refl
lower_packed [] (y ∷ ys) us vs d g l n = absurd (omega arith)
lower_packed (x ∷ xs) [] us vs d g l n = absurd (omega arith)
lower_packed (x ∷ xs) (y ∷ ys) us vs d g l n = at (order x y) (lower_packed xs ys us vs d.1 g.1 (omega arith))
  where
    at : Order x y
        → ((k : ℕ) → lower (xs ++ us) (ys ++ vs) ≡ (if eqb (packed_from k xs) (packed_from k ys) then lower us vs else ltb (packed_from k xs) (packed_from k ys)))
        → (if ltb x y then true else if ltb y x then false else lower (xs ++ us) (ys ++ vs))
        ≡ (if eqb (packed_from (n * 7 + x) xs) (packed_from (n * 7 + y) ys) then lower us vs else ltb (packed_from (n * 7 + x) xs) (packed_from (n * 7 + y) ys))
    at (below h) ih =
        let k = packed_below xs ys d.1 (omega arith) (n * 7 + x) (n * 7 + y) (omega arith) in
        rw (lt-ltb x y h, ne_eqb (packed_from (n * 7 + x) xs) (packed_from (n * 7 + y) ys) (λ e. omega (arith, k)), lt-ltb _ _ k) refl
    at (equal e) ih = rw (← e, le-ltb x x (omega arith)) (ih (n * 7 + x))
    at (above h) ih =
        let k = packed_below ys xs g.1 (omega arith) (n * 7 + y) (n * 7 + x) (omega arith) in
        rw (le-ltb x y (omega arith), lt-ltb y x h, ne_eqb (packed_from (n * 7 + x) xs) (packed_from (n * 7 + y) ys) (λ e. omega (arith, k)), le-ltb (packed_from (n * 7 + x) xs) (packed_from (n * 7 + y) ys) (omega (arith, k))) refl

-- of equal numbers neither is less
no_less : (a b : ℕ) → (if eqb a b then lower [] [] else ltb a b) ≡ ltb a b
unfolding lower
no_less a b = at (eqb a b) refl
  where
    at : (t : Bool) → eqb a b ≡ t → (if t then false else ltb a b) ≡ ltb a b
    at true e = sym (le-ltb a b (omega (arith, eqb-true a b e)))
    at false e = refl

same_sizes : (xs ys : List ℕ) → length xs ≡ length ys → (length (first xs) ≡ length (first ys)) × (length (second xs) ≡ length (second ys)) × (length (last xs) ≡ length (last ys))
same_sizes xs ys l =
    let m = sizes xs in
    let n = sizes ys in (
      m.0 ∙ ap (λ (k : ℕ). min k third) l ∙ sym n.0,
      m.1 ∙ ap (λ (k : ℕ). min (k - third) third) l ∙ sym n.1,
      m.2 ∙ ap (λ (k : ℕ). k - third - third) l ∙ sym n.2,
    )

lower_row_lem : (xs ys : List ℕ) → Digits xs → Digits ys → length xs ≡ length ys → lower xs ys ≡ lower_row (marks_of (some xs)) (marks_of (some ys))
unfolding lower_row marks_of
lower_row_lem xs ys d g l =
    let k = same_sizes xs ys l in
    let a = lower_packed (first xs) (first ys) (drop third xs) (drop third ys) (digits_first xs d) (digits_first ys g) k.0 0 in
    let b = lower_packed (second xs) (second ys) (last xs) (last ys) (digits_second xs d) (digits_second ys g) k.1 0 in
    let c = lower_packed (last xs) (last ys) [] [] (digits_last xs d) (digits_last ys g) k.2 1 in
    rw (take-append-drop third xs, take-append-drop third ys) at a
    ∙ ap (λ (t : Bool). if eqb (packed (first xs)) (packed (first ys)) then t else ltb (packed (first xs)) (packed (first ys)))
    (rw (take-append-drop third (drop third xs), take-append-drop third (drop third ys)) at b
    ∙ ap (λ (t : Bool). if eqb (packed (second xs)) (packed (second ys)) then t else ltb (packed (second xs)) (packed (second ys)))
    (rw (append-nil (last xs), append-nil (last ys)) at c ∙ no_less (packed_from 1 (last xs)) (packed_from 1 (last ys))))

best_live : (n i : ℕ) (r : Marks) (row : List ℕ) → Stands n r (some row) → best_in n i r ≡ best i row
unfolding best_in
best_live n i r row s = ap (best_in n i) s.is ∙ rw (live row) (ap (best i) (marks_in_lem row s.long.1 n s.long.0))

best_dead : (n i : ℕ) (r : Marks) → Stands n r none → best_in n i r ≡ no_entry
unfolding best_in
best_dead n i r s = ap (best_in n i) s.is ∙ (unfold marks_of in refl)

module _ (n : ℕ) (r top : Marks) where
  loses : Stands n r none → wins_over r top ≡ false
  unfolding wins_over
  loses s = rw (dead n r s) refl

  wins_first : (x : List ℕ) → Stands n r (some x) → Stands n top none → wins_over r top ≡ true
  unfolding wins_over
  wins_first x s t = rw (alive n r x s, dead n top t) refl

  wins_over_lem : (x y : List ℕ) → Stands n r (some x) → Stands n top (some y) → wins_over r top ≡ not (lower x y)
  unfolding wins_over
  wins_over_lem x y s t =
      rw (alive n r x s, alive n top y t)
      (ap not (ap (λ (z : Marks). lower_row z top) s.is ∙ ap (lower_row (marks_of (some x))) t.is
      ∙ sym (lower_row_lem x y s.long.1 t.long.1 (s.long.0 ∙ sym t.long.0))))

-- the test that the code computes decides as the definition's `better` does
pub wins_better : (n i at : ℕ) (r top : Marks) (o u : Option (List ℕ)) → Stands n r o → Stands n top u
    → better i o (best_in n at top) ≡ (if wins_over r top then best_in n i r else best_in n at top)
unfolding better
wins_better n i at r top none u s t = rw (loses n r top s) refl
wins_better n i at r top (some x) none s t = rw (wins_first n r top x s t, best_dead n at top t, best_live n i r x s) refl
wins_better n i at r top (some x) (some y) s t = rw (wins_over_lem n r top x y s t, best_live n at top y t, best_live n i r x s) (by (lower x y))
  where
    by : (b : Bool) → (if b then best at y else best i x) ≡ (if not b then best i x else best at y)
    by true = refl
    by false = refl

-- ---- A row with a mark after it

-- the mark of a skip
unfoldable pub skip_of : Binding → Option ℕ
skip_of tight = none
skip_of loose = some skip_mark

unfoldable pub extended : Option (List ℕ) → Option ℕ → Option (List ℕ)
extended none m = none
extended (some r) none = none
extended (some r) (some m) = some (r ++ (m ∷ []))

-- marks of which the first number has not all, and of which it has
module _ (t : List ℕ) (m : ℕ) where
  abbrev more : List ℕ
  more = t ++ (m ∷ [])

  module _ (h : length t < third) where
    first_more : packed (take third more) ≡ packed (take third t) * 7 + m
    first_more =
        rw (take_all third t (omega arith), take_all third more (omega (arith, length-append t (m ∷ [])))) (packed_more t 0 m)

    no_rest : drop third more ≡ drop third t
    no_rest =
        drop_of_length-le more {i = third} (omega (arith, length-append t (m ∷ []))) ∙ sym (drop_of_length-le t {i = third} (omega arith))

  module _ (h : third ≤ length t) where
    first_full : take third more ≡ take third t
    first_full = take-append-le third t (m ∷ []) h

    rest_more : drop third more ≡ drop third t ++ (m ∷ [])
    rest_more = drop-append-le third t (m ∷ []) h

with_mark : (row : List ℕ) (m p : ℕ) → length row ≡ p → marked (marks_of (some row)) m p ≡ marks_of (some (row ++ (m ∷ [])))
unfolding marked marks_of
with_mark row m p l = at (dec_lt p third) (dec_lt p (third + third))
  where
    tail : List ℕ
    tail = drop third row

    at : Dec (p < third) → Dec (p < third + third) → marked (marks_of (some row)) m p ≡ marks_of (some (row ++ (m ∷ [])))
    at (yes h) k =
        let n : length row < third = omega arith in
        rw (lt-ltb p third h, first_more row m n, no_rest row m n) refl
    at (no h) (yes k) =
        let n : third ≤ length row = omega arith in
        let z : length tail < third = omega (arith, length-drop third row) in
        rw (le-ltb p third (omega arith), lt-ltb p (third + third) k, first_full row m n, rest_more row m n, first_more tail m z, no_rest tail m z) refl
    at (no h) (no k) =
        let n : third ≤ length row = omega arith in
        let z : third ≤ length tail = omega (arith, length-drop third row) in
        rw (le-ltb p third (omega arith), le-ltb p (third + third) (omega arith), first_full row m n, rest_more row m n, first_full tail m z, rest_more tail m z, packed_more (drop third tail) 1 m) refl

module _ (p : ℕ) where
  mark_stands : (r : Marks) (row : List ℕ) (m : ℕ) → m < 7 → Stands p r (some row) → Stands (p + 1) (marked r m p) (some (row ++ (m ∷ [])))
  mark_stands r row m h s = record {
    is = ap (λ (x : Marks). marked x m p) s.is ∙ with_mark row m p s.long.0;
    long = (length-append row (m ∷ []) ∙ ap (λ (n : ℕ). n + 1) s.long.0, digits_more row m s.long.1 h);
  }

  pub skipped_stands : (r : Marks) (o : Option (List ℕ)) (b : ℕ) → Stands p r o → Stands (p + 1) (skipped r b p) (extended o (skip_of (binding_of (b ∷ []))))
  unfolding skipped skip_of extended marked
  skipped_stands r none b s = rw (dead p r s) (none_stands (p + 1))
  skipped_stands r (some row) b s = rw (alive p r row s) (at (eqb b star) refl)
    where
      at : (t : Bool) → eqb b star ≡ t → Stands (p + 1) (if t then marked r 0 p else marks_of none) (extended (some row) (skip_of (binding_of (b ∷ []))))
      at true e = rw (binding_loose b (eqb-true b star e)) (mark_stands r row 0 (omega arith) s)
      at false e = rw (binding_tight b (eqb-false b star e)) (none_stands (p + 1))

  pub stepped_stands : (r : Marks) (o : Option (List ℕ)) (m : ℕ) → m < 7 → Stands p r o → Stands (p + 1) (stepped r m p) (extended o (mark_in m))
  unfolding stepped extended mark_in marked
  stepped_stands r none m h s = rw (dead p r s) (none_stands (p + 1))
  stepped_stands r (some row) zero h s = rw (alive p r row s) (none_stands (p + 1))
  stepped_stands r (some row) (suc m) h s =
      let l : ltb 0 (suc m) ≡ true = lt-ltb 0 (suc m) (omega arith) in
      rw (alive p r row s, l) (mark_stands r row (suc m) h s)

  pub next_stands : (row before : Marks) (o u : Option (List ℕ)) (b m : ℕ) → m < 7 → Stands p row o → Stands p before u
      → Stands (p + 1) (next_of row before b m p) (or_else (extended o (skip_of (binding_of (b ∷ [])))) (extended u (mark_in m)))
  unfolding next_of extended skip_of or_else marked
  next_stands row before none u b m h s t = rw (dead p row s) (stepped_stands before u m h t)
  next_stands row before (some r) u b m h s t = rw (alive p row r s) (at (eqb b star) refl)
    where
      at : (l : Bool) → eqb b star ≡ l
          → Stands (p + 1) (if l then marked row 0 p else stepped before m p) (or_else (extended (some r) (skip_of (binding_of (b ∷ [])))) (extended u (mark_in m)))
      at true e = rw (binding_loose b (eqb-true b star e)) (mark_stands row r 0 (omega arith) s)
      at false e = rw (binding_tight b (eqb-false b star e)) (stepped_stands before u m h t)

-- a mark is a digit
pub mark_digit : (m : ℕ) (k : Part) (q : Position) → m ≡ mark_byte (mark_at k q) → m < 7
mark_digit m k q e = omega (arith, e, mark_most k q)

-- ---- How long a key's row is

long_meet : (n : ℕ) (m : Option ℕ) (r : Option (List ℕ)) → mark_byte m < 7 → Long n r → Long (suc n) (meet_row m r)
unfolding meet_row mark_byte
long_meet n none r h l = tt
long_meet n (some m) none h l = tt
long_meet n (some m) (some r) h l = (ap suc l.0, (h, l.1))

long_skip : (n : ℕ) (b : Binding) (r : Option (List ℕ)) → Long n r → Long (suc n) (skip_row b r)
unfolding skip_row
long_skip n tight r l = tt
long_skip n loose none l = tt
long_skip n loose (some r) l = (ap suc l.0, (omega arith, l.1))

long_or : (n : ℕ) (a b : Option (List ℕ)) → Long n a → Long n b → Long n (or_else a b)
unfolding or_else
long_or n none b l k = k
long_or n (some a) b l k = l

-- a mark for each position
pub rank_long : (ks : List Part) (qs : List Position) → Long (length qs) (rank_of ks qs)
unfolding rank_of
rank_long [] [] = (refl, tt)
rank_long [] (q ∷ qs) = tt
rank_long (k ∷ ks) [] = tt
rank_long (k ∷ ks) (q ∷ qs) =
    long_or (suc (length qs)) _ _ (long_meet (length qs) (mark_at k q) (rank_of ks qs) (mark_digit _ k q refl) (rank_long ks qs)) (long_skip (length qs) k.binding (rank_of (k ∷ ks) qs) (rank_long (k ∷ ks) qs))
