-- The invariants of `check_match`: over the positions, and at a position over the parts. Assumes nothing.
use mathlib.Core.Bool.{true}
use mathlib.Core.List.{List, [], ◌∷◌}
use mathlib.Core.Option.{Option, some, none}
use mathlib.Core.Path.{◌≡◌, refl, sym, ap, ◌∙◌}
use Prim.Native.Nat.{ℕ, zero, suc, ◌+◌, ◌-◌, ◌≤◌, ◌<◌}
use native.Mathlib.Omega.{arith}
use native.Mathlib.Numerals.{add-one}
use lib.ListN.{length, get_or, drop, set, replicate, length-set, length-drop, length-replicate, get_or-replicate}
use lib.Seq.{get_or-set_same, get_or-set_other}
use Rattle.definition.specs.Lists.{or_else}
use Rattle.definition.specs.Limits.{most_parts, query_parts}
use Rattle.definition.specs.Text.{Part, binding_of}
use Rattle.definition.specs.Query.{Position}
use Rattle.definition.specs.Matching.{mark_at}
use Rattle.definition.specs.Ranking.{rank_of}
use Rattle.definition.specs.Image.{key_parts, is_key}
use Rattle.laws.proofs.Lists.{Order, below, equal, above, order}
use Rattle.laws.proofs.Keys.{parts_of}
use Rattle.key.specs.Keys.{part_between, Bounded}
use Rattle.key.proofs.Keys.{some_part}
use Rattle.positions.specs.Parts.{mark_byte}
use Rattle.positions.proofs.Marking.{mark_in, mark_in_lem}
use Rattle.marks.specs.Rows.{marks_of, row_in, Stands, Roomy, skipped, stepped, next_of}
use Rattle.marks.specs.declared.Marks.{Marks}
use Rattle.marks.proofs.Rows.{skip_of, extended, none_stands, first_stands, stands_row, stands_own, stands_roomy, skipped_stands, stepped_stands, mark_digit, next_stands}
use Rattle.matcher.proofs.Reached.{part, reached, reached_first, reached_turned, reached_last}

-- a key has a part, and no more than 16
pub key_some : (key : List ℕ) → is_key key ≡ true → 0 < length (key_parts key)
key_some key h = some_part key (parts_of key h)

pub key_few : (key : List ℕ) → is_key key ≡ true → length (key_parts key) ≤ most_parts
key_few key h = (parts_of key h).few

-- what an index past the rows has
abbrev pub blank : Marks
blank = record { high = 0; middle = 0; low = 0 }

abbrev pub row_at : ℕ → List Marks → ℕ → Option (List ℕ)
row_at p rows j = row_in p (get_or rows j blank)

-- the row of part j + 1 over a position q
abbrev turned : List Part → Position → ℕ → List Marks → ℕ → Option (List ℕ)
turned ps q p old j = or_else (extended (row_at p old (j + 1)) (skip_of (part ps (j + 1)).binding)) (extended (row_at p old j) (mark_at (part ps j) q))

module _ (ps : List Part) where
  -- the rows over the first p positions, up to the last part's
  pub record Passing (qs : List Position) (top p : ℕ) (rows : List Marks) : Type 0 where
    pub size : length rows ≡ most_parts
    pub row : rank_of ps qs ≡ reached ps top (row_at p rows) (drop p qs)
    pub stands : (j : ℕ) → j ≤ top → Stands p (get_or rows j blank) (row_at p rows j)

  -- at position q the rows of the parts above i are turned, and the others are the old ones
  pub record Turning (q : Position) (top p : ℕ) (old rows : List Marks) (i : ℕ) : Type 0 where
    pub upto : i ≤ top
    pub size : length rows ≡ most_parts
    pub same : (j : ℕ) → j ≤ i → get_or rows j blank ≡ get_or old j blank
    pub turned_row : (j : ℕ) → i ≤ j → j < top → Stands (p + 1) (get_or rows (j + 1) blank) (turned ps q p old j)

-- ---- The first turn of both

-- rows that are all none
none_dead : (n j : ℕ) (r : Marks) → r.low ≡ 0 → (get_or (replicate n r) j blank).low ≡ 0
none_dead zero j r e = refl
none_dead (suc n) zero r e = e
none_dead (suc n) (suc j) r e = none_dead n j r e

module _ (key bounds : List ℕ) (count : ℕ) (B : Bounded key bounds count) where
  abbrev ps : List Part
  ps = key_parts key

  abbrev top : ℕ
  top = count - 1

  few : top < most_parts
  few = omega (arith, B.few, B.some)

  all : suc top ≡ length ps
  all = omega (arith, B.counted, B.some)

  binding_at : (i : ℕ) → i < count → binding_of (get_or key (get_or bounds i 0) 0 ∷ []) ≡ (part ps i).binding
  unfolding part_between
  binding_at i h = sym (ap (λ (p : Part). p.binding) (B.part i h))

  pub passing_first : (qs : List Position) (r s : Marks) → r ≡ marks_of none → s ≡ marks_of (some []) → Passing ps qs top 0 (set (replicate most_parts r) 0 s)
  passing_first qs r s e f = record {
    size = length-set (replicate most_parts r) 0 s ∙ length-replicate most_parts r;
    row = sym (reached_first ps top (row_at 0 rows) qs first others);
    stands = stands;
  }
    where
      rows : List Marks
      rows = set (replicate most_parts r) 0 s

      other : (j : ℕ) → 0 < j → get_or (set (replicate most_parts r) 0 s) j blank ≡ get_or (replicate most_parts r) j blank
      other j h = get_or-set_other (replicate most_parts r) 0 j s blank (λ e. omega arith)

      new : Stands 0 s (some [])
      new = rw f first_stands

      first : row_at 0 (set (replicate most_parts r) 0 s) 0 ≡ some []
      first = stands_row 0 s (some []) new

      others : (j : ℕ) → 0 < j → row_at 0 (set (replicate most_parts r) 0 s) j ≡ none
      others j h = unfold row_in in rw (other j h, none_dead most_parts j r (unfold marks_of in rw e refl)) refl

      stands : (j : ℕ) → j ≤ top → Stands 0 (get_or (set (replicate most_parts r) 0 s) j blank) (row_at 0 (set (replicate most_parts r) 0 s) j)
      stands zero h = stands_own 0 s (some []) new
      stands (suc j) h = rw (other (suc j) (omega arith), get_or-replicate most_parts (suc j) r blank (omega (arith, few))) (stands_own 0 r none (rw e (none_stands 0)))

  module _ (q : Position) (p : ℕ) (old : List Marks) where
    pub turning_first : length old ≡ most_parts → Turning ps q top p old old top
    turning_first e = record { upto = omega arith; size = e; same = λ j h. refl; turned_row = λ j h l. absurd (omega arith) }

    -- ---- One more part

    module _ (rows : List Marks) (i : ℕ) (T : Turning ps q top p old rows i) (h : 0 < i) where
      -- the part before i, and i, as `next_row` reads them
      pub bounds_at : (get_or bounds (i - 1) 0 + 1 < get_or bounds (i - 1 + 1) 0) × (get_or bounds (i - 1 + 1) 0 < length key)
      bounds_at =
          let f = B.rises (i - 1) (omega (arith, T.upto)) in
          let g = B.rises (i - 1 + 1) (omega (arith, T.upto)) in
          (f, omega (arith, B.inside (i - 1 + 1 + 1) (omega (arith, T.upto))))

      pub part_inside : i < most_parts
      part_inside = omega (arith, T.upto, few)

      more : (r : Marks) → Stands (p + 1) r (turned ps q p old (i - 1)) → Turning ps q top p old (set rows (i - 1 + 1) r) (i - 1)
      more r s = record {
        upto = omega (arith, T.upto);
        size = length-set rows (i - 1 + 1) r ∙ T.size;
        same = λ j l. get_or-set_other rows (i - 1 + 1) j r blank (λ e. omega arith) ∙ T.same j (omega arith);
        turned_row = λ j l m. by j m (order (i - 1) j) l;
      }
        where
          by : (j : ℕ) → j < top → Order (i - 1) j → i - 1 ≤ j → Stands (p + 1) (get_or (set rows (i - 1 + 1) r) (j + 1) blank) (turned ps q p old j)
          by j l (below z) m = rw (get_or-set_other rows (i - 1 + 1) (j + 1) r blank (λ e. omega arith)) (T.turned_row j (omega arith) l)
          by j l (equal z) m = rw (← z, get_or-set_same rows (i - 1 + 1) r blank (omega (arith, part_inside, T.size))) s
          by j l (above z) m = absurd (omega arith)

      -- `next_row` turns part i's row
      pub rows_roomy : p < query_parts → ((j : ℕ) → j ≤ top → Stands p (get_or old j blank) (row_at p old j))
          → Roomy p (get_or rows (i - 1 + 1) blank) × Roomy p (get_or rows (i - 1) blank)
      rows_roomy f stands = (
        rw (T.same (i - 1 + 1) (omega arith)) (stands_roomy p _ _ f (stands (i - 1 + 1) (omega (arith, T.upto)))),
        rw (T.same (i - 1) (omega arith)) (stands_roomy p _ _ f (stands (i - 1) (omega (arith, T.upto)))),
      )

      pub turning_next : ((j : ℕ) → j ≤ top → Stands p (get_or old j blank) (row_at p old j)) → (r : Marks)
          → r ≡ next_of (get_or rows (i - 1 + 1) blank) (get_or rows (i - 1) blank) (get_or key (get_or bounds (i - 1 + 1) 0) 0)
          (mark_byte (mark_at (part_between key (get_or bounds (i - 1) 0) (get_or bounds (i - 1 + 1) 0)) q)) p
          → Turning ps q top p old (set rows (i - 1 + 1) r) (i - 1)
      turning_next stands r e =
          let s = next_stands p (get_or old (i - 1 + 1) blank) (get_or old (i - 1) blank) (row_at p old (i - 1 + 1)) (row_at p old (i - 1))
          (get_or key (get_or bounds (i - 1 + 1) 0) 0) (mark_byte (mark_at (part ps (i - 1)) q)) (mark_digit _ (part ps (i - 1)) q refl)
          (stands (i - 1 + 1) (omega (arith, T.upto))) (stands (i - 1) (omega (arith, T.upto))) in
          more r (rw (e, T.same (i - 1 + 1) (omega arith), T.same (i - 1) (omega arith), ← B.part (i - 1) (omega (arith, T.upto)))
          (rw (mark_in_lem (part ps (i - 1)) q, binding_at (i - 1 + 1) (omega (arith, T.upto))) at s))

    -- ---- One more position

    pub first_roomy : (qs : List Position) (rows : List Marks) (i : ℕ) → p < query_parts → Passing ps qs top p old → Turning ps q top p old rows i → Roomy p (get_or rows 0 blank)
    first_roomy qs rows i f P T = rw (T.same 0 (omega arith)) (stands_roomy p _ _ f (P.stands 0 (omega arith)))

    pub passing_next : (qs : List Position) (rows : List Marks) (i : ℕ) → Passing ps qs top p old → Turning ps q top p old rows i → i ≤ 0
        → drop p qs ≡ q ∷ drop (p + 1) qs → p + 1 < length qs → (r : Marks) → r ≡ skipped (get_or rows 0 blank) (get_or key 0 0) p
        → Passing ps qs top (p + 1) (set rows 0 r)
    passing_next qs rows i P T z e h r g = record {
      size = length-set rows 0 r ∙ T.size;
      row = P.row ∙ ap (reached ps top (row_at p old)) e
          ∙ reached_turned ps top (row_at p old) (row_at (p + 1) (set rows 0 r)) q (drop (p + 1) qs) all (omega (arith, length-drop (p + 1) qs)) first next;
      stands = stands;
    }
      where
        new : get_or (set rows 0 r) 0 blank ≡ r
        new = get_or-set_same rows 0 r blank (omega (arith, T.size))

        other : (j : ℕ) → get_or (set rows 0 r) (j + 1) blank ≡ get_or rows (j + 1) blank
        other j = get_or-set_other rows 0 (j + 1) r blank (λ e. omega arith)

        skips : Stands (p + 1) r (extended (row_at p old 0) (skip_of (part ps 0).binding))
        skips =
            let s = skipped_stands p (get_or old 0 blank) (row_at p old 0) (get_or key 0 0) (P.stands 0 (omega arith)) in
            rw (g, T.same 0 (omega arith)) (rw (rw B.first at (binding_at 0 B.some)) at s)

        turn : (j : ℕ) → j < top → Stands (p + 1) (get_or (set rows 0 r) (j + 1) blank) (turned ps q p old j)
        turn j l = rw (other j) (T.turned_row j (omega arith) l)

        first : row_at (p + 1) (set rows 0 r) 0 ≡ extended (row_at p old 0) (skip_of (part ps 0).binding)
        first = rw new (stands_row (p + 1) r _ skips)

        next : (j : ℕ) → j < top → row_at (p + 1) (set rows 0 r) (suc j) ≡ or_else (extended (row_at p old (suc j)) (skip_of (part ps (suc j)).binding)) (extended (row_at p old j) (mark_at (part ps j) q))
        next j l = rw (← add-one j) (stands_row (p + 1) (get_or (set rows 0 r) (j + 1) blank) (turned ps q p old j) (turn j l))

        stands : (j : ℕ) → j ≤ top → Stands (p + 1) (get_or (set rows 0 r) j blank) (row_at (p + 1) (set rows 0 r) j)
        stands zero l = rw new (stands_own (p + 1) r _ skips)
        stands (suc j) l = rw (← add-one j) (stands_own (p + 1) _ _ (turn j (omega arith)))

  -- ---- The last part at the last position

  pub last_bounds : (get_or bounds top 0 + 1 < get_or bounds (top + 1) 0) × (get_or bounds (top + 1) 0 ≤ length key)
  last_bounds = (B.rises top (omega (arith, B.some)), B.inside (top + 1) (omega (arith, B.some)))

  pub last_roomy : (qs : List Position) (p : ℕ) (rows : List Marks) → p < query_parts → Passing ps qs top p rows → Roomy p (get_or rows top blank)
  last_roomy qs p rows f P = stands_roomy p _ _ f (P.stands top (omega arith))

  pub passing_last : (qs : List Position) (p : ℕ) (rows : List Marks) (q : Position) (m : ℕ) (r : Marks) → Passing ps qs top p rows → drop p qs ≡ q ∷ []
      → m ≡ mark_byte (mark_at (part_between key (get_or bounds top 0) (get_or bounds (top + 1) 0)) q)
      → r ≡ stepped (get_or rows top blank) m p → r ≡ marks_of (rank_of ps qs)
  passing_last qs p rows q m r P e g h =
      let s = stepped_stands p (get_or rows top blank) (row_at p rows top) (mark_byte (mark_at (part ps top) q)) (mark_digit _ (part ps top) q refl) (P.stands top (omega arith)) in
      let z : m ≡ mark_byte (mark_at (part ps top) q) = rw (B.part top (omega (arith, B.some))) g in
      let w : extended (row_at p rows top) (mark_in (mark_byte (mark_at (part ps top) q))) ≡ rank_of ps qs =
      rw (mark_in_lem (part ps top) q) (sym (P.row ∙ ap (reached ps top (row_at p rows)) e ∙ reached_last ps top (row_at p rows) q all)) in
      h ∙ rw z s.is ∙ ap marks_of w
