-- The loop over the entries, and the tests before it. Assumes nothing.
use Rattle.std.specs.Prelude as std
use Rattle.std.specs.Prelude.{if◌then◌else◌, Result, Ok, Err, Some, None, IfSome}
use mathlib.Core.Bool.{Bool, true, false, ◌&&◌, not}
use mathlib.Core.List.{List, [], ◌∷◌}
use mathlib.Core.Option.{Option, some, none}
use mathlib.Core.Path.{◌≡◌, refl, sym, ap, ◌∙◌}
use Prim.Native.Nat.{ℕ, zero, suc, ◌+◌, ◌-◌, ◌≤◌, ◌<◌, min, max}
use native.Mathlib.Numerals.{add-one}
use native.Mathlib.Nat.{sub-zero}
use native.Mathlib.Omega.{arith}
use lib.ListN.{length, get_or}
use borrow.Author.Tests.{lt-ltb, le-ltb}
use Rattle.definition.specs.Lists.{lower}
use Rattle.definition.specs.Limits.{body_bytes}
use Rattle.definition.specs.Text.{Part}
use Rattle.definition.specs.Image as image
use Rattle.definition.specs.Image.{rows_from, rows_in, count_of, key_end, value_end, key_at, key_parts, entries_in, is_image}
use Rattle.definition.specs.Query.{Position, Query, positions, malformed, past_limit, Bounds, query_within}
use Rattle.definition.specs.Ranking.{Best, no_entry, best, rank_of, better, best_from, best_of}
use Rattle.definition.specs.Lookup.{keys_of, Reply, given, no_value, refused, Place, place_of, lookup, get_bytes_by, get_bytes_within}
use Rattle.laws.proofs.Image.{count_rows}
use Rattle.laws.proofs.Ranking.{best_beats}
use Rattle.refusal.specs.declared.Refusal.{Refusal}
use Rattle.marks.specs.Rows.{marks_of, is_live, marks_in, row_in, best_in, Long as RowLong, Stands, Held, lower_row, wins_over}
use Rattle.positions.specs.Parts.{queried}
use Rattle.marks.specs.declared.Marks.{Marks}
use Rattle.marks.proofs.Rows.{rank_long, none_stands, stands_own, wins_better}
use Rattle.positions.proofs.Positions.{length_queried}
use Rattle.image.specs.Rows.{row_at, rows_left, RowIs}
use Rattle.image.specs.declared.Row.{Row}
use Rattle.image.proofs.Rows.{rows_turn, row_is}
use Rattle.image_judge.proofs.Judged.{judged}
use Rattle.lookup.specs.Replies.{place_in, replied, LiesIn, found_reply}
use Rattle.lookup.specs.Searches.{considered, row_of, found_or, Begun, Holds, is_entry, searched, numbered, searched_after, searched_in, number_or, entry_found, entry_in, entry_within, value_in}
use Rattle.lookup.specs.declared.Place as found

and_false : (b : Bool) → (b && false) ≡ false
and_false true = refl
and_false false = refl

-- ---- One entry

module _ (len i at : ℕ) (b : Marks) (o : Option (List ℕ)) where
  passed_over : o ≡ none → best_in len at b ≡ better i o (best_in len at b)
  unfolding better
  passed_over e = rw e refl

  -- the row of that rank, as the code holds it, against the best so far
  module _ (held : Held len b) (r : Marks) (row : r ≡ marks_of o) (long : RowLong len o) (w : Bool) (won : w ≡ wins_over r b) where
    stands : Stands len r o
    stands = record { is = row; long = long }

    decided : better i o (best_in len at b) ≡ (if w then best_in len i r else best_in len at b)
    decided = rw won (wins_better len i at r b o (row_in len b) stands held)

    takes_over : w ≡ true → best_in len i r ≡ better i o (best_in len at b)
    takes_over e = sym (decided ∙ rw e refl)

    stays : w ≡ false → best_in len at b ≡ better i o (best_in len at b)
    stays e = sym (decided ∙ rw e refl)

-- what the code holds after an entry
module _ (o : Option (List ℕ)) (held : Marks) (w : Bool) (won : w ≡ wins_over (marks_of o) held) where
  pub takes : w ≡ true → marks_of o ≡ considered o held
  unfolding considered
  takes e = sym (rw (← won, e) refl)

  pub keeps : w ≡ false → held ≡ considered o held
  unfolding considered
  keeps e = sym (rw (← won, e) refl)

pub queried_long : (ps : List Part) (t ns nl u cs cl : List ℕ) → RowLong (max (length ns) (length cs)) (rank_of ps (queried t ns nl u cs cl))
queried_long ps t ns nl u cs cl = rw (length_queried t ns nl u cs cl) at (rank_long ps (queried t ns nl u cs cl))

-- no row is held at first
pub begun_none : (first : Bool) (len : ℕ) → Begun first len (marks_of none)
unfolding marks_of
begun_none first len = record { kept = stands_own len (marks_of none) none (none_stands len); unended = and_false first }

pub best_none : (len last : ℕ) → best_in len last (marks_of none) ≡ no_entry
unfolding marks_of best_in
best_none len last = refl

-- ---- The loop

-- an entry as the code tells it
live_entry : (len at : ℕ) (r : Marks) → is_entry (best_in len at r) ≡ is_live r
unfolding best_in is_entry
live_entry len at r = by (is_live r)
  where
    by : (b : Bool) → is_entry (if b then best at (marks_in len r) else no_entry) ≡ b
    by true = refl
    by false = refl

live_number : (last len at : ℕ) (r : Marks) → is_live r ≡ true → at ≡ number_or last (best_in len at r)
unfolding best_in number_or
live_number last len at r e = rw e refl

-- a row that wins is there
won_live : (r top : Marks) → wins_over r top ≡ true → is_live r ≡ true
unfolding wins_over
won_live r top e = by (is_live r) e
  where
    by : (b : Bool) → (b && not (is_live top && lower_row r top)) ≡ true → b ≡ true
    by true f = refl
    by false f = f

-- the row that is held
held_row : (len at : ℕ) (r : Marks) → row_in len r ≡ row_of (best_in len at r)
unfolding best_in row_in row_of
held_row len at r = by (is_live r)
  where
    by : (b : Bool) → (if b then some (marks_in len r) else none) ≡ row_of (if b then best at (marks_in len r) else no_entry)
    by true = refl
    by false = refl

-- what a search gives and leaves
abbrev Searched : ℕ → ℕ → Best → ℕ → Marks → Type 0
Searched last len b entry held = (entry ≡ number_or last b) × (held ≡ marks_of (row_of b)) × Holds len entry held b

searched_is : (last len : ℕ) (b : Best) (entry : ℕ) (held : Marks) → entry ≡ number_or last (best_in len entry held) → best_in len entry held ≡ b → Held len held
    → Searched last len b entry held
searched_is last len b entry held n z k =
    (n ∙ ap (number_or last) z, k.is ∙ ap marks_of (held_row len entry held ∙ ap row_of z), record { is = z; kept = k })

module _ (contents bodies : List ℕ) (qs : List Position) (first : Bool) (next last len : ℕ) (top : Marks) where
  abbrev keys_left : ℕ → List (List Part)
  keys_left i = keys_of (entries_in (rows_left contents last i) bodies)

  abbrev wanted : Best
  wanted = searched first (keys_left next) qs next (best_in len last top)

  -- going on from entry i, with the best so far, comes to what is looked for
  pub record Searching (i found : ℕ) (held : Marks) : Type 0 where
    pub same : searched first (keys_left i) qs i (best_in len found held) ≡ wanted
    pub number : found ≡ number_or last (best_in len found held)
    pub begun : Begun first len held

  pub searching_first : Begun first len top → Searching next last top
  unfolding best_in number_or
  searching_first b = record { same = refl; number = by (is_live top); begun = b }
    where
      by : (b : Bool) → last ≡ number_or last (if b then best last (marks_in len top) else no_entry)
      by true = refl
      by false = refl

  module _ (i found : ℕ) (held : Marks) (s : Searching i found held) where
    abbrev rank : Option (List ℕ)
    rank = rank_of (key_parts (key_at bodies (row_at contents i))) qs

    module _ (h : i < last) where
      -- the best after entry i, by its number and its row
      module _ (at : ℕ) (held' : Marks) (e : best_in len at held' ≡ better i rank (best_in len found held)) (n : at ≡ number_or last (best_in len at held')) where
        turn : searched first (keys_left i) qs i (best_in len found held)
            ≡ (if first && is_entry (best_in len at held') then best_in len at held' else searched first (keys_left (i + 1)) qs (i + 1) (best_in len at held'))
        unfolding searched entries_in
        turn = rw (rows_turn contents last i h, ← add-one i, e) refl

        searching_more : Begun first len held' → Searching (i + 1) at held'
        searching_more b = record { same = sym (sym s.same ∙ turn ∙ rw (live_entry len at held', b.unended) refl); number = n; begun = b }

        searching_stops : (first && is_live held') ≡ true → Held len held' → Searched last len wanted at held'
        searching_stops f k = searched_is last len wanted at held' n (sym (sym s.same ∙ turn ∙ rw (live_entry len at held', f) refl)) k

      -- past an entry that has no row
      pub passes : rank ≡ none → Searching (i + 1) found held
      passes e = searching_more found held (passed_over len i found held rank e) s.number s.begun

      -- an entry whose row is held against the best so far
      module _ (long : RowLong len rank) (w : Bool) (won : w ≡ wins_over (marks_of rank) held) (held' : Marks) (is : held' ≡ considered rank held) where
        pub loses : w ≡ false → Searching (i + 1) found held'
        loses f =
            let e : held' ≡ held = is ∙ sym (keeps rank held w won f) in
            rw e (searching_more found held (stays len i found held rank s.begun.kept (marks_of rank) refl long w won f) s.number s.begun)

        module _ (f : w ≡ true) where
          abbrev taken : held' ≡ marks_of rank
          taken = is ∙ sym (takes rank held w won f)

          live : is_live (marks_of rank) ≡ true
          live = won_live (marks_of rank) held (sym won ∙ f)

          over : best_in len i (marks_of rank) ≡ better i rank (best_in len found held)
          over = takes_over len i found held rank s.begun.kept (marks_of rank) refl long w won f

          kept : Held len (marks_of rank)
          kept = stands_own len (marks_of rank) rank (record { is = refl; long = long })

          pub goes_on : first ≡ false → Searching (i + 1) i held'
          goes_on g =
              rw taken (searching_more i (marks_of rank) over (live_number last len i (marks_of rank) live) (record { kept = kept; unended = rw g refl }))

          pub stops : first ≡ true → Searched last len wanted i held'
          stops g = rw taken (searching_stops i (marks_of rank) over (live_number last len i (marks_of rank) live) (rw g live) kept)

    pub searching_ends : last ≤ i → Searched last len wanted found held
    unfolding searched rows_from entries_in
    searching_ends h =
        let e : last - i ≡ 0 = omega arith in
        searched_is last len wanted found held s.number (sym (sym s.same ∙ rw e refl)) s.begun.kept

-- ---- What is found stands below `last`

abbrev Below : ℕ → Best → Type 0
Below last no_entry = Unit {0}
Below last (best i row) = i < last

better_below : (last i : ℕ) (o : Option (List ℕ)) (b : Best) → i < last → Below last b → Below last (better i o b)
unfolding better
better_below last i none b h k = k
better_below last i (some r) no_entry h k = h
better_below last i (some r) (best j s) h k = by (lower r s)
  where
    by : (t : Bool) → Below last (if t then best j s else best i r)
    by true = k
    by false = h

module _ (contents bodies : List ℕ) (qs : List Position) (first : Bool) (last : ℕ) where
  searched_below : (k i : ℕ) (b : Best) → last - i ≡ k → Below last b → Below last (searched first (keys_of (entries_in (rows_left contents last i) bodies)) qs i b)
  unfolding searched rows_from entries_in
  searched_below zero i b e h = rw e h
  searched_below (suc k) i b e h =
      let l : i < last = omega arith in
      rw (rows_turn contents last i l, ← add-one i) (by (first && is_entry new) (searched_below k (i + 1) new (omega arith) below))
    where
      new : Best
      new = better i (rank_of (key_parts (key_at bodies (row_at contents i))) qs) b

      below : Below last (better i (rank_of (key_parts (key_at bodies (row_at contents i))) qs) b)
      below = better_below last i (rank_of (key_parts (key_at bodies (row_at contents i))) qs) b (omega arith) h

      by : (t : Bool) → Below last (searched first (keys_of (entries_in (rows_left contents last (i + 1)) bodies)) qs (i + 1) new)
          → Below last (if t then new else searched first (keys_of (entries_in (rows_left contents last (i + 1)) bodies)) qs (i + 1) new)
      by true k = below
      by false k = k

found_number : (last : ℕ) (b : Best) → Below last b → entry_found last (number_or last b) ≡ numbered b
unfolding entry_found number_or numbered
found_number last no_entry h = rw (le-ltb last last (omega arith)) refl
found_number last (best i row) h = rw (lt-ltb i last h) refl

-- the answer of a search, by its number
module _ (contents bodies : List ℕ) (qs : List Position) (first : Bool) (next last i : ℕ) (e : i ≡ number_or last (searched_in first next last contents bodies qs)) where
  number_told : entry_found last i ≡ numbered (searched_in first next last contents bodies qs)
  number_told = rw e (found_number last _ (searched_below contents bodies qs first last (last - next) next no_entry refl tt))

-- ---- A lookup is a search for the best of all

searched_best : (ks : List (List Part)) (qs : List Position) (i : ℕ) (b : Best) → searched false ks qs i b ≡ best_from ks qs i b
unfolding searched best_from
searched_best [] qs i b = refl
searched_best (k ∷ ks) qs i b = searched_best ks qs (suc i) (better i (rank_of k qs) b)

pub keys_long : (rows : List image.Row) (bodies : List ℕ) → length (keys_of (entries_in rows bodies)) ≡ length rows
unfolding entries_in
keys_long [] bodies = refl
keys_long (r ∷ rows) bodies = ap suc (keys_long rows bodies)

module _ (contents bodies : List ℕ) where
  abbrev keys : List (List Part)
  keys = keys_of (entries_in (rows_in contents) bodies)

  best_inside : (qs : List Position) (i : ℕ) (row : List ℕ) → best_of keys qs ≡ best i row → i < count_of contents
  best_inside qs i row e =
      let b = best_beats keys qs i row e in
      omega (arith, b.inside, keys_long (rows_in contents) bodies, count_rows contents)

  pub searched_all : (qs : List Position) (b : Best) → searched_after b false 0 (count_of contents) contents bodies qs ≡ best_from keys qs 0 b
  searched_all qs b = searched_best (keys_of (entries_in (rows_left contents (count_of contents) 0) bodies)) qs 0 b ∙ rw (sub-zero (count_of contents)) refl

  value_is : (qs : List Position) → value_in contents (numbered (searched_in false 0 (count_of contents) contents bodies qs)) ≡ lookup (rows_in contents) bodies (positions qs)
  unfolding lookup value_in best_of
  value_is qs = rw (searched_all qs no_entry) (at (best_of keys qs) refl)
    where
      at : (b : Best) → best_of keys qs ≡ b → value_in contents (numbered b) ≡ place_of (rows_in contents) b
      at no_entry e = unfold numbered place_of in refl
      at (best i row) e = unfold numbered place_of in
          rw (row_is contents i (record { start = 0; key_length = 0; value_length = 0 }) (best_inside qs i row e)) refl

-- the value of the entry that a query gives
value_asked : (contents bodies : List ℕ) (q : Query) → value_in contents (entry_in false 0 (count_of contents) contents bodies q) ≡ lookup (rows_in contents) bodies q
unfolding value_in entry_in lookup
value_asked contents bodies (positions qs) = value_is contents bodies qs
value_asked contents bodies malformed = refl
value_asked contents bodies (past_limit k) = refl

-- ---- The calls

-- what is found, as the definition says it
found_told : (last : ℕ) (b : Best) (r : std.Option ℕ) → found_or last r ≡ number_or last b → IfSome r (λ i. i < last) → found_reply r ≡ entry_found last (number_or last b)
unfolding entry_found
found_told last b None e h = rw (← e, le-ltb last last (omega arith)) refl
found_told last b (Some i) e h = rw (← e, lt-ltb i last h) refl

-- what a query decides
module _ (first : Bool) (next last : ℕ) (contents bodies : List ℕ) (q : Query) where
  pub in_past : (k : ℕ) → past_limit k ≡ q → refused k ≡ entry_in first next last contents bodies q
  unfolding entry_in
  in_past k e = ap (entry_in first next last contents bodies) e

  pub in_malformed : malformed ≡ q → no_value ≡ entry_in first next last contents bodies q
  unfolding entry_in
  in_malformed e = ap (entry_in first next last contents bodies) e

  pub in_found : (qs : List Position) → positions qs ≡ q → (r : std.Option ℕ) → found_or last r ≡ number_or last (searched_in first next last contents bodies qs)
      → IfSome r (λ i. i < last) → found_reply r ≡ entry_in first next last contents bodies q
  unfolding entry_in
  in_found qs e r n b = found_told last _ r n b ∙ number_told contents bodies qs first next last _ refl ∙ ap (entry_in first next last contents bodies) e

-- an image is judged before any query
module _ (most : Bounds) (contents bodies name class : List ℕ) where
  pub no_bytes : is_image contents bodies ≡ false → refused 8 ≡ get_bytes_within most contents bodies name class
  unfolding get_bytes_by
  no_bytes e = rw e refl

  pub past : is_image contents bodies ≡ true → (k : ℕ) → query_within most name class ≡ past_limit k → refused k ≡ get_bytes_within most contents bodies name class
  unfolding get_bytes_by lookup
  past e k f = rw (e, f) refl

  pub no_image : (first : Bool) (next count : ℕ) → is_image contents bodies ≡ false → refused 8 ≡ entry_within most first next count contents bodies name class
  unfolding entry_within
  no_image first next count e = rw e refl

  module _ (image : is_image contents bodies ≡ true) where
    -- the value of the entry that the search gives
    pub bytes_found : (last : ℕ) → last ≡ count_of contents → (r : Reply ℕ) → r ≡ entry_in false 0 last contents bodies (query_within most name class)
        → value_in contents r ≡ get_bytes_within most contents bodies name class
    unfolding get_bytes_by
    bytes_found last z r e = ap (value_in contents) e ∙ rw (z, image) (value_asked contents bodies (query_within most name class))

    pub entry_asked : (first : Bool) (next count : ℕ) → entry_in first next (min count (count_of contents)) contents bodies (query_within most name class) ≡ entry_within most first next count contents bodies name class
    unfolding entry_within
    entry_asked first next count = rw image refl

-- ---- The answer

-- the place of a row's value
pub place_is : (contents : List ℕ) (i : ℕ) (r : Row) → RowIs contents i r → ◌≡◌ {A = Place} (record { start = r.start + r.key; length = r.value }) (place_in (row_at contents i))
place_is contents i r e = ap (λ (x : image.Row). place_in x) e.is

-- ---- A value that is found lies in the bodies that an image has

module _ (contents bodies : List ℕ) (image : is_image contents bodies ≡ true) (p n : ℕ) where
  abbrev place : Place
  place = record { start = p; length = n }

  abbrev Inside-image : Type 0
  Inside-image = (p + n ≤ body_bytes) × (body_bytes ≤ length bodies)

  best_placed : (qs : List Position) (b : Best) → best_of (keys_of (entries_in (rows_in contents) bodies)) qs ≡ b → given place ≡ place_of (rows_in contents) b → Inside-image
  unfolding place_of
  best_placed qs no_entry f e = absurd (let z : ◌≡◌ {A = ℕ} 0 1 = cc in omega arith)
  best_placed qs (best i row) f e =
      let w = best_beats (keys_of (entries_in (rows_in contents) bodies)) qs i row f in
      let h : i < count_of contents = omega (arith, w.inside, keys_long (rows_in contents) bodies, count_rows contents) in
      let r = get_or (rows_in contents) i (record { start = 0; key_length = 0; value_length = 0 }) in
      let q : ◌≡◌ {A = Reply Place} (given place) (given (record { start = key_end r; length = r.value_length })) = e in
      let same : place ≡ record { start = key_end r; length = r.value_length } = cc in
      let j = judged contents bodies image in
      let at = row_is contents i (record { start = 0; key_length = 0; value_length = 0 }) h in
      let s : p + n ≡ value_end (row_at contents i) = ap (λ (x : Place). x.start + x.length) same ∙ ap value_end at in
      (omega (arith, s, j.row_inside i h, j.used_most), j.bodies_long)

  looked_placed : (q : Query) → given place ≡ lookup (rows_in contents) bodies q → Inside-image
  unfolding lookup
  looked_placed (positions qs) e = best_placed qs _ refl e
  looked_placed malformed e = absurd (let z : ◌≡◌ {A = ℕ} 0 1 = cc in omega arith)
  looked_placed (past_limit k) e = absurd (let z : ◌≡◌ {A = ℕ} 0 1 = cc in omega arith)

pub found_placed : (most : Bounds) (contents bodies name class : List ℕ) (p n : ℕ) → given (record { start = p; length = n }) ≡ get_bytes_within most contents bodies name class
    → (p + n ≤ body_bytes) × (body_bytes ≤ length bodies)
unfolding get_bytes_by
found_placed most contents bodies name class p n = at (is_image contents bodies) refl
  where
    at : (b : Bool) → is_image contents bodies ≡ b → given (record { start = p; length = n }) ≡ (if not b then refused 8 else lookup (rows_in contents) bodies (query_within most name class))
        → (p + n ≤ body_bytes) × (body_bytes ≤ length bodies)
    at true i e = looked_placed contents bodies i p n (query_within most name class) e
    at false i e = absurd (let z : ◌≡◌ {A = ℕ} 0 1 = cc in omega arith)

pub found_inside : (most : Bounds) (contents bodies name class : List ℕ) (p n : ℕ) → given (record { start = p; length = n }) ≡ get_bytes_within most contents bodies name class
    → p + n ≤ length bodies
found_inside most contents bodies name class p n e = let f = found_placed most contents bodies name class p n e in omega (arith, f.0, f.1)

pub bytes_within : (most : Bounds) (contents bodies name class : List ℕ) (r : Result (std.Option found.Place) Refusal) → replied r ≡ get_bytes_within most contents bodies name class
    → LiesIn r (length bodies)
bytes_within most contents bodies name class (Ok (Some p)) e = found_inside most contents bodies name class p.start p.size e
bytes_within most contents bodies name class (Ok None) e = tt
bytes_within most contents bodies name class (Err k) e = tt
