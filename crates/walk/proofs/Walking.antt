-- A step is a search for the first entry that aligns; and the tests before a start. Assumes nothing.
use Rattle.std.specs.Prelude as std
use Rattle.std.specs.Prelude.{if◌then◌else◌, Result, Ok, Err, Some, None}
use mathlib.Core.Bool.{Bool, true, false, ◌&&◌, not}
use mathlib.Core.List.{List, [], ◌∷◌}
use mathlib.Core.Option.{Option, some, none}
use mathlib.Core.Path.{◌≡◌, refl, sym, ap, ◌∙◌}
use Prim.Native.Nat.{ℕ, zero, suc, ◌+◌, ◌-◌, ◌<◌, min}
use native.Mathlib.Numerals.{add-one}
use native.Mathlib.Omega.{arith}
use lib.ListN.{length, get_or, take, drop, length-take, drop_of_length-le}
use lib.Seq.{drop-cons, get_or-take}
use Rattle.definition.specs.Text.{Entry}
use Rattle.definition.specs.Image.{Row, rows_from, rows_in, count_of, entry_at, entries_in, is_image}
use Rattle.definition.specs.Writing.{entries_of_image}
use Rattle.definition.specs.Query.{Position, Query, positions, malformed, past_limit, shell, query_of}
use Rattle.definition.specs.Ranking.{no_entry, rank_of, better}
use Rattle.definition.specs.Lookup.{keys_of, given, refused}
use Rattle.definition.specs.Walking.{has_row, aligns, aligned_from, first_of, walk, next_of, begun, walk_start_by, walk_start, number_or, stepped, walk_step_by, walk_step}
use Rattle.laws.proofs.Lists.{get_d_inside}
use Rattle.laws.proofs.Image.{image_sizes}
use Rattle.query.specs.Shapes.{asked}
use Rattle.query.specs.declared.Split.{Split}
use Rattle.image.specs.Rows.{row_at, rows_left}
use Rattle.image.proofs.Rows.{rows_turn, row_is}
use Rattle.refusal.specs.declared.Refusal.{Refusal}
use Rattle.lookup.specs.Searches.{is_entry, searched, numbered, entry_in, entry_within}
use Rattle.lookup.specs.Replies.{entry_replied}
use Rattle.walk.specs.Replies.{step_replied}

-- ---- The first that aligns

-- a search that ends at the first entry that aligns
searched_first : (es : List Entry) (qs : List Position) (i : ℕ) → numbered (searched true (keys_of es) qs i no_entry) ≡ number_or (first_of (aligned_from i qs es))
unfolding searched numbered number_or first_of aligned_from aligns
searched_first [] qs i = refl
searched_first (e ∷ es) qs i = at (rank_of e.parts qs) (searched_first es qs (suc i))
  where
    at : (o : Option (List ℕ)) → numbered (searched true (keys_of es) qs (suc i) no_entry) ≡ number_or (first_of (aligned_from (suc i) qs es))
        → numbered (if true && is_entry (better i o no_entry) then better i o no_entry else searched true (keys_of es) qs (suc i) (better i o no_entry))
        ≡ number_or (first_of (if has_row o then i ∷ aligned_from (suc i) qs es else aligned_from (suc i) qs es))
    at none ih = unfold better is_entry has_row in ih
    at (some row) ih = unfold better is_entry has_row in refl

-- ---- The entries from the next on, below both counts

entry_at_lem : (rows : List Row) (bodies : List ℕ) (i : ℕ) (r : Row) → get_or (entries_in rows bodies) i (entry_at bodies r) ≡ entry_at bodies (get_or rows i r)
unfolding entries_in
entry_at_lem [] bodies i r = refl
entry_at_lem (x ∷ rows) bodies zero r = refl
entry_at_lem (x ∷ rows) bodies (suc i) r = entry_at_lem rows bodies i r

-- the entry of row i
pub entry_of : (contents bodies : List ℕ) (i : ℕ) (d : Entry) → is_image contents bodies ≡ true → i < count_of contents
    → get_or (entries_of_image contents bodies) i d ≡ entry_at bodies (row_at contents i)
entry_of contents bodies i d image h =
    let r = row_at contents i in
    get_d_inside (entries_of_image contents bodies) i d (entry_at bodies r) (omega (arith, h, (image_sizes contents bodies image).0))
    ∙ entry_at_lem (rows_in contents) bodies i r ∙ ap (entry_at bodies) (row_is contents i r h)

module _ (contents bodies : List ℕ) (image : is_image contents bodies ≡ true) (count : ℕ) where
  abbrev last : ℕ
  last = min count (count_of contents)

  abbrev left : ℕ → List Entry
  left i = drop i (take count (entries_of_image contents bodies))

  long : length (take count (entries_of_image contents bodies)) ≡ last
  long = omega (arith, length-take count (entries_of_image contents bodies), (image_sizes contents bodies image).0)

  left_turn : (i : ℕ) → i < last → left i ≡ entry_at bodies (row_at contents i) ∷ left (suc i)
  left_turn i h =
      let d = row_at contents i in
      let here : get_or (take count (entries_of_image contents bodies)) i (entry_at bodies d) ≡ entry_at bodies d =
      get_or-take count (entries_of_image contents bodies) i (entry_at bodies d) (omega (arith, h)) ∙ entry_of contents bodies i (entry_at bodies d) image (omega (arith, h)) in
      drop-cons (take count (entries_of_image contents bodies)) i (entry_at bodies d) (omega (arith, h, long)) ∙ ap (λ (e : Entry). e ∷ left (suc i)) here

  -- n entries are left
  entries_left : (n i : ℕ) → last - i ≡ n → entries_in (rows_left contents last i) bodies ≡ left i
  unfolding entries_in rows_from
  entries_left zero i e = rw e (sym (drop_of_length-le (take count (entries_of_image contents bodies)) {i = i} (omega (arith, e, long))))
  entries_left (suc n) i e =
      let h : i < last = omega (arith, e) in
      rw (rows_turn contents last i h, left_turn i h) (ap (λ (l : List Entry). entry_at bodies (row_at contents i) ∷ l) (rw (← add-one i) (entries_left n (i + 1) (omega (arith, e)))))

  step_is : (next : ℕ) (q : Query) → entry_in true next last contents bodies q ≡ stepped (walk next count) (entries_of_image contents bodies) q
  unfolding entry_in stepped next_of
  step_is next (positions qs) = rw (entries_left (last - next) next refl) (searched_first (left next) qs next)
  step_is next malformed = refl
  step_is next (past_limit k) = refl

-- ---- The calls

-- a step tells what its search tells
pub step_told : (r : Result (std.Option ℕ) Refusal) → step_replied r ≡ entry_replied r
step_told (Ok (Some i)) = refl
step_told (Ok None) = refl
step_told (Err k) = refl

module _ (contents bodies name class : List ℕ) where
  pub steps : (next count : ℕ) → entry_within shell true next count contents bodies name class ≡ walk_step contents bodies name class (walk next count)
  unfolding entry_within walk_step_by
  steps next count = at (is_image contents bodies) refl
    where
      at : (b : Bool) → is_image contents bodies ≡ b
          → (if not b then refused 8 else entry_in true next (min count (count_of contents)) contents bodies (query_of name class))
          ≡ (if not b then refused 8 else stepped (walk next count) (entries_of_image contents bodies) (query_of name class))
      at true e = step_is contents bodies e count next (query_of name class)
      at false e = refl

  pub start_no_image : is_image contents bodies ≡ false → refused 8 ≡ walk_start contents bodies name class
  unfolding walk_start_by
  start_no_image e = rw e refl

  -- what the query decides
  start_asked : is_image contents bodies ≡ true → (q : Query) → q ≡ query_of name class → begun (count_of contents) q ≡ walk_start contents bodies name class
  unfolding walk_start_by
  start_asked e q f = rw (e, ← f) refl

  pub start_past : is_image contents bodies ≡ true → (k : ℕ) → past_limit k ≡ query_of name class → refused k ≡ walk_start contents bodies name class
  start_past e k f = unfold begun in start_asked e (past_limit k) f

  -- the parts that are told, or none where the query is malformed
  pub start_told : is_image contents bodies ≡ true → {n : ℕ} (o : std.Option (Split n × Split n)) → asked name class (Ok o) ≡ query_of name class
      → given (walk 0 (count_of contents)) ≡ walk_start contents bodies name class
  start_told e None f = unfold begun in start_asked e malformed f
  start_told e (Some p) f = unfold begun in start_asked e _ f
