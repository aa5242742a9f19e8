-- Document 02 (v), an addition: what it leaves holds the old entries and then the new one, and a refusal leaves both buffers as lent; and a walk
-- with additions under way lists, of the entries below its start's count, those that align, each once. Assumes nothing.
use Rattle.std.specs.Prelude.{if◌then◌else◌}
use mathlib.Core.Bool.{Bool, true, false, ◌&&◌, not}
use mathlib.Core.List.{List, [], ◌∷◌, ◌++◌, append_assoc, append-nil}
use mathlib.Core.Logic.{◌⊎◌, inl, inr, ⊎_elim}
use mathlib.Core.Path.{◌≡◌, refl, sym, ap, ◌∙◌}
use Prim.Native.Nat.{ℕ, zero, suc, ◌+◌, ◌*◌, ◌-◌, ◌≤◌, ◌<◌}
use native.Mathlib.Numerals.{add-one}
use native.Mathlib.Omega.{arith}
use lib.Dec.{eqb, leb}
use lib.ListN.{length, take, drop, length-append, length-drop, drop_of_length-le}
use lib.Seq.{slice, paste, take-length, length-take-le, take-append-le, drop-append-le, take-take, take_at, take-add, drop-drop}
use borrow.Author.Tests.{le-ltb, le-leb, eqb-true, eq-eqb}
use Rattle.definition.specs.Lists.{all}
use Rattle.definition.specs.Parsing.{Parsed}
use Rattle.definition.specs.Limits.{default_depth, contents_words, body_bytes, row_words, most_entries, most_parts, unknown_file}
use Rattle.definition.specs.Archive.{archive_of, files_of}
use Rattle.definition.specs.Text.{Part, Entry, ends_in_name}
use Rattle.definition.specs.Including.{entered, entries_of}
use Rattle.definition.specs.Image.{
  key_of,
  all_from,
  rows_of,
  Row,
  rows_from,
  origins_from,
  count_of,
  used_of,
  rows_in,
  origins_in,
  key_end,
  value_end,
  key_at,
  value_at,
  key_parts,
  entry_at,
  entries_in,
  is_key,
  packed,
  is_origin,
  too_short,
  is_image_by,
  is_image,
}
use Rattle.definition.specs.Reading.{Totals, Verdict, within, past, size_of, judge, too_long}
use Rattle.definition.specs.Writing.{entries_of_image}
use Rattle.definition.specs.Lookup.{given, refused}
use Rattle.definition.specs.Query.{Query, positions, malformed, past_limit, query_of}
use Rattle.definition.specs.Walking.{Walk, walk, first_of, next_of, begun, walk_start_by, walk_start, number_or, stepped, walk_step_by, walk_step, after_step}
use Rattle.definition.specs.Adding.{
  Addition,
  addition,
  entries_added,
  over,
  appended,
  judged,
  added_one,
  adding,
  Turn,
  step,
  add,
  History,
  beginning,
  listed_after,
  turned,
  played,
  steps_in,
  numbers_from,
  numbers_of,
  AdditionHolds,
  WalkLists,
  AddedShows,
}
use Rattle.laws.proofs.Lists.{and_true, and_both, slice_at, part_slice}
use Rattle.laws.proofs.Keys.{is_legal, is_legal_line, lines_legal, key_parts_lem, is_key_lem}
use Rattle.laws.proofs.Limits.{FewParts, total, judge_limits}
use Rattle.laws.proofs.Reading.{events_of_all_good}
use Rattle.laws.proofs.Image.{Holds, image_holds, image_sizes, packed_most}
use Rattle.laws.proofs.Walking.{aligned_append, aligned_rest}

-- ---- Written over what stands

-- as a copying writes it
pub over_paste : (n : ℕ) (xs lent : List ℕ) → paste lent n xs (length xs) ≡ over n xs lent
unfolding over
over_paste n xs lent = ap (λ (l : List ℕ). take n lent ++ l ++ drop (n + length xs) lent) (take-length xs)

pub over_long : (n : ℕ) (xs lent : List ℕ) → n + length xs ≤ length lent → length (over n xs lent) ≡ length lent
unfolding over
over_long n xs lent h =
    let a = length-append (take n lent ++ xs) (drop (n + length xs) lent) in
    let b = length-append (take n lent) xs in
    omega (arith, a, b, length-take-le n lent (omega arith), length-drop (n + length xs) lent)

-- what stands before is as it was
pub over_before : (n : ℕ) (xs lent : List ℕ) → n ≤ length lent → (from to : ℕ) → to ≤ n → slice from to (over n xs lent) ≡ slice from to lent
unfolding over
over_before n xs lent h from to k =
    let m = length-take-le n lent h in
    let e : take to (take n lent ++ xs ++ drop (n + length xs) lent) ≡ take to lent =
    ap (take to) (append_assoc (take n lent) xs (drop (n + length xs) lent))
    ∙ take-append-le to (take n lent) (xs ++ drop (n + length xs) lent) (omega arith)
    ∙ take-take to n lent k in
    ap (drop from) e

-- ---- The rows

-- n rows, and others behind them
rows_append : (n m : ℕ) (ws us : List ℕ) → row_words * n ≤ length ws
    → rows_from row_words (n + m) (take (row_words * n) ws ++ us) ≡ rows_from row_words n ws ++ rows_from row_words m us
unfolding rows_from
rows_append zero m ws us h = let e : 0 + m ≡ m = omega arith in rw e refl
rows_append (suc n) m [] us h = absurd (omega arith)
rows_append (suc n) m (a ∷ []) us h = absurd (omega arith)
rows_append (suc n) m (a ∷ b ∷ []) us h = absurd (omega arith)
rows_append (suc n) m (a ∷ b ∷ c ∷ []) us h = absurd (omega arith)
rows_append (suc n) m (a ∷ b ∷ c ∷ d ∷ ws) us h =
    let e : row_words * suc n ≡ suc (suc (suc (suc (row_words * n)))) = omega arith in
    let f : suc n + m ≡ suc (n + m) = omega arith in
    let r : Row = record { start = a; key_length = b; value_length = c } in
    rw (e, f) (ap (λ (l : List Row). r ∷ l) (rows_append n m ws us (omega arith)))

-- and their origins
origins_append : (n m : ℕ) (ws us : List ℕ) → row_words * n ≤ length ws
    → origins_from row_words (n + m) (take (row_words * n) ws ++ us) ≡ origins_from row_words n ws ++ origins_from row_words m us
unfolding origins_from
origins_append zero m ws us h = let e : 0 + m ≡ m = omega arith in rw e refl
origins_append (suc n) m [] us h = absurd (omega arith)
origins_append (suc n) m (a ∷ []) us h = absurd (omega arith)
origins_append (suc n) m (a ∷ b ∷ []) us h = absurd (omega arith)
origins_append (suc n) m (a ∷ b ∷ c ∷ []) us h = absurd (omega arith)
origins_append (suc n) m (a ∷ b ∷ c ∷ d ∷ ws) us h =
    let e : row_words * suc n ≡ suc (suc (suc (suc (row_words * n)))) = omega arith in
    let f : suc n + m ≡ suc (n + m) = omega arith in
    rw (e, f) (ap (λ (l : List ℕ). d ∷ l) (origins_append n m ws us (omega arith)))

-- the row of an entry that begins at `at`
abbrev row_of : ℕ → Entry → Row
row_of at e = record { start = at; key_length = length (key_of e.parts); value_length = length e.value }

module _ (e : Entry) (contents : List ℕ) (room : 2 + row_words * count_of contents + row_words ≤ length contents) where
  abbrev row : List ℕ
  row = rows_of (used_of contents) (all_from unknown_file (e ∷ []))

  abbrev behind : List ℕ
  behind = drop (2 + row_words * count_of contents + row_words) contents

  -- the words behind the first two
  words_after : drop 2 (over (2 + row_words * count_of contents) row contents) ≡ take (row_words * count_of contents) (drop 2 contents) ++ (row ++ behind)
  unfolding over rows_of
  words_after =
      let n = 2 + row_words * count_of contents in
      let m = length-take-le n contents (omega arith) in
      let k : n - 2 ≡ row_words * count_of contents = omega arith in
      let s : take (row_words * count_of contents) (drop 2 contents) ≡ drop 2 (take n contents) = rw k at (part_slice contents 2 n) in
      ap (drop 2) (append_assoc (take n contents) row behind)
      ∙ drop-append-le 2 (take n contents) (row ++ behind) (omega arith)
      ∙ ap (λ (l : List ℕ). l ++ (row ++ behind)) (sym s)

  rows_after : rows_in (appended e contents []).contents ≡ rows_in contents ++ row_of (used_of contents) e ∷ []
  unfolding appended over rows_of rows_from
  rows_after =
      ap (rows_from row_words (count_of contents + 1)) words_after
      ∙ rows_append (count_of contents) 1 (drop 2 contents) (row ++ behind) (omega (arith, length-drop 2 contents))

  origins_after : origins_in (appended e contents []).contents ≡ origins_in contents ++ unknown_file ∷ []
  unfolding appended over rows_of origins_from
  origins_after =
      ap (origins_from row_words (count_of contents + 1)) words_after
      ∙ origins_append (count_of contents) 1 (drop 2 contents) (row ++ behind) (omega (arith, length-drop 2 contents))

-- ---- What is read by the rows

pub all_append : {A : Type 0} (p : A → Bool) (xs : List A) (y : A) → all p xs ≡ true → p y ≡ true → all p (xs ++ y ∷ []) ≡ true
unfolding all
all_append p [] y h k = and_both k refl
all_append p (x ∷ xs) y h k = let a = and_true (p x) (all p xs) h in and_both a.0 (all_append p xs y a.1 k)

entries_append : (rows : List Row) (r : Row) (bodies : List ℕ) → entries_in (rows ++ r ∷ []) bodies ≡ entries_in rows bodies ++ entry_at bodies r ∷ []
unfolding entries_in
entries_append [] r bodies = refl
entries_append (s ∷ rows) r bodies = ap (λ (l : List Entry). entry_at bodies s ∷ l) (entries_append rows r bodies)

packed_append : (at : ℕ) (rows : List Row) (used : ℕ) (r : Row) → packed at rows used ≡ true → r.start ≡ used → packed at (rows ++ r ∷ []) (value_end r) ≡ true
unfolding packed
packed_append at [] used r h e = and_both (eq-eqb r.start at (omega (arith, eqb-true at used h))) (eq-eqb (value_end r) (value_end r) refl)
packed_append at (s ∷ rows) used r h e =
    let a = and_true (eqb s.start at) (packed (value_end s) rows used) h in
    and_both a.0 (packed_append (value_end s) rows used r a.1 e)

-- two bodies give the same by the rows
pub record Agree (bodies other : List ℕ) (rows : List Row) : Type 0 where
  pub entries : entries_in rows other ≡ entries_in rows bodies
  pub keys : all (λ r. is_key (key_at other r)) rows ≡ all (λ r. is_key (key_at bodies r)) rows

-- they do if they are the same up to where the rows are packed
pub agree : (bodies other : List ℕ) (used : ℕ) → ((from to : ℕ) → to ≤ used → slice from to other ≡ slice from to bodies)
    → (at : ℕ) (rows : List Row) → packed at rows used ≡ true → Agree bodies other rows
unfolding packed entries_in all
agree bodies other used same at [] h = record { entries = refl; keys = refl }
agree bodies other used same at (r ∷ rows) h =
    let a = and_true (eqb r.start at) (packed (value_end r) rows used) h in
    let m = packed_most (value_end r) rows used a.1 in
    let k : key_at other r ≡ key_at bodies r = same r.start (key_end r) (omega arith) in
    let v : value_at other r ≡ value_at bodies r = same (key_end r) (value_end r) m in
    let ih = agree bodies other used same (value_end r) rows a.1 in
    record {
      entries = λ i. record { parts = key_parts (k i); value = v i } ∷ ih.entries i;
      keys = λ i. is_key (k i) && ih.keys i;
    }

-- ---- An entry behind those of an image

-- an entry that an image has room for
record Fits (contents : List ℕ) (e : Entry) : Type 0 where
  legal : all is_legal e.parts ≡ true
  named : ends_in_name e.parts ≡ true
  few : length e.parts ≤ most_parts
  entry_room : count_of contents < most_entries
  byte_room : used_of contents + size_of e ≤ body_bytes

module _ (contents bodies : List ℕ) (is : is_image contents bodies ≡ true) (e : Entry) (f : Fits contents e) where
  abbrev holds : Holds contents bodies
  holds = image_holds contents bodies is

  abbrev a : Addition
  a = appended e contents bodies

  abbrev used : ℕ
  used = used_of contents

  abbrev r : Row
  r = row_of used e

  row_room : 2 + row_words * count_of contents + row_words ≤ length contents
  row_room = omega (arith, f.entry_room, holds.contents_long)

  rows_are : rows_in a.contents ≡ rows_in contents ++ r ∷ []
  unfolding appended
  rows_are = rows_after e contents row_room

  origins_are : origins_in a.contents ≡ origins_in contents ++ unknown_file ∷ []
  unfolding appended
  origins_are = origins_after e contents row_room

  front_long : length (take used bodies) ≡ used
  front_long = length-take-le used bodies (omega (arith, holds.used_most, holds.bodies_long))

  key_is : key_at a.bodies r ≡ key_of e.parts
  unfolding appended over
  key_is =
      let k = key_of e.parts in
      let l = drop (used + length (k ++ e.value)) bodies in
      let b : a.bodies ≡ take used bodies ++ (k ++ (e.value ++ l)) = simp append_assoc in
      rw b (slice_at (take used bodies) k (e.value ++ l) used (used + length k) front_long refl)

  value_is : value_at a.bodies r ≡ e.value
  unfolding appended over
  value_is =
      let k = key_of e.parts in
      let l = drop (used + length (k ++ e.value)) bodies in
      let b : a.bodies ≡ (take used bodies ++ k) ++ (e.value ++ l) = simp append_assoc in
      let n : length (take used bodies ++ k) ≡ used + length k = omega (arith, length-append (take used bodies) k, front_long) in
      rw b (slice_at (take used bodies ++ k) e.value l (used + length k) (used + length k + length e.value) n refl)

  entry_is : entry_at a.bodies r ≡ e
  entry_is =
      let p : key_parts (key_at a.bodies r) ≡ e.parts = ap key_parts key_is ∙ ap (λ (q : Parsed Part). q.items) (key_parts_lem e.parts f.legal) in
      λ i. record { parts = p i; value = value_is i }

  -- what the old rows give stays
  old_agree : Agree bodies a.bodies (rows_in contents)
  unfolding appended
  old_agree =
      let most : used ≤ length bodies = omega (arith, holds.used_most, holds.bodies_long) in
      agree bodies a.bodies used (over_before used (key_of e.parts ++ e.value) bodies most) 0 (rows_in contents) holds.is_packed

  entries_are : entries_of_image a.contents a.bodies ≡ entries_of_image contents bodies ++ e ∷ []
  entries_are =
      ap (λ (rows : List Row). entries_in rows a.bodies) rows_are
      ∙ entries_append (rows_in contents) r a.bodies
      ∙ (λ i. old_agree.entries i ++ entry_is i ∷ [])

  contents_length : length a.contents ≡ length contents
  unfolding appended rows_of
  contents_length =
      let row = rows_of used (all_from unknown_file (e ∷ [])) in
      let inner = over (2 + row_words * count_of contents) row contents in
      let m : length inner ≡ length contents = over_long (2 + row_words * count_of contents) row contents row_room in
      over_long 0 ((count_of contents + 1) ∷ (used + size_of e) ∷ []) inner (omega (arith, m, row_room)) ∙ m

  bodies_length : length a.bodies ≡ length bodies
  unfolding appended
  bodies_length =
      let k = key_of e.parts ++ e.value in
      over_long used k bodies (omega (arith, f.byte_room, holds.bodies_long, length-append (key_of e.parts) e.value))

  count_is : count_of a.contents ≡ count_of contents + 1
  unfolding appended over
  count_is = refl

  used_is : used_of a.contents ≡ used + size_of e
  unfolding appended over
  used_is = refl

  appended_image : is_image a.contents a.bodies ≡ true
  unfolding is_image_by
  appended_image =
      let c = a.contents in
      let b = a.bodies in
      let short : too_short c b ≡ false =
      rw (
        contents_length,
        bodies_length,
        le-ltb (length contents) contents_words holds.contents_long,
        le-ltb (length bodies) body_bytes holds.bodies_long,
      ) refl in
      let l : not (too_short c b) ≡ true = rw short refl in
      let n : leb (count_of c) most_entries ≡ true = rw count_is (le-leb (count_of contents + 1) most_entries (omega (arith, f.entry_room))) in
      let u : leb (used_of c) body_bytes ≡ true = rw used_is (le-leb (used + size_of e) body_bytes f.byte_room) in
      let end : value_end r ≡ used + size_of e = omega arith in
      let p : packed 0 (rows_in c) (used_of c) ≡ true =
      rw (rows_are, used_is, ← end) (packed_append 0 (rows_in contents) used r holds.is_packed refl) in
      let key : is_key (key_at b r) ≡ true = ap is_key key_is ∙ is_key_lem e.parts f.legal f.few f.named in
      let k : all (λ r. is_key (key_at b r)) (rows_in c) ≡ true =
      rw rows_are
      (all_append (λ r. is_key (key_at b r)) (rows_in contents) r (old_agree.keys ∙ holds.are_keys) key) in
      let unknown : is_origin unknown_file ≡ true = unfold is_origin in refl in
      let o : all is_origin (origins_in c) ≡ true = rw origins_are (all_append is_origin (origins_in contents) unknown_file holds.are_origins unknown) in
      and_both (and_both (and_both (and_both (and_both l n) u) p) k) o

-- ---- The call

-- what an accepted addition is
record Adds (contents bodies text : List ℕ) : Type 0 where
  is_image_lem : is_image contents bodies ≡ true
  entry : Entry
  one : entries_added text ≡ entry ∷ []
  fits : Fits contents entry
  done : adding contents bodies text ≡ appended entry contents bodies

-- or it is refused, and both buffers are as lent
abbrev Leaves : List ℕ → List ℕ → Addition → Type 0
Leaves contents bodies a = (k : ℕ) × (a ≡ addition (refused k) contents bodies)

-- the parts of an added entry are legal and end in a name
added_legal : (text : List ℕ) → all (λ e. all is_legal e.parts && ends_in_name e.parts) (entries_added text) ≡ true
unfolding entries_added is_legal_line
added_legal text = events_of_all_good _ is_legal_line (λ e. refl) lines_legal default_depth (files_of (archive_of [])) (text ∷ [])

module _ (contents bodies : List ℕ) where
  abbrev so_far : Totals
  so_far = record { opens = 0; entries = count_of contents; used = used_of contents }

  judged_fits : (e : Entry) (s : Totals) → is_image contents bodies ≡ true → (all is_legal e.parts && ends_in_name e.parts) ≡ true
      → judge so_far (entered [] e ∷ []) ≡ within s → Fits contents e
  unfolding entries_of total FewParts
  judged_fits e s is ok h =
      let i = image_holds contents bodies is in
      let l = (judge_limits (entered [] e ∷ []) so_far s (omega arith) i.count_most i.used_most h).1 in
      let p = and_true (all is_legal e.parts) (ends_in_name e.parts) ok in
      record {
        legal = p.0;
        named = p.1;
        few = l.parts_most.0;
        entry_room = omega (arith, l.entries_most);
        byte_room = omega (arith, l.used_most);
      }

  module _ (text : List ℕ) where
    abbrev Either : Type 0
    Either = Adds contents bodies text ⊎ Leaves contents bodies (adding contents bodies text)

    judged_either : is_image contents bodies ≡ true → (e : Entry) → entries_added text ≡ e ∷ []
        → (v : Verdict) → judge so_far (entered [] e ∷ []) ≡ v → adding contents bodies text ≡ judged v e contents bodies → Either
    unfolding judged all
    judged_either is e one (within s) h g =
        let legal = (and_true (all is_legal e.parts && ends_in_name e.parts) true (rw one at (added_legal text))).0 in
        inl (record { is_image_lem = is; entry = e; one = one; fits = judged_fits e s is legal h; done = g })
    judged_either is e one (past k) h g = inr (k, g)

    one_either : is_image contents bodies ≡ true → (es : List Entry) → entries_added text ≡ es → adding contents bodies text ≡ added_one es contents bodies
        → Either
    unfolding added_one
    one_either is [] one g = inr (12, g)
    one_either is (e ∷ []) one g = judged_either is e one (judge so_far (entered [] e ∷ [])) refl g
    one_either is (e ∷ f ∷ es) one g = inr (12, g)

    adding_either : Either
    unfolding adding
    adding_either = at (is_image contents bodies) refl (too_long text) refl
      where
        at : (a : Bool) → is_image contents bodies ≡ a → (b : Bool) → too_long text ≡ b → Either
        at false e b t = inr (8, rw e refl)
        at true e true t = inr (2, rw (e, t) refl)
        at true e false t = one_either e (entries_added text) refl (rw (e, t) refl)

given_not_refused : {A : Type 0} {i : A} {k : ℕ} → given i ≡ refused k → ⊥
given_not_refused e = let z : ◌≡◌ {A = ℕ} 0 1 = cc in omega arith

accepted_adds : (contents bodies text : List ℕ) (i : ℕ) → (adding contents bodies text).answer ≡ given i → Adds contents bodies text
accepted_adds contents bodies text i h =
    ⊎_elim (λ a. a) (λ l. absurd (given_not_refused (sym h ∙ ap (λ (x : Addition). x.answer) l.1))) (adding_either contents bodies text)

pub addition_holds : AdditionHolds
unfolding appended
addition_holds contents bodies text i h =
    let d = accepted_adds contents bodies text i h in
    let e = d.entry in
    let n : given i ≡ given (count_of contents) = sym h ∙ ap (λ (x : Addition). x.answer) d.done in
    let k : i ≡ count_of contents = cc in (
      rw d.one refl,
      k ∙ sym (image_sizes contents bodies d.is_image_lem).0,
      rw d.done (appended_image contents bodies d.is_image_lem e d.fits),
      rw (d.done, d.one) (entries_are contents bodies d.is_image_lem e d.fits),
    )

-- where nothing is added, both buffers are as lent
pub adding_refused : (contents bodies text : List ℕ) → ((i : ℕ) → (adding contents bodies text).answer ≡ given i → ⊥)
    → ((adding contents bodies text).contents ≡ contents) × ((adding contents bodies text).bodies ≡ bodies)
unfolding appended
adding_refused contents bodies text f =
    ⊎_elim (λ d. absurd (f (count_of contents) (ap (λ (x : Addition). x.answer) d.done)))
    (λ l. (ap (λ (x : Addition). x.contents) l.1, ap (λ (x : Addition). x.bodies) l.1))
    (adding_either contents bodies text)

-- an accepted addition answers within the limits, and no addition changes a length
pub adding_small : (contents bodies text : List ℕ) (i : ℕ) → (adding contents bodies text).answer ≡ given i → i < most_entries
adding_small contents bodies text i h =
    let d = accepted_adds contents bodies text i h in
    omega (arith, (addition_holds contents bodies text i h).1, (image_sizes contents bodies d.is_image_lem).0, d.fits.entry_room)

pub adding_lengths : (contents bodies text : List ℕ)
    → (length (adding contents bodies text).contents ≡ length contents) × (length (adding contents bodies text).bodies ≡ length bodies)
adding_lengths contents bodies text =
    ⊎_elim
    (λ d. rw d.done (contents_length contents bodies d.is_image_lem d.entry d.fits, bodies_length contents bodies d.is_image_lem d.entry d.fits))
    (λ l. rw l.1 (refl, refl))
    (adding_either contents bodies text)

-- an image stays one, with what it held at the front
adding_keeps : (contents bodies text : List ℕ) → is_image contents bodies ≡ true
    → let a = adding contents bodies text in
    (is_image a.contents a.bodies ≡ true)
    × ((more : List Entry) × (entries_of_image a.contents a.bodies ≡ entries_of_image contents bodies ++ more))
unfolding appended
adding_keeps contents bodies text is =
    ⊎_elim
    (λ d. let h = addition_holds contents bodies text (count_of contents) (ap (λ (x : Addition). x.answer) d.done) in (h.2, (entries_added text, h.3)))
    (λ l. rw l.1 (is, ([], sym (append-nil (entries_of_image contents bodies)))))
    (adding_either contents bodies text)

-- ---- A walk with additions under way

module _ {A : Type 0} (n : ℕ) (xs : List A) where
  take_more : take (suc n) xs ≡ take n xs ++ take 1 (drop n xs)
  take_more = ap (λ (m : ℕ). take m xs) (sym (add-one n)) ∙ take-add n 1 xs

  drop_more : drop (suc n) xs ≡ drop 1 (drop n xs)
  drop_more = ap (λ (m : ℕ). drop m xs) (sym (add-one n)) ∙ sym (drop-drop 1 n xs)

-- no number of the table
abbrev pub Asked : Query → Type 0
Asked q = (k : ℕ) → q ≡ past_limit k → ⊥

-- a step looks at the entries below the start's count, whatever stands behind them
pub step_gives : (q : Query) (es more : List Entry) (w : Walk) → Asked q → w.count ≡ length es
    → stepped w (es ++ more) q ≡ number_or (first_of (numbers_from w.next q (drop w.next es)))
unfolding stepped next_of numbers_from first_of number_or
step_gives (positions qs) es more w f c = rw (take_at es more w.count (sym c)) refl
step_gives malformed es more w f c = refl
step_gives (past_limit k) es more w f c = absurd (f k refl)

-- behind a number that a step gave, the rest are numbered from the one above it
pub numbers_rest : (q : Query) (es : List Entry) (n k : ℕ) (ks : List ℕ) → numbers_from n q (drop n es) ≡ k ∷ ks → numbers_from (suc k) q (drop (suc k) es) ≡ ks
unfolding numbers_from
numbers_rest (positions qs) es n k ks h = aligned_rest qs es n k ks h
numbers_rest malformed es n k ks h = let z : ◌≡◌ {A = ℕ} 0 1 = cc in absurd (omega arith)
numbers_rest (past_limit j) es n k ks h = let z : ◌≡◌ {A = ℕ} 0 1 = cc in absurd (omega arith)

module _ (name class : List ℕ) (es : List Entry) (asked : Asked (query_of name class)) where
  abbrev q : Query
  q = query_of name class

  -- after n steps: the first n numbers are listed, and the others are left
  record Kept (n : ℕ) (h : History) : Type 0 where
    is_image_lem : is_image h.contents h.bodies ≡ true
    more : List Entry
    held : entries_of_image h.contents h.bodies ≡ es ++ more
    count : h.walk.count ≡ length es
    listed : h.listed ≡ take n (numbers_of q es)
    left : numbers_from h.walk.next q (drop h.walk.next es) ≡ drop n (numbers_of q es)

  kept_gives : (n : ℕ) (h : History) → Kept n h
      → walk_step h.contents h.bodies name class h.walk ≡ number_or (first_of (drop n (numbers_of q es)))
  unfolding walk_step_by
  kept_gives n h k =
      rw (k.is_image_lem, k.held) (step_gives q es k.more h.walk asked k.count ∙ ap (λ (l : List ℕ). number_or (first_of l)) k.left)

  step_keeps : (n : ℕ) (h : History) → Kept n h → Kept (suc n) (turned name class step h)
  unfolding turned first_of number_or after_step listed_after
  step_keeps n h k = at (drop n (numbers_of q es)) refl (kept_gives n h k)
    where
      taken : (l : List ℕ) → drop n (numbers_of q es) ≡ l → take (suc n) (numbers_of q es) ≡ take n (numbers_of q es) ++ take 1 l
      taken l e = take_more n (numbers_of q es) ∙ ap (λ (x : List ℕ). take n (numbers_of q es) ++ take 1 x) e

      dropped : (l : List ℕ) → drop n (numbers_of q es) ≡ l → drop (suc n) (numbers_of q es) ≡ drop 1 l
      dropped l e = drop_more n (numbers_of q es) ∙ ap (drop 1) e

      at : (l : List ℕ) → drop n (numbers_of q es) ≡ l → walk_step h.contents h.bodies name class h.walk ≡ number_or (first_of l)
          → Kept (suc n) (turned name class step h)
      at [] e g = rw g (record {
        is_image_lem = k.is_image_lem;
        more = k.more;
        held = k.held;
        count = k.count;
        listed = k.listed ∙ sym (append-nil (take n (numbers_of q es))) ∙ sym (taken [] e);
        left = k.left ∙ e ∙ sym (dropped [] e);
      })
      at (i ∷ is) e g = rw g (record {
        is_image_lem = k.is_image_lem;
        more = k.more;
        held = k.held;
        count = k.count;
        listed = ap (λ (l : List ℕ). l ++ i ∷ []) k.listed ∙ sym (taken (i ∷ is) e);
        left = numbers_rest q es h.walk.next i is (k.left ∙ e) ∙ sym (dropped (i ∷ is) e);
      })

  add_keeps : (t : List ℕ) (n : ℕ) (h : History) → Kept n h → Kept n (turned name class (add t) h)
  unfolding turned
  add_keeps t n h k =
      let a = adding_keeps h.contents h.bodies t k.is_image_lem in
      record {
        is_image_lem = a.0;
        more = k.more ++ a.1.0;
        held = a.1.1 ∙ ap (λ (l : List Entry). l ++ a.1.0) k.held ∙ append_assoc es k.more a.1.0;
        count = k.count;
        listed = k.listed;
        left = k.left;
      }

  turns_keep : (ts : List Turn) (n : ℕ) (h : History) → Kept n h → Kept (n + steps_in ts) (played name class ts h)
  unfolding played steps_in
  turns_keep [] n h k = let e : n + 0 ≡ n = omega arith in rw e k
  turns_keep (step ∷ ts) n h k =
      let e : n + suc (steps_in ts) ≡ suc n + steps_in ts = omega arith in
      rw e (turns_keep ts (suc n) (turned name class step h) (step_keeps n h k))
  turns_keep (add t ∷ ts) n h k = turns_keep ts n (turned name class (add t) h) (add_keeps t n h k)

-- what a start that is not refused gives
pub record Starts (contents bodies name class : List ℕ) (w : Walk) : Type 0 where
  pub is_image_lem : is_image contents bodies ≡ true
  pub asked : Asked (query_of name class)
  pub begins : w ≡ walk 0 (count_of contents)

pub starts : (contents bodies name class : List ℕ) (w : Walk) → walk_start contents bodies name class ≡ given w → Starts contents bodies name class w
unfolding walk_start_by begun
starts contents bodies name class w h = at (is_image contents bodies) refl h
  where
    at₂ : is_image contents bodies ≡ true → (q : Query) → query_of name class ≡ q → begun (count_of contents) q ≡ given w → Starts contents bodies name class w
    at₂ e (positions qs) f g = record {
      is_image_lem = e;
      asked = λ k p. let z : ◌≡◌ {A = ℕ} 0 1 = cc in omega arith;
      begins = let b : walk 0 (count_of contents) ≡ w = cc in sym b;
    }
    at₂ e malformed f g = record {
      is_image_lem = e;
      asked = λ k p. let z : ◌≡◌ {A = ℕ} 0 1 = cc in omega arith;
      begins = let b : walk 0 (count_of contents) ≡ w = cc in sym b;
    }
    at₂ e (past_limit k) f g = absurd (given_not_refused (sym g))

    at : (b : Bool) → is_image contents bodies ≡ b → (if not b then refused 8 else begun (count_of contents) (query_of name class)) ≡ given w
        → Starts contents bodies name class w
    at true e g = at₂ e (query_of name class) refl g
    at false e g = absurd (given_not_refused (sym g))

pub walk_lists : WalkLists
unfolding number_or first_of
walk_lists contents bodies name class w h turns =
    let s = starts contents bodies name class w h in
    let es = entries_of_image contents bodies in
    let n = steps_in turns in
    let begin : History = beginning contents bodies w in
    let k₀ : Kept name class es s.asked 0 begin = record {
      is_image_lem = s.is_image_lem;
      more = [];
      held = sym (append-nil es);
      count = rw s.begins (sym (image_sizes contents bodies s.is_image_lem).0);
      listed = refl;
      left = rw s.begins refl;
    } in
    let z : 0 + n ≡ n = omega arith in
    let k : Kept name class es s.asked n (played name class turns begin) = rw z at (turns_keep name class es s.asked turns 0 begin k₀) in (
      k.listed,
      λ m. kept_gives name class es s.asked n (played name class turns begin) k
          ∙ ap (λ (l : List ℕ). number_or (first_of l)) (drop_of_length-le (numbers_of (query_of name class) es) m),
    )

numbers_append : (q : Query) (xs ys : List Entry) → numbers_of q (xs ++ ys) ≡ numbers_of q xs ++ numbers_from (length xs) q ys
unfolding numbers_from
numbers_append (positions qs) xs ys =
    let e : 0 + length xs ≡ length xs = omega arith in
    aligned_append qs 0 xs ys ∙ rw e refl
numbers_append malformed xs ys = refl
numbers_append (past_limit k) xs ys = refl

pub added_shows : AddedShows
added_shows contents bodies text name class i w h s turns =
    let a = adding contents bodies text in
    let d = addition_holds contents bodies text i h in
    let q = query_of name class in
    let e : numbers_of q (entries_of_image a.contents a.bodies) ≡ numbers_of q (entries_of_image contents bodies) ++ numbers_from i q (entries_added text) =
    ap (numbers_of q) d.3 ∙ numbers_append q (entries_of_image contents bodies) (entries_added text)
    ∙ ap (λ (n : ℕ). numbers_of q (entries_of_image contents bodies) ++ numbers_from n q (entries_added text)) (sym d.1) in
    (walk_lists a.contents a.bodies name class w s turns).0 ∙ ap (take (steps_in turns)) e
