-- What is carried over is what the definition says. Assumes nothing.
use Rattle.std.specs.Prelude.{if◌then◌else◌}
use mathlib.Core.Bool.{Bool, true, false, not}
use mathlib.Core.List.{List, [], ◌∷◌, ◌++◌}
use mathlib.Core.Path.{◌≡◌, refl, sym, ap, ◌∙◌}
use Prim.Native.Nat.{ℕ, ◌+◌, ◌-◌, ◌≤◌, ◌<◌}
use native.Mathlib.Omega.{arith}
use lib.Dec.{eqb}
use lib.ListN.{length, take, drop, set}
use lib.Seq.{slice, slice_empty, paste, take-add, drop-drop, take-length, length-take-le}
use borrow.Author.Tests.{eqb-true, lt-ltb, le-ltb}
use Rattle.definition.specs.Lists.{all, zeroes}
use Rattle.definition.specs.Limits.{contents_words, body_bytes, old_row_words, most_entries, most_opens, unknown_file}
use Rattle.definition.specs.Text.{Entry}
use Rattle.definition.specs.Image.{key_of, Sourced, bare, all_from, rows_of, store_of, contents_of, written_over, image_contents, image_bodies, Row, count_of, used_of, rows_by, key_end, value_end, key_at, value_at, key_parts, entries_in, is_key, packed, is_origin, too_short, is_image_by}
use Rattle.definition.specs.Reading.{Outcome, outcome, accepted, refused}
use Rattle.definition.specs.Writing.{entries_by}
use Rattle.definition.specs.Adding.{over}
use Rattle.definition.specs.Migration.{carried, migrating}
use Rattle.laws.proofs.Lists.{and_true, part_slice}
use Rattle.laws.proofs.Keys.{parts_of}
use Rattle.laws.proofs.Image.{HoldsBy, holds_by, sizes_by, held_by, rows_at, rows_count, packed_most, Sources, all_from_lem, sources_long}
use Rattle.laws.proofs.Migration.{rows_again}
use Rattle.image.specs.Rows.{row_start_by, row_start}
use Rattle.image.specs.Running.{Room, closed_words, closed_bytes}
use Rattle.image.specs.declared.Totals.{Totals}
use Rattle.image.proofs.Images.{zeroed, headed}
use Rattle.reader.proofs.Finishing.{over_front}
use Rattle.migration.specs.Carrying.{words_of, with_rows}
use Rattle.migration.proofs.Carrying.{words_long}

-- ---- The bytes

slice_join : (a b c : ℕ) (l : List ℕ) → a ≤ b → b ≤ c → slice a b l ++ slice b c l ≡ slice a c l
slice_join a b c l h k =
    let n : b - a + (c - b) ≡ c - a = omega arith in
    let m : a + (b - a) ≡ b = omega arith in
    sym (
    sym (part_slice l a c)
    ∙ ap (λ (x : ℕ). take x (drop a l)) (sym n)
    ∙ take-add (b - a) (c - b) (drop a l)
    ∙ (λ i. part_slice l a b i ++ take (c - b) (drop-drop (b - a) a l i))
    ∙ ap (λ (x : ℕ). slice a b l ++ take (c - b) (drop x l)) m
    ∙ ap (λ (x : List ℕ). slice a b l ++ x) (part_slice l b c)
    )

-- the bytes that an image's entries make are those that they were read from
store_again : (at : ℕ) (rows : List Row) (used : ℕ) (bodies : List ℕ) → packed at rows used ≡ true → all (λ r. is_key (key_at bodies r)) rows ≡ true
    → store_of (entries_in rows bodies) ≡ slice at used bodies
unfolding packed entries_in all store_of
store_again at [] used bodies p h = let e : at ≡ used = eqb-true at used p in sym (rw e (slice_empty used bodies))
store_again at (r ∷ rows) used bodies p h =
    let a = and_true (is_key (key_at bodies r)) (all (λ r. is_key (key_at bodies r)) rows) h in
    let q = and_true (eqb r.start at) (packed (value_end r) rows used) p in
    let s : r.start ≡ at = eqb-true r.start at q.0 in
    let k : key_of (key_parts (key_at bodies r)) ≡ slice r.start (key_end r) bodies = (parts_of (key_at bodies r) a.0).written in
    let ih = store_again (value_end r) rows used bodies q.1 a.1 in
    let most = packed_most (value_end r) rows used q.1 in
    (λ i. k i ++ value_at bodies r ++ ih i)
    ∙ ap (λ (l : List ℕ). l ++ slice (value_end r) used bodies) (slice_join r.start (key_end r) (value_end r) bodies (omega arith) (omega arith))
    ∙ slice_join r.start (value_end r) used bodies (omega arith) most
    ∙ ap (λ (n : ℕ). slice n used bodies) s

-- ---- The rows

rows_words : (at : ℕ) (es : List Entry) → words_of (rows_at at es) ≡ rows_of at (all_from unknown_file es)
unfolding words_of rows_at rows_of
rows_words at [] = refl
rows_words at (e ∷ es) = rw (rows_words (at + length (key_of e.parts) + length e.value) es) refl

-- ---- The buffers

module _ (old old_bytes words store : List ℕ) (is : is_image_by old_row_words old old_bytes ≡ true) (hw : length words ≡ contents_words) (hs : length store ≡ body_bytes) where
  abbrev es : List Entry
  es = entries_by old_row_words old old_bytes

  abbrev xs : List Sourced
  xs = all_from unknown_file es

  abbrev rows : List Row
  rows = rows_by old_row_words old

  holds : HoldsBy old_row_words old old_bytes
  holds = holds_by old_row_words old old_bytes is

  from : Sources xs es
  from = all_from_lem unknown_file (unfold is_origin in refl) es

  abbrev totals : Totals
  totals = record { opens = 0; entries = count_of old; used = used_of old }

  pub old_words : row_start_by old_row_words (count_of old) ≤ length old
  old_words = omega (arith, holds.contents_long, holds.count_most)

  pub new_words : row_start (count_of old) ≤ length words
  new_words = omega (arith, hw, holds.count_most)

  pub old_bytes_lem : used_of old ≤ length old_bytes
  old_bytes_lem = omega (arith, holds.used_most, holds.bodies_long)

  pub fits_bytes : 0 + length (take (used_of old) old_bytes) ≤ length store
  fits_bytes = omega (arith, length-take-le (used_of old) old_bytes old_bytes_lem, holds.used_most, hs)

  pub first_words : 2 ≤ length old
  first_words = omega (arith, holds.contents_long)

  pub room_carried : {c b : List ℕ} → length c ≡ length words → length b ≡ length store → Room totals c b
  room_carried e f = record {
    opens_most = omega arith;
    entries_most = holds.count_most;
    used_most = holds.used_most;
    words_long = e ∙ hw;
    bytes_long = f ∙ hs;
  }

  words_are : words_of rows ≡ rows_of 0 xs
  words_are =
      sym (ap words_of (rows_again 0 rows (used_of old) old_bytes holds.is_packed old_bytes_lem holds.are_keys)) ∙ rows_words 0 es

  count_is : length xs ≡ count_of old
  count_is = sources_long from ∙ (sizes_by old_row_words old old_bytes is).0

  bytes_are : store_of es ≡ take (used_of old) old_bytes
  bytes_are = store_again 0 rows (used_of old) old_bytes holds.is_packed holds.are_keys

  used_is : length (store_of es) ≡ used_of old
  used_is = (sizes_by old_row_words old old_bytes is).1

  contents_are : count_of old ∷ used_of old ∷ words_of rows ≡ contents_of xs
  unfolding contents_of
  contents_are =
      let used : used_of old ≡ length (store_of (bare xs)) = sym used_is ∙ ap (λ (l : List Entry). length (store_of l)) (sym from.entries) in
      λ i. sym count_is i ∷ used i ∷ words_are i

  words_carried : {c : List ℕ} → c ≡ with_rows (count_of old) old words → length c ≡ length words → closed_words totals c ≡ image_contents xs words
  unfolding with_rows over
  words_carried {c} e long =
      let rest = drop (2 + length (words_of rows)) words in
      let n : length (count_of old ∷ used_of old ∷ words_of rows) ≡ row_start (count_of old) =
      omega (arith, words_long rows, rows_count old_row_words (count_of old) (drop 2 old)) in
      let l : length c ≡ contents_words = long ∙ hw in
      rw l
      (ap (λ (w : List ℕ). take (row_start (count_of old)) (set (set w 0 (count_of old)) 1 (used_of old)) ++ zeroes (contents_words - row_start (count_of old))) e
      ∙ rw (headed words (words_of rows) rest (count_of old) (used_of old) (omega (arith, hw)))
      (zeroed contents_words (row_start (count_of old)) words (count_of old ∷ used_of old ∷ words_of rows) rest hw n
      ∙ ap (written_over contents_words words) contents_are))

  bytes_carried : {b : List ℕ} → b ≡ paste store 0 (take (used_of old) old_bytes) (length (take (used_of old) old_bytes)) → length b ≡ length store
      → closed_bytes totals b ≡ image_bodies es store
  bytes_carried {b} e long =
      let src = take (used_of old) old_bytes in
      let n : length src ≡ used_of old = length-take-le (used_of old) old_bytes old_bytes_lem in
      let l : length b ≡ body_bytes = long ∙ hs in
      rw l
      (ap (λ (x : List ℕ). take (used_of old) x ++ zeroes (body_bytes - used_of old)) (e ∙ rw (take-length src) refl)
      ∙ zeroed body_bytes (used_of old) store src (drop (0 + length src) store) hs n
      ∙ ap (written_over body_bytes store) (sym bytes_are))

  -- what `carry` leaves
  pub carries : {c b c' b' : List ℕ} → c ≡ with_rows (count_of old) old words → length c ≡ length words
      → b ≡ paste store 0 (take (used_of old) old_bytes) (length (take (used_of old) old_bytes)) → length b ≡ length store
      → c' ≡ closed_words totals c → b' ≡ closed_bytes totals b
      → outcome (accepted (count_of old) 0) c' b' ≡ carried es words store
  unfolding carried
  carries e le f lf g h =
      let n : count_of old ≡ length es = sym (sizes_by old_row_words old old_bytes is).0 in
      λ i. outcome (accepted (n i) 0) ((g ∙ words_carried e le) i) ((h ∙ bytes_carried f lf) i)

-- ---- The call

module _ (old old_bytes c b : List ℕ) where
  pub not_old : is_image_by old_row_words old old_bytes ≡ false → outcome (refused 8) c b ≡ migrating old old_bytes c b
  unfolding migrating
  not_old h = rw h refl

  module _ (is : is_image_by old_row_words old old_bytes ≡ true) where
    pub short_contents : length c < contents_words → outcome (refused 1) c b ≡ migrating old old_bytes c b
    unfolding migrating
    short_contents h = rw (is, lt-ltb (length c) contents_words h) refl

    module _ (hc : contents_words ≤ length c) where
      pub short_bodies : length b < body_bytes → outcome (refused 1) c b ≡ migrating old old_bytes c b
      unfolding migrating
      short_bodies h = rw (is, le-ltb (length c) contents_words hc, lt-ltb (length b) body_bytes h) refl

      module _ (hb : body_bytes ≤ length b) where
        abbrev entries : List Entry
        entries = entries_by old_row_words old old_bytes

        -- carrying over into the fronts of the buffers is then the migration
        pub fronts : {n : ℕ} {c' b' : List ℕ} → outcome (accepted n 0) c' b' ≡ carried entries (take contents_words c) (take body_bytes b)
            → outcome (accepted n 0) (c' ++ drop contents_words c) (b' ++ drop body_bytes b) ≡ migrating old old_bytes c b
        unfolding migrating carried
        fronts e =
            (λ i. outcome (e i).answer ((e i).contents ++ drop contents_words c) ((e i).bodies ++ drop body_bytes b))
            ∙ (λ i. outcome (accepted (length entries) 0) (over_front contents_words c (contents_of (all_from unknown_file entries)) i) (over_front body_bytes b (store_of entries) i))
            ∙ sym (rw (is, le-ltb (length c) contents_words hc, le-ltb (length b) body_bytes hb) refl)

-- ---- What a caller learns

not_accepted : {n o k : ℕ} {c b c' b' : List ℕ} → outcome (accepted n o) c' b' ≡ outcome (refused k) c b → ⊥
not_accepted {n} {o} {k} e =
    let f : accepted n o ≡ refused k = ap (λ (x : Outcome). x.answer) e in
    let z : ◌≡◌ {A = ℕ} 0 1 = cc in
    omega arith

-- an accepted migration answers within the limits
pub migrated_small : (old old_bytes c b c' b' : List ℕ) (n o : ℕ) → outcome (accepted n o) c' b' ≡ migrating old old_bytes c b → (n ≤ most_entries) × (o ≤ most_opens)
unfolding migrating carried
migrated_small old old_bytes c b c' b' n o e = at (is_image_by old_row_words old old_bytes) refl (too_short c b) e
  where
    at : (x : Bool) → is_image_by old_row_words old old_bytes ≡ x → (y : Bool)
        → outcome (accepted n o) c' b'
        ≡ (if not x then outcome (refused 8) c b else if y then outcome (refused 1) c b else carried (entries_by old_row_words old old_bytes) c b)
        → (n ≤ most_entries) × (o ≤ most_opens)
    at false is y g = absurd (not_accepted g)
    at true is true g = absurd (not_accepted g)
    at true is false g =
        unfold carried in
        let f : accepted n o ≡ accepted (length (entries_by old_row_words old old_bytes)) 0 = ap (λ (x : Outcome). x.answer) g in
        let p : n ≡ length (entries_by old_row_words old old_bytes) = cc in
        let q : o ≡ 0 = cc in
        (omega (arith, p, (held_by old_row_words old old_bytes is).few), omega (arith, q))
