-- Document 02 (viii): an old image carried over is an image, and answers as the old one does by the old judging. Assumes nothing.
use Rattle.std.specs.Prelude.{if◌then◌else◌}
use mathlib.Core.Bool.{Bool, true, false, ◌&&◌, not}
use mathlib.Core.List.{List, [], ◌∷◌}
use mathlib.Core.Option.{Option, some, none}
use mathlib.Core.Path.{◌≡◌, refl, sym, ap, ◌∙◌}
use Prim.Native.Nat.{ℕ, ◌+◌, ◌≤◌}
use native.Mathlib.Omega.{arith}
use lib.Dec.{eqb}
use lib.ListN.{length}
use lib.Seq.{length-slice}
use borrow.Author.Tests.{eqb-true}
use Rattle.definition.specs.Lists.{all}
use Rattle.definition.specs.Limits.{row_words, old_row_words, unknown_file}
use Rattle.definition.specs.Text.{Entry}
use Rattle.definition.specs.Image.{key_of, all_from, image_contents, image_bodies, Row, count_of, used_of, rows_by, key_end, value_end, key_at, value_at, key_parts, entries_in, is_key, packed, is_origin, too_short, is_image_by}
use Rattle.definition.specs.Writing.{Filled, text_of, entries_by, put_into, writing_by}
use Rattle.definition.specs.Query.{Query, positions, malformed, past_limit, Bounds, query_within, query_of}
use Rattle.definition.specs.Ranking.{best_of}
use Rattle.definition.specs.Lookup.{keys_of, Reply, given, no_value, refused, Place, place_of, lookup, get_bytes_by, bytes_at, answer_in, answer_of}
use Rattle.definition.specs.Value.{is_utf8, replied, read_as, as_string, as_bool, as_number, bytes_or, get_string_by, get_bool_by, get_value_by, shown_by}
use Rattle.definition.specs.Walking.{Walk, begun, walk_start_by, stepped, walk_step_by}
use Rattle.definition.specs.Migration.{carried, migrating, EqualAnswers, CarriesOver}
use Rattle.laws.proofs.Lists.{and_true}
use Rattle.laws.proofs.Keys.{parts_of}
use Rattle.laws.proofs.Image.{Sources, all_from_lem, rows_at, image_rows, image_count, packed_most, holds_by, sizes_by, Held, held_by, image_is, image_entries, sources_long}
use Rattle.laws.proofs.Origins.{image_sources}
use Rattle.laws.proofs.Lookup.{lookup_answer}

-- ---- The rows that entries make are those that they were read by

pub rows_again : (at : ℕ) (rows : List Row) (used : ℕ) (bodies : List ℕ) → packed at rows used ≡ true → used ≤ length bodies
    → all (λ r. is_key (key_at bodies r)) rows ≡ true → rows_at at (entries_in rows bodies) ≡ rows
unfolding packed entries_in all rows_at
rows_again at [] used bodies p u h = refl
rows_again at (r ∷ rows) used bodies p u h =
    let a = and_true (is_key (key_at bodies r)) (all (λ r. is_key (key_at bodies r)) rows) h in
    let q = and_true (eqb r.start at) (packed (value_end r) rows used) p in
    let most = packed_most (value_end r) rows used q.1 in
    let s : at ≡ r.start = sym (eqb-true r.start at q.0) in
    let written : length (key_of (key_parts (key_at bodies r))) ≡ length (key_at bodies r) = ap length (parts_of (key_at bodies r) a.0).written in
    let k : length (key_of (key_parts (key_at bodies r))) ≡ r.key_length = omega (arith, written, length-slice r.start (key_end r) bodies (omega arith)) in
    let v : length (value_at bodies r) ≡ r.value_length = omega (arith, length-slice (key_end r) (value_end r) bodies (omega arith)) in
    let ih = rows_again (value_end r) rows used bodies q.1 u a.1 in
    let end : at + length (key_of (key_parts (key_at bodies r))) + length (value_at bodies r) ≡ value_end r = omega (arith, s, k, v) in
    (λ i. record { start = s i; key_length = k i; value_length = v i } ∷ rows_at (end i) (entries_in rows bodies))
    ∙ ap (λ (l : List Row). r ∷ l) ih

-- ---- Answers by the same rows, of the same entries

some_some : {x y : List ℕ} → some x ≡ some y → x ≡ y
some_some e = cc

-- a place that both bodies give the same answer at
module _ (bodies other : List ℕ) where
  string_alike : (r : Reply Place) → answer_in bodies r ≡ answer_in other r → as_string bodies r ≡ as_string other r
  unfolding as_string answer_in read_as
  string_alike (given p) e =
      let f : bytes_at bodies p ≡ bytes_at other p = some_some e in
      rw f refl
  string_alike no_value e = refl
  string_alike (refused k) e = refl

  bool_alike : (r : Reply Place) → answer_in bodies r ≡ answer_in other r → as_bool bodies r ≡ as_bool other r
  unfolding as_bool answer_in read_as
  bool_alike (given p) e =
      let f : bytes_at bodies p ≡ bytes_at other p = some_some e in
      rw f refl
  bool_alike no_value e = refl
  bool_alike (refused k) e = refl

  number_alike : (r : Reply Place) → answer_in bodies r ≡ answer_in other r → as_number bodies r ≡ as_number other r
  unfolding as_number answer_in read_as
  number_alike (given p) e =
      let f : bytes_at bodies p ≡ bytes_at other p = some_some e in
      rw f refl
  number_alike no_value e = refl
  number_alike (refused k) e = refl

  show_alike : (default : List ℕ) (r : Reply Place) → answer_in bodies r ≡ answer_in other r → bytes_or bodies default r ≡ bytes_or other default r
  unfolding bytes_or answer_in
  show_alike default (given p) e = some_some e
  show_alike default no_value e = refl
  show_alike default (refused k) e = refl

-- a lookup goes by the rows and the entries
lookup_alike : (rows : List Row) (bodies other : List ℕ) (q : Query) → entries_in rows bodies ≡ entries_in rows other → lookup rows bodies q ≡ lookup rows other q
unfolding lookup
lookup_alike rows bodies other (positions qs) e = ap (λ (es : List Entry). place_of rows (best_of (keys_of es) qs)) e
lookup_alike rows bodies other malformed e = refl
lookup_alike rows bodies other (past_limit k) e = refl

-- two images of the same rows and entries
pub record SameRows (v : ℕ) (contents bodies : List ℕ) (w : ℕ) (contents' bodies' : List ℕ) : Type 0 where
  pub is : is_image_by v contents bodies ≡ true
  pub is' : is_image_by w contents' bodies' ≡ true
  pub count : count_of contents ≡ count_of contents'
  pub rows : rows_by v contents ≡ rows_by w contents'
  pub entries : entries_by v contents bodies ≡ entries_by w contents' bodies'

module _ (v : ℕ) (contents bodies : List ℕ) (w : ℕ) (contents' bodies' : List ℕ) (s : SameRows v contents bodies w contents' bodies') where
  module _ (most : Bounds) (name class : List ℕ) where
    abbrev old : Reply Place
    old = get_bytes_by v most contents bodies name class

    abbrev new : Reply Place
    new = get_bytes_by w most contents' bodies' name class

    abbrev q : Query
    q = query_within most name class

    looks_old : old ≡ lookup (rows_by w contents') bodies q
    unfolding get_bytes_by
    looks_old = rw (s.is, s.rows) refl

    looks_new : new ≡ lookup (rows_by w contents') bodies' q
    unfolding get_bytes_by
    looks_new = rw s.is' refl

    entries_alike : entries_in (rows_by w contents') bodies ≡ entries_in (rows_by w contents') bodies'
    entries_alike = rw s.rows at s.entries

    bytes_alike : old ≡ new
    bytes_alike = looks_old ∙ lookup_alike (rows_by w contents') bodies bodies' q entries_alike ∙ sym looks_new

    -- and so does what stands there
    answer_alike : answer_in bodies old ≡ answer_in bodies' old
    answer_alike =
        ap (answer_in bodies) looks_old
        ∙ lookup_answer (rows_by w contents') bodies q
        ∙ ap (λ (es : List Entry). answer_of es q) entries_alike
        ∙ sym (lookup_answer (rows_by w contents') bodies' q)
        ∙ ap (answer_in bodies') (sym (bytes_alike ∙ looks_new))

    string_same : as_string bodies old ≡ as_string bodies' new
    string_same = string_alike bodies bodies' old answer_alike ∙ ap (as_string bodies') bytes_alike

    -- a string is none, or the place that was found
    string_answer : (r : Reply Place) → answer_in bodies r ≡ answer_in bodies' r → answer_in bodies (as_string bodies r) ≡ answer_in bodies' (as_string bodies r)
    unfolding as_string read_as replied answer_in
    string_answer (given p) e = at (is_utf8 (bytes_at bodies p))
      where
        at : (b : Bool) → answer_in bodies (replied (if b then some p else none)) ≡ answer_in bodies' (replied (if b then some p else none))
        at true = e
        at false = refl
    string_answer no_value e = refl
    string_answer (refused k) e = refl

  equal_answers : EqualAnswers v contents bodies w contents' bodies'
  unfolding get_string_by get_bool_by get_value_by shown_by walk_start_by walk_step_by writing_by
  equal_answers = record {
    bytes = bytes_alike;
    string = string_same;
    bool = λ most name class. bool_alike bodies bodies' (as_string bodies (old most name class)) (string_answer most name class (old most name class) (answer_alike most name class)) ∙ ap (as_bool bodies') (string_same most name class);
    value = λ most name class. number_alike bodies bodies' (as_string bodies (old most name class)) (string_answer most name class (old most name class) (answer_alike most name class)) ∙ ap (as_number bodies') (string_same most name class);
    show = λ most name class default. show_alike bodies bodies' default (old most name class) (answer_alike most name class) ∙ ap (bytes_or bodies' default) (bytes_alike most name class);
    start = λ name class. rw (s.is, s.is', s.count) refl;
    step = λ name class state. rw (s.is, s.is', s.entries) refl;
    text = λ buffer. rw (s.is, s.is', s.entries) refl;
  }

-- ---- The call

unknown : is_origin unknown_file ≡ true
unfolding is_origin
unknown = refl

module _ (oldContents oldBodies contents bodies : List ℕ) (is : is_image_by old_row_words oldContents oldBodies ≡ true) (long : too_short contents bodies ≡ false) where
  abbrev es : List Entry
  es = entries_by old_row_words oldContents oldBodies

  -- what the call leaves
  pub carries : migrating oldContents oldBodies contents bodies ≡ carried es contents bodies
  unfolding migrating
  carries = rw (is, long) refl

  from : Sources (all_from unknown_file es) es
  from = all_from_lem unknown_file unknown es

  held : Held es
  held = held_by old_row_words oldContents oldBodies is

  abbrev c : List ℕ
  c = image_contents (all_from unknown_file es) contents

  abbrev b : List ℕ
  b = image_bodies es bodies

  same_rows : SameRows old_row_words oldContents oldBodies row_words c b
  same_rows =
      let i = holds_by old_row_words oldContents oldBodies is in
      let n : length (all_from unknown_file es) ≡ count_of oldContents = sources_long from ∙ (sizes_by old_row_words oldContents oldBodies is).0 in
      let again = rows_again 0 (rows_by old_row_words oldContents) (used_of oldContents) oldBodies i.is_packed (omega (arith, i.used_most, i.bodies_long)) i.are_keys in
      record {
        is = is;
        is' = image_is (all_from unknown_file es) es contents bodies from held.fit held.few held.small long;
        count = sym (image_count (all_from unknown_file es) contents ∙ n);
        rows = sym (image_rows (all_from unknown_file es) contents ∙ ap (rows_at 0) from.entries ∙ again);
        entries = sym (image_entries (all_from unknown_file es) es contents bodies from held.fit held.few held.small long);
      }

pub carries_over : CarriesOver
unfolding carried
carries_over oldContents oldBodies contents bodies is long =
    let s = same_rows oldContents oldBodies contents bodies is long in
    let h = held oldContents oldBodies contents bodies is long in
    let from = from oldContents oldBodies contents bodies is long in
    rw (carries oldContents oldBodies contents bodies is long)
    (s.is', image_sources _ _ contents bodies from h.fit h.few h.small long, equal_answers old_row_words oldContents oldBodies row_words (c oldContents oldBodies contents bodies is long) (b oldContents oldBodies contents bodies is long) s)
