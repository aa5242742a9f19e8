-- An entry behind those of an image: what the code has written, and its tests. Assumes nothing.
use Rattle.std.specs.Prelude.{if◌then◌else◌, Some, None}
use Rattle.std.specs.Prelude.{Option as Answer}
use mathlib.Core.Bool.{Bool, true, false}
use mathlib.Core.List.{List, [], ◌∷◌, ◌++◌}
use mathlib.Core.Option.{some, none}
use mathlib.Core.Path.{◌≡◌, refl, sym, ap, ◌∙◌}
use Prim.Native.Nat.{ℕ, suc, ◌+◌, ◌-◌, ◌≤◌, ◌<◌}
use native.Mathlib.Nat.{min-eq_left}
use native.Mathlib.Omega.{arith}
use lib.Dec.{leb, ltb}
use lib.ListN.{length, take, drop, set}
use lib.Seq.{paste, sets-eq}
use borrow.Author.Tests.{lt-ltb, le-ltb, le-leb, lt-leb, ltb-false, leb-false}
use Rattle.definition.specs.Limits.{most_entries, most_parts, body_bytes, text_bytes, unknown_file}
use Rattle.definition.specs.Text.{Entry, after_blanks}
use Rattle.definition.specs.Image.{key_of, all_from, rows_of, count_of, used_of, is_image}
use Rattle.definition.specs.Reading.{Totals, Verdict, within, past, size_of, judge}
use Rattle.definition.specs.Lookup.{given, refused}
use Rattle.definition.specs.Adding.{Addition, addition, entries_added, over, appended, judged, added_one, adding}
use Rattle.laws.proofs.Lists.{paste_append}
use Rattle.laws.proofs.Image.{image_holds}
use Rattle.laws.proofs.Adding.{over_paste}
use Rattle.image.specs.Rows.{row_start, with_row}
use Rattle.components.specs.Parts.{parts_of}
use Rattle.values.specs.Decoded.{decoded_at, Decoded}
use Rattle.values.specs.declared.Stored.{Stored}
use Rattle.parser.specs.Putting.{entry_from}
use Rattle.parser.proofs.Entries.{value_is}
use Rattle.lines.specs.declared.Resource.{Resource}
use Rattle.refusal.specs.declared.Refusal.{Refusal}
use Rattle.refusal.specs.declared.Refusal.TheVariants.{ManyParts, ManyEntries, FullBodies}
use Rattle.refusal.specs.Numbers.{number}
use Rattle.adding.specs.Only.{Counted, only_of}
use Rattle.adding.specs.Appending.{refusal_of, Fitting}

-- ---- The limits

module _ (count size len entries used : ℕ) where
  pub many_parts : most_parts < count → Some ManyParts ≡ refusal_of count size len entries used
  unfolding refusal_of
  many_parts h = rw (lt-ltb most_parts count h) refl

  module _ (few : count ≤ most_parts) where
    pub many_entries : most_entries ≤ entries → Some ManyEntries ≡ refusal_of count size len entries used
    unfolding refusal_of
    many_entries h = rw (le-ltb most_parts count few, le-leb most_entries entries h) refl

    module _ (room : entries < most_entries) where
      pub many_bytes : body_bytes < used + (size + len) → Some FullBodies ≡ refusal_of count size len entries used
      unfolding refusal_of
      many_bytes h = rw (le-ltb most_parts count few, lt-leb most_entries entries room, lt-ltb body_bytes (used + (size + len)) h) refl

      pub none_past : used + (size + len) ≤ body_bytes → None ≡ refusal_of count size len entries used
      unfolding refusal_of
      none_past h = rw (le-ltb most_parts count few, lt-leb most_entries entries room, le-ltb body_bytes (used + (size + len)) h) refl

-- ---- What is written

module _ {t u : List ℕ} {size : ℕ} {verbatim : Bool} {len entries used : ℕ} {c b : List ℕ} (f : Fitting t u size verbatim len entries used c b) where
  abbrev written : Entry
  written = record { parts = parts_of t; value = decoded_at u }

  -- the row
  row_written : {c₁ : List ℕ} → c₁ ≡ with_row c entries (record { start = used; key_length = size; value_length = len }) unknown_file
      → c₁ ≡ over (row_start entries) (rows_of used (all_from unknown_file (written ∷ []))) c
  unfolding over rows_of
  row_written g =
      let h : row_start entries + 4 ≤ length c = omega (arith, f.entry_room, f.contents_long) in
      let one : row_start entries + 1 ≡ suc (row_start entries) = omega arith in
      let two : row_start entries + 2 ≡ suc (suc (row_start entries)) = omega arith in
      let three : row_start entries + 3 ≡ suc (suc (suc (row_start entries))) = omega arith in
      g ∙ rw (one, two, three, f.key, f.value) (sets-eq (used ∷ length (key_of (parts_of t)) ∷ length (decoded_at u) ∷ unknown_file ∷ []) c (row_start entries) h)

  -- the value behind the key
  bytes_written : {b₁ b₂ : List ℕ} {r : Answer Stored} → b₁ ≡ paste b used (key_of (parts_of t)) (length (key_of (parts_of t))) → length b₁ ≡ length b
      → Decoded u b₁ (used + size) b₂ r → b₂ ≡ over used (key_of (parts_of t) ++ decoded_at u) b
  bytes_written {b₁} {b₂} g l d =
      let m : length (decoded_at u) ≤ length b₁ - (used + size) = omega (arith, l, f.value, f.byte_room, f.bodies_long) in
      let k : used + length (key_of (parts_of t)) ≤ length b = omega (arith, f.key, f.byte_room, f.bodies_long) in
      d.stored
      ∙ ap (paste b₁ (used + size) (decoded_at u)) (min-eq_left m)
      ∙ rw (g, f.key) refl
      ∙ sym (paste_append b used (key_of (parts_of t)) (decoded_at u) k)
      ∙ over_paste used (key_of (parts_of t) ++ decoded_at u) b

  pub appended_is : {b₁ b₂ c₁ c₂ : List ℕ} {r : Answer Stored} → b₁ ≡ paste b used (key_of (parts_of t)) (length (key_of (parts_of t))) → length b₁ ≡ length b
      → Decoded u b₁ (used + size) b₂ r
      → c₁ ≡ with_row c entries (record { start = used; key_length = size; value_length = len }) unknown_file → length c₁ ≡ length c
      → c₂ ≡ set (set c₁ 0 (entries + 1)) 1 (used + size + len)
      → addition (given (count_of c)) c₂ b₂ ≡ appended written c b
  unfolding appended over
  appended_is {b₁} {b₂} {c₁} {c₂} g l d row long w =
      let words : c₂ ≡ over 0 ((count_of c + 1) ∷ (used_of c + size_of written) ∷ []) c₁ =
      let end : used + size + len ≡ used_of c + size_of written = omega (arith, f.bytes, f.key, f.value) in
      let number : entries + 1 ≡ count_of c + 1 = omega (arith, f.count) in
      w ∙ rw (end, number) (sets-eq ((count_of c + 1) ∷ (used_of c + size_of written) ∷ []) c₁ 0 (omega (arith, long, f.contents_long))) in
      let rows : c₁ ≡ over (row_start (count_of c)) (rows_of (used_of c) (all_from unknown_file (written ∷ []))) c = rw (f.count, f.bytes) at (row_written row) in
      let bytes : b₂ ≡ over (used_of c) (key_of (parts_of t) ++ decoded_at u) b = rw f.bytes at (bytes_written g l d) in
      λ i. addition (given (count_of c)) ((words ∙ ap (over 0 ((count_of c + 1) ∷ (used_of c + size_of written) ∷ [])) rows) i) (bytes i)

-- ---- What the tests say

-- the refusal by the tests, and what is then added
module _ (en : Entry) (c b : List ℕ) (s : Totals) where
  abbrev verdict : Bool → Bool → Bool → Verdict
  verdict x y z = if x then past 5 else if y then past 6 else if z then past 7 else within s

  abbrev refusal : Bool → Bool → Bool → Answer Refusal
  refusal x y z = if x then Some ManyParts else if y then Some ManyEntries else if z then Some FullBodies else None

  judged_past : (x y z : Bool) (k : Refusal) → Some k ≡ refusal x y z → addition (refused (number k)) c b ≡ judged (verdict x y z) en c b
  unfolding judged
  judged_past true y z k e = let f : k ≡ ManyParts = cc in rw f refl
  judged_past false true z k e = let f : k ≡ ManyEntries = cc in rw f refl
  judged_past false false true k e = let f : k ≡ FullBodies = cc in rw f refl
  judged_past false false false k e = absurd (cc)

  judged_none : (x y z : Bool) → None ≡ refusal x y z → judged (verdict x y z) en c b ≡ appended en c b
  unfolding judged
  judged_none true y z e = absurd (cc)
  judged_none false true z e = absurd (cc)
  judged_none false false true e = absurd (cc)
  judged_none false false false e = refl

-- an entry that passes them fits
passes : (count size len entries used : ℕ) → None ≡ refusal_of count size len entries used → (entries < most_entries) × (used + (size + len) ≤ body_bytes)
unfolding refusal_of
passes count size len entries used h = at (ltb most_parts count) (leb most_entries entries) refl (ltb body_bytes (used + (size + len))) refl h
  where
    at : (x y : Bool) → leb most_entries entries ≡ y → (z : Bool) → ltb body_bytes (used + (size + len)) ≡ z
        → ◌≡◌ {A = Answer Refusal} None (if x then Some ManyParts else if y then Some ManyEntries else if z then Some FullBodies else None) → (entries < most_entries) × (used + (size + len) ≤ body_bytes)
    at true y f z g h = absurd (cc)
    at false true f z g h = absurd (cc)
    at false false f true g h = absurd (cc)
    at false false f false g h = (leb-false most_entries entries f, ltb-false body_bytes (used + (size + len)) g)

-- ---- The entry of a line, behind those of an image

module _ {t : List ℕ} {r : Resource} (k : Counted t r) (c b : List ℕ) (is : is_image c b ≡ true)
    {u : List ℕ} (text : u ≡ after_blanks (take (length t - r.value) (drop r.value t))) {len : ℕ} (long : len ≡ length (decoded_at u))
    {n : Answer Refusal} (says : n ≡ refusal_of r.count r.size len (count_of c) (used_of c)) where
  abbrev en : Entry
  en = entry_from t r.value

  -- the tests of the definition, and the totals behind them
  abbrev many : Bool
  many = ltb most_parts (length en.parts)

  abbrev full : Bool
  full = leb most_entries (count_of c)

  abbrev long_store : Bool
  long_store = ltb body_bytes (used_of c + size_of en)

  abbrev after : Totals
  after = record { opens = 0; entries = count_of c + 1; used = used_of c + size_of en }

  value_here : decoded_at u ≡ en.value
  value_here = value_is t r.value k.inside u text

  says_of : n ≡ refusal_of (length en.parts) (length (key_of en.parts)) (length en.value) (count_of c) (used_of c)
  says_of =
      let l : len ≡ length en.value = long ∙ ap length value_here in
      says ∙ rw (k.parts, k.key, l) refl

  pub entry_refused : {refusal : Refusal} → n ≡ Some refusal → addition (refused (number refusal)) c b ≡ added_one (en ∷ []) c b
  unfolding added_one judge refusal_of
  entry_refused {refusal} f = judged_past en c b after many full long_store refusal (sym f ∙ says_of)

  module _ (fits : n ≡ None) where
    pub entry_fits : Fitting t u r.size r.verbatim len (count_of c) (used_of c) c b
    entry_fits =
        let i = image_holds c b is in
        let p = passes r.count r.size len (count_of c) (used_of c) (sym fits ∙ says) in
        record {
          key = k.key;
          some_key = k.some_key;
          is_text = k.is_text;
          value = long;
          count = refl;
          bytes = refl;
          entry_room = p.0;
          byte_room = p.1;
          contents_long = i.contents_long;
          bodies_long = i.bodies_long;
        }

    pub entry_added : {c₁ b₁ : List ℕ} → addition (given (count_of c)) c₁ b₁ ≡ appended (record { parts = parts_of t; value = decoded_at u }) c b
        → addition (given (count_of c)) c₁ b₁ ≡ added_one (en ∷ []) c b
    unfolding added_one judge refusal_of
    entry_added e =
        e
        ∙ ap (λ (l : List ℕ). appended (record { parts = parts_of t; value = l }) c b) value_here
        ∙ sym (judged_none en c b after many full long_store (sym fits ∙ says_of))

-- ---- The call

some_not_none : {x : Entry} → some x ≡ none → ⊥
some_not_none e = let z : ◌≡◌ {A = ℕ} 0 1 = cc in omega arith

refused_others : (es : List Entry) (c b : List ℕ) → only_of es ≡ none → addition (refused 12) c b ≡ added_one es c b
unfolding added_one only_of
refused_others [] c b e = refl
refused_others (x ∷ []) c b e = absurd (some_not_none e)
refused_others (x ∷ y ∷ es) c b e = refl

only_is : (es : List Entry) (x : Entry) → only_of es ≡ some x → es ≡ x ∷ []
unfolding only_of
only_is [] x e = absurd (some_not_none (sym e))
only_is (y ∷ []) x e = let f : y ≡ x = cc in ap (λ (z : Entry). z ∷ []) f
only_is (y ∷ z ∷ es) x e = absurd (some_not_none (sym e))

module _ (c b text : List ℕ) where
  pub no_image : is_image c b ≡ false → addition (refused 8) c b ≡ adding c b text
  unfolding adding
  no_image e = rw e refl

  module _ (is : is_image c b ≡ true) where
    pub long_text : text_bytes < length text → addition (refused 2) c b ≡ adding c b text
    unfolding adding
    long_text h = rw (is, lt-ltb text_bytes (length text) h) refl

    module _ (short : length text ≤ text_bytes) where
      added : adding c b text ≡ added_one (entries_added text) c b
      unfolding adding
      added = rw (is, le-ltb text_bytes (length text) short) refl

      pub not_one : only_of (entries_added text) ≡ none → addition (refused 12) c b ≡ adding c b text
      not_one e = refused_others (entries_added text) c b e ∙ sym added

      pub one_added : {x : Entry} {a : Addition} → only_of (entries_added text) ≡ some x → a ≡ added_one (x ∷ []) c b → a ≡ adding c b text
      one_added {x} e f = f ∙ ap (λ (es : List Entry). added_one es c b) (sym (only_is (entries_added text) x e)) ∙ sym added
