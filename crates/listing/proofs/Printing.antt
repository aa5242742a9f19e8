-- From the answer of the reading call to what is written. Assumes nothing.
use mathlib.Core.Bool.{false}
use mathlib.Core.List.{List, [], ◌∷◌, ◌++◌, append_assoc}
use mathlib.Core.Path.{◌≡◌, refl, ap, sym, ◌∙◌}
use Prim.Native.Nat.{ℕ, zero, suc, ◌+◌, ◌*◌, ◌≤◌, ◌<◌}
use native.Mathlib.Omega.{arith}
use lib.ListN.{length, get_or, length-append, length-map}
use Rattle.definition.specs.Lists.{ascii, zeroes, any}
use Rattle.definition.specs.Limits.{text_bytes, default_depth, contents_words, body_bytes, most_entries}
use Rattle.definition.specs.Text.{Entry}
use Rattle.definition.specs.Including.{Entered, opens_of}
use Rattle.definition.specs.Archive.{files_of}
use Rattle.definition.specs.Image.{Sourced, Row, key_of, key_at, key_end, rows_in, count_of, contents_of, store_of, written_over, image_contents, image_bodies, too_short}
use Rattle.definition.specs.Evaluation.{no_files}
use Rattle.definition.specs.Reading.{accepted, refused, Outcome, outcome, reading, plain, sourced, read_entries, met}
use borrow.Author.Tests.{lt-ltb}
use Rattle.laws.proofs.Lists.{slice_at}
use Rattle.laws.proofs.Image.{rows_at, length_zeroes, length_bare, written_long, contents_fit, image_rows, image_count}
use Rattle.laws.proofs.Limits.{used_store}
use Rattle.laws.proofs.Reading.{bare_sourced, Reads, accepted_reads, reads_outcome}
use Rattle.image.specs.Rows.{row_at}
use Rattle.image.proofs.Rows.{row_is}
use Rattle.printing.specs.Putting.{Appends}
use Rattle.printing.specs.declared.Lines.{Lines}
use Rattle.printing.proofs.Pieces.{piece_of, then_piece}
use Rattle.list_lines.specs.Lines.{entry_line, word_line, row_lines, Listable}
use Rattle.list_lines.proofs.Lines.{entry_most}
use Rattle.listing.specs.Listing.{entry_lines, written, printed, list_bytes, RefusesLong}

-- ---- The lines of entries

pub lines_most : (i : ℕ) (es : List Entry) → length (entry_lines i es) ≤ 43 * length es + length (store_of es)
unfolding entry_lines store_of
lines_most i [] = omega arith
lines_most i (e ∷ es) =
    let k = key_of e.parts in
    omega (arith, lines_most (i + 1) es, entry_most i k (length e.value), length-append (entry_line i k (length e.value)) (entry_lines (i + 1) es), length-append (k ++ e.value) (store_of es), length-append k e.value)

-- what stands in a store that the rows were made of
lines_of : (i : ℕ) (es : List Entry) (before after bodies : List ℕ) → bodies ≡ before ++ (store_of es ++ after)
    → row_lines i (rows_at (length before) es) bodies ≡ entry_lines i es
unfolding row_lines rows_at entry_lines store_of
lines_of i [] before after bodies b = refl
lines_of i (e ∷ es) before after bodies b =
    let k = key_of e.parts in
    let v = e.value in
    let b₁ : bodies ≡ before ++ (k ++ (v ++ store_of es ++ after)) = b ∙ simp append_assoc in
    let b₂ : bodies ≡ (before ++ k ++ v) ++ (store_of es ++ after) = b ∙ simp append_assoc in
    let key : key_at bodies (record { start = length before; key_length = length k; value_length = length v }) ≡ k =
    rw b₁ (slice_at before k (v ++ store_of es ++ after) (length before) (length before + length k) refl refl) in
    let place : length (before ++ k ++ v) ≡ length before + length k + length v = omega (arith, length-append (before ++ k) v, length-append before k) in
    let ih : row_lines (i + 1) (rows_at (length before + length k + length v) es) bodies ≡ entry_lines (i + 1) es =
    rw place at (lines_of (i + 1) es (before ++ k ++ v) after bodies b₂) in
    ap (λ (t : List ℕ). entry_line i t (length v) ++ row_lines (i + 1) (rows_at (length before + length k + length v) es) bodies) key
    ∙ ap (λ (t : List ℕ). entry_line i k (length v) ++ t) ih

keys_end : (es : List Entry) (at i : ℕ) (d : Row) → i < length es → key_end (get_or (rows_at at es) i d) ≤ at + length (store_of es)
unfolding rows_at store_of
keys_end [] at i d h = absurd (omega arith)
keys_end (e ∷ es) at zero d h =
    let k = key_of e.parts in
    omega (arith, length-append (k ++ e.value) (store_of es), length-append k e.value)
keys_end (e ∷ es) at (suc i) d h =
    let k = key_of e.parts in
    omega (arith, keys_end es (at + length k + length e.value) i d (omega arith), length-append (k ++ e.value) (store_of es), length-append k e.value)

-- ---- What was read

abbrev words : List ℕ
words = zeroes contents_words

abbrev bytes : List ℕ
bytes = zeroes body_bytes

module _ (text c b : List ℕ) (n o : ℕ) (e : outcome (accepted n o) c b ≡ reading default_depth (text ∷ []) no_files words bytes) where
  abbrev es : List Entry
  es = plain (read_entries default_depth (text ∷ []) no_files)

  -- with their origins
  abbrev xs : List Sourced
  xs = sourced (files_of no_files) (read_entries default_depth (text ∷ []) no_files)

  rows_are : rows_in (image_contents xs words) ≡ rows_at 0 es
  rows_are = image_rows xs words ∙ ap (rows_at 0) (bare_sourced (files_of no_files) (read_entries default_depth (text ∷ []) no_files))

  as_many : length xs ≡ length es
  as_many = sym (length_bare xs) ∙ ap length (bare_sourced (files_of no_files) (read_entries default_depth (text ∷ []) no_files))

  reads : Reads default_depth (text ∷ []) no_files words bytes
  reads = accepted_reads default_depth (text ∷ []) no_files words bytes (rw (← e) refl)

  left : outcome (accepted n o) c b
      ≡ outcome (accepted (0 + length (read_entries default_depth (text ∷ []) no_files)) (0 + opens_of (met default_depth (text ∷ []) no_files))) (image_contents xs words) (image_bodies es bytes)
  left = e ∙ reads_outcome default_depth (text ∷ []) no_files words bytes reads

  contents_are : c ≡ image_contents xs words
  contents_are = ap (λ (x : Outcome). x.contents) left

  bodies_are : b ≡ image_bodies es bytes
  bodies_are = ap (λ (x : Outcome). x.bodies) left

  long : length (read_entries default_depth (text ∷ []) no_files) ≡ length es
  long = sym (length-map (read_entries default_depth (text ∷ []) no_files) (λ (x : Entered). x.entry))

  count : n ≡ length es
  count =
      let a : accepted n o ≡ accepted (0 + length (read_entries default_depth (text ∷ []) no_files)) (0 + opens_of (met default_depth (text ∷ []) no_files)) = ap (λ (x : Outcome). x.answer) left in
      let m : n ≡ 0 + length (read_entries default_depth (text ∷ []) no_files) = cc in
      omega (arith, long)

  few : length es ≤ most_entries
  few = omega (arith, reads.limits.entries_most, long)

  small : length (store_of es) ≤ body_bytes
  small = omega (arith, reads.limits.used_most, used_store (met default_depth (text ∷ []) no_files))

  lines_are : row_lines 0 (rows_in c) b ≡ entry_lines 0 es
  unfolding written_over
  lines_are =
      ap (λ (x : List ℕ). row_lines 0 (rows_in x) b) contents_are
      ∙ ap (λ (x : List ℕ). row_lines 0 (rows_in (image_contents xs words)) x) bodies_are
      ∙ ap (λ (rs : List Row). row_lines 0 rs (image_bodies es bytes)) rows_are
      ∙ lines_of 0 es [] _ (image_bodies es bytes) (append_assoc (store_of es) _ _)

  key_within : (i : ℕ) → i < count_of c → key_end (row_at c i) ≤ length b
  key_within i h =
      let d : Row = record { start = 0; key_length = 0; value_length = 0 } in
      let m : i < length es = omega (arith, h, ap count_of contents_are, image_count xs words, as_many) in
      let row : row_at c i ≡ get_or (rows_at 0 es) i d = sym (row_is c i d h) ∙ ap (λ (x : List ℕ). get_or (rows_in x) i d) contents_are ∙ ap (λ (rs : List Row). get_or rs i d) rows_are in
      omega (arith, ap key_end row, keys_end es 0 i d m, small, ap length bodies_are, written_long body_bytes bytes (store_of es) small (omega (arith, length_zeroes body_bytes)), length_zeroes body_bytes)

  -- the rows can be listed after the first line
  pub listable : (left : List ℕ) → list_bytes ≤ length left + 29 → Listable c b left
  listable left room = record {
    rows_within = omega (arith, ap count_of contents_are, image_count xs words, as_many, few, ap length contents_are, written_long contents_words words (contents_of xs) (contents_fit xs (omega (arith, as_many, few))) (omega (arith, length_zeroes contents_words)), length_zeroes contents_words);
    keys_within = key_within;
    room = omega (arith, ap length lines_are, lines_most 0 es, few, small);
  }

  is_printed : word_line (ascii "entries") n ++ row_lines 0 (rows_in c) b ≡ printed text
  unfolding printed written
  is_printed = ap (λ (t : List ℕ). word_line (ascii "entries") n ++ t) lines_are ∙ rw (← e, count)

  pub accepted_lists : {w w₁ w₂ : Lines} → Appends (word_line (ascii "entries") n) w w₁ → Appends (row_lines 0 (rows_in c) b) w₁ w₂ → Appends (printed text) w w₂
  accepted_lists p q = piece_of is_printed (then_piece p q)

refused_printed : (text c b : List ℕ) (k : ℕ) → outcome (refused k) c b ≡ reading default_depth (text ∷ []) no_files words bytes → word_line (ascii "refused") k ≡ printed text
unfolding printed written
refused_printed text c b k e = rw (← e)

pub refused_lists : (text : List ℕ) {c b : List ℕ} {k : ℕ} {w w' : Lines} → outcome (refused k) c b ≡ reading default_depth (text ∷ []) no_files words bytes
    → Appends (word_line (ascii "refused") k) w w' → Appends (printed text) w w'
refused_lists text {c} {b} {k} e p = piece_of (refused_printed text c b k e) p

-- a text that is too long
long_printed : (text : List ℕ) → text_bytes < length text → word_line (ascii "refused") 2 ≡ printed text
unfolding printed written reading any
long_printed text h =
    let short : too_short (zeroes contents_words) (zeroes body_bytes) ≡ false = rw (length_zeroes contents_words, length_zeroes body_bytes) in
    rw (short, lt-ltb text_bytes (length text) h)

pub refuses_long : {w w' : Lines} → Appends (word_line (ascii "refused") 2) w w' → RefusesLong w w'
refuses_long p = record { puts = p; long = long_printed }
