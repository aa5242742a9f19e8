-- The text of an image, row by row, and what the call answers. Assumes nothing.
use mathlib.Core.Bool.{true, false}
use mathlib.Core.List.{List, [], ◌++◌, flatten}
use mathlib.Core.Path.{◌≡◌, refl, sym, ap, ◌∙◌}
use Prim.Native.Nat.{ℕ, ◌+◌, ◌*◌, ◌-◌, ◌≤◌, ◌<◌}
use native.Mathlib.Nat.{sub-zero}
use native.Mathlib.Omega.{arith}
use lib.Dec.{leb}
use lib.ListN.{length, take, drop}
use lib.Seq.{take-length, length-take-le}
use borrow.Author.Tests.{le-leb, leb-false, lt-ltb, le-ltb}
use Rattle.definition.specs.Image as image
use Rattle.definition.specs.Image.{rows_from, rows_in, count_of, used_of, key_at, value_at, entries_in, is_image}
use Rattle.definition.specs.Writing.{begins_blank, entry_text, text_of, image_text, written, refused, filled, put_into, writing_by, writing}
use Rattle.laws.proofs.Keys.{parts_of}
use Rattle.laws.proofs.Writing.{image_text_most}
use Rattle.copies.specs.Appended.{Appends}
use Rattle.copies.proofs.Pieces.{Walk, walk_begun, walk_next, walk_room, walk_ended}
use mir.Val.{bool_byte}
use Rattle.entry_text.specs.Lines.{bytes_of, line_of}
use Rattle.entry_text.proofs.Texts.{bytes_least}
use Rattle.image.specs.Rows.{row_at, rows_left}
use Rattle.image.proofs.Rows.{rows_turn}
use Rattle.image_judge.proofs.Judged.{judged}
use Rattle.writer.proofs.Sizes.{leading_escapes_in, image_text_size}

-- ---- Row by row

-- the text from row i on
abbrev pub text_left : List ℕ → List ℕ → ℕ → List ℕ
text_left contents bodies i = text_of (entries_in (rows_left contents (count_of contents) i) bodies)

module _ (contents bodies : List ℕ) where
  pub text_all : text_left contents bodies 0 ≡ image_text contents bodies
  text_all = rw (sub-zero (count_of contents)) refl

  pub text_none : (i : ℕ) → count_of contents ≤ i → text_left contents bodies i ≡ []
  unfolding rows_from entries_in text_of flatten
  text_none i h = let z : count_of contents - i ≡ 0 = omega arith in rw z refl

  -- row i, with its key and its value
  module _ (g : is_image contents bodies ≡ true) (i : ℕ) (h : i < count_of contents) {key value : List ℕ}
      (k : key ≡ key_at bodies (row_at contents i)) (v : value ≡ value_at bodies (row_at contents i)) where
    pub text_next : text_left contents bodies i ≡ line_of key value ++ text_left contents bodies (i + 1)
    unfolding entries_in text_of flatten entry_text line_of
    text_next =
        ap (λ (rows : List image.Row). text_of (entries_in rows bodies)) (rows_turn contents (count_of contents) i h)
        ∙ rw (k, v, (parts_of (key_at bodies (row_at contents i)) ((judged contents bodies g).row_key i h)).written) refl

-- ---- Measured

-- how many values begin with a blank, from row i on
abbrev pub leading_escapes_left : List ℕ → List ℕ → ℕ → ℕ
leading_escapes_left contents bodies i = leading_escapes_in (entries_in (rows_left contents (count_of contents) i) bodies)

leading_escapes_all : (contents bodies : List ℕ) → leading_escapes_left contents bodies 0 ≡ leading_escapes_in (entries_in (rows_in contents) bodies)
leading_escapes_all contents bodies = rw (sub-zero (count_of contents)) refl

-- all is counted but for these
pub record Measuring (contents bodies : List ℕ) (size i : ℕ) : Type 0 where
  pub same : length (image_text contents bodies) ≡ size + leading_escapes_left contents bodies i

pub measuring_first : (contents bodies : List ℕ) (n : ℕ) → is_image contents bodies ≡ true
    → (let bs = take (used_of contents) bodies in n ≡ length (bytes_of bs) - length bs)
    → Measuring contents bodies (3 * count_of contents + used_of contents + n) 0
measuring_first contents bodies n g e =
    let bs = take (used_of contents) bodies in
    let j = judged contents bodies g in
    let l : length bs ≡ used_of contents = length-take-le (used_of contents) bodies (omega (arith, j.used_most, j.bodies_long)) in
    record {
      same = omega (arith, e, l, bytes_least bs, leading_escapes_all contents bodies, image_text_size contents bodies g);
    }

module _ {contents bodies : List ℕ} {size i : ℕ} (m : Measuring contents bodies size i) where
  module _ (h : i < count_of contents) {value : List ℕ} (v : value ≡ value_at bodies (row_at contents i)) (k : ℕ) (f : k ≡ bool_byte (begins_blank value)) where
    leading_escapes_next : leading_escapes_left contents bodies i ≡ k + leading_escapes_left contents bodies (i + 1)
    unfolding entries_in leading_escapes_in
    leading_escapes_next =
        ap (λ (rows : List image.Row). leading_escapes_in (entries_in rows bodies)) (rows_turn contents (count_of contents) i h)
        ∙ rw (f, v) refl

    pub measuring_next : Measuring contents bodies (size + k) (i + 1)
    measuring_next = record { same = omega (arith, m.same, leading_escapes_next) }

  pub measured : count_of contents ≤ i → size ≡ length (image_text contents bodies)
  unfolding rows_from entries_in leading_escapes_in
  measured h = let z : count_of contents - i ≡ 0 = omega arith in omega (arith, rw z at m.same)

-- room for the longest text of so many entries and bytes
pub surely_room : (contents bodies : List ℕ) (room : ℕ) → is_image contents bodies ≡ true → 2 * used_of contents + count_of contents ≤ room
    → true ≡ leb (length (image_text contents bodies)) room
surely_room contents bodies room g h = sym (le-leb (length (image_text contents bodies)) room (omega (arith, image_text_most contents bodies g)))

-- ---- Written

-- the text from row i on is still to be written, from `size` on
pub record Writing (contents bodies text₀ text : List ℕ) (size i : ℕ) : Type 0 where
  pub walk : Walk (image_text contents bodies) text₀ 0 (text_left contents bodies i) text size

pub writing_first : (contents bodies text : List ℕ) → Writing contents bodies text text 0 0
writing_first contents bodies text = record { walk = rw (text_all contents bodies) (walk_begun (image_text contents bodies) text 0) }

module _ {contents bodies text₀ text : List ℕ} {size i : ℕ} (w : Writing contents bodies text₀ text size i) where
  module _ (fits : length (image_text contents bodies) ≤ length text₀) where
    in_front : 0 + length (image_text contents bodies) ≤ length text₀
    in_front = omega arith

    pub all_written : count_of contents ≤ i → Appends (image_text contents bodies) text₀ 0 text size
    all_written h = walk_ended in_front w.walk (text_none contents bodies i h)

    pub line_room : is_image contents bodies ≡ true → i < count_of contents → {key value : List ℕ} → key ≡ key_at bodies (row_at contents i) → value ≡ value_at bodies (row_at contents i)
        → size + length (line_of key value) ≤ length text
    line_room g h {key} {value} k v = walk_room (line_of key value) (text_left contents bodies (i + 1)) in_front w.walk (text_next contents bodies g i h k v)

  pub line_written : is_image contents bodies ≡ true → i < count_of contents → {key value : List ℕ} → key ≡ key_at bodies (row_at contents i) → value ≡ value_at bodies (row_at contents i)
      → {text' : List ℕ} {size' : ℕ} → Appends (line_of key value) text size text' size' → Writing contents bodies text₀ text' size' (i + 1)
  line_written g h k v p = record { walk = walk_next w.walk (text_next contents bodies g i h k v) p }

-- ---- The call

module _ (contents bodies buffer : List ℕ) where
  pub no_image : is_image contents bodies ≡ false → filled (refused 8) buffer ≡ writing contents bodies buffer
  unfolding writing_by
  no_image e = rw e refl

  module _ (e : is_image contents bodies ≡ true) where
    pub no_room : leb (length (image_text contents bodies)) (length buffer) ≡ false → filled (refused 11) buffer ≡ writing contents bodies buffer
    unfolding writing_by put_into
    no_room f = rw (e, lt-ltb (length buffer) (length (image_text contents bodies)) (leb-false (length (image_text contents bodies)) (length buffer) f)) refl

    pub text_put : {n : ℕ} {text : List ℕ} → Appends (image_text contents bodies) buffer 0 text n → filled (written n) text ≡ writing contents bodies buffer
    unfolding writing_by put_into
    text_put {n} {text} p =
        let t = image_text contents bodies in
        let h : length t ≤ length buffer = omega (arith, p.fits) in
        let z : 0 + length t ≡ length t = omega arith in
        let l : text ≡ t ++ drop (length t) buffer = p.leaves ∙ rw (take-length t, z) refl in
        rw (e, le-ltb (length buffer) (length t) h, p.ends, z, l) refl
