-- How `is_image` judges, and what a judged image gives a lookup. Assumes nothing.
use mathlib.Core.Bool.{Bool, true, false, ◌&&◌, not, or-true, and-false, and_assoc}
use mathlib.Core.List.{List, [], ◌∷◌}
use mathlib.Core.Path.{◌≡◌, refl, ap, ◌∙◌}
use Prim.Native.Nat.{ℕ, zero, suc, ◌+◌, ◌*◌, ◌≤◌, ◌<◌}
use native.Mathlib.Nat.{mul-le-mul_left}
use native.Mathlib.Omega.{arith}
use lib.Dec.{eqb, leb, ltb}
use lib.ListN.{length, get_or, drop}
use borrow.Author.Tests.{lt-ltb, le-ltb, le-leb, lt-leb, leb-true, not-true}
use Rattle.definition.specs.Lists.{all}
use Rattle.definition.specs.Limits.{contents_words, body_bytes, most_entries, row_words, old_row_words}
use Rattle.definition.specs.Image.{Row, rows_from, origins_from, count_of, used_of, rows_by, rows_in, origins_by, origins_in, value_end, key_at, is_key, packed, is_origin, too_short_by, is_image_by, is_image}
use Rattle.laws.proofs.Lists.{and_true, all_get_d}
use Rattle.laws.proofs.Image.{long_by, image_holds, count_rows, packed_most}
use Rattle.image.specs.Rows.{row_start_by, row_start, row_at}
use Rattle.image.proofs.Rows.{row_is}
use Rattle.image_judge.specs.Rows.{holds, is_packed_by}

-- ---- Judging

-- as many rows as there may be lie among the words
pub rows_room : (width : ℕ) (contents : List ℕ) → 2 + width * most_entries ≤ length contents → count_of contents ≤ most_entries
    → row_start_by width (count_of contents) ≤ length contents
rows_room width contents c n = omega (arith, c, mul-le-mul_left width n)

module _ (width : ℕ) (contents bodies : List ℕ) where
  -- what is judged before the rows
  abbrev limited : Bool
  limited = not (too_short_by width contents bodies) && leb (count_of contents) most_entries && leb (used_of contents) body_bytes

  by_limits : (b : Bool) → limited ≡ b → is_packed_by width contents bodies ≡ (b && holds 0 (rows_by width contents) (used_of contents) bodies)
  unfolding is_packed_by
  by_limits b e = ap (λ (l : Bool). l && holds 0 (rows_by width contents) (used_of contents) bodies) e

  pub contents_short : length contents < 2 + width * most_entries → is_packed_by width contents bodies ≡ false
  contents_short h = by_limits false (rw (lt-ltb (length contents) (2 + width * most_entries) h) refl)

  pub bodies_short : length bodies < body_bytes → is_packed_by width contents bodies ≡ false
  bodies_short h = by_limits false (rw (lt-ltb (length bodies) body_bytes h, or-true (ltb (length contents) (2 + width * most_entries))) refl)

  pub too_many : most_entries < count_of contents → is_packed_by width contents bodies ≡ false
  too_many h = by_limits false (rw (lt-leb (count_of contents) most_entries h, and-false (not (too_short_by width contents bodies))) refl)

  pub too_much : body_bytes < used_of contents → is_packed_by width contents bodies ≡ false
  too_much h = by_limits false (rw (lt-leb (used_of contents) body_bytes h) (and-false (not (too_short_by width contents bodies) && leb (count_of contents) most_entries)))

  pub by_rows : 2 + width * most_entries ≤ length contents → body_bytes ≤ length bodies → count_of contents ≤ most_entries → used_of contents ≤ body_bytes
      → is_packed_by width contents bodies ≡ holds 0 (rows_from width (count_of contents) (drop 2 contents)) (used_of contents) bodies
  by_rows c b n u =
      by_limits true
      (rw (
        le-ltb (length contents) (2 + width * most_entries) c,
        le-ltb (length bodies) body_bytes b,
        le-leb (count_of contents) most_entries n,
        le-leb (used_of contents) body_bytes u,
      ) refl)

  -- an image is that, with origins
  pub by_packed : is_image_by width contents bodies ≡ (is_packed_by width contents bodies && all is_origin (origins_by width contents))
  unfolding is_image_by is_packed_by holds
  by_packed =
      ap (λ (l : Bool). l && all is_origin (origins_by width contents))
      (and_assoc limited (packed 0 (rows_by width contents) (used_of contents)) (all (λ r. is_key (key_at bodies r)) (rows_by width contents)))

  -- what is packed has its words
  pub packed_long : is_packed_by width contents bodies ≡ true → (2 + width * most_entries ≤ length contents) × (count_of contents ≤ most_entries)
  unfolding is_packed_by
  packed_long e =
      let p = and_true limited (holds 0 (rows_by width contents) (used_of contents) bodies) e in
      let q = and_true (not (too_short_by width contents bodies) && leb (count_of contents) most_entries) (leb (used_of contents) body_bytes) p.0 in
      let r = and_true (not (too_short_by width contents bodies)) (leb (count_of contents) most_entries) q.0 in
      ((long_by width contents bodies (not-true (too_short_by width contents bodies) r.0)).0, leb-true (count_of contents) most_entries r.1)

-- the rows of an old image say nothing of where lines stand
old_origins : (n : ℕ) (ws : List ℕ) → all is_origin (origins_from old_row_words n ws) ≡ true
unfolding origins_from all is_origin
old_origins zero ws = refl
old_origins (suc n) ws = old_origins n (drop old_row_words ws)

pub old_packed : (contents bodies : List ℕ) → is_image_by old_row_words contents bodies ≡ is_packed_by old_row_words contents bodies
old_packed contents bodies =
    by_packed old_row_words contents bodies
    ∙ ap (λ (o : Bool). is_packed_by old_row_words contents bodies && o) (old_origins (count_of contents) (drop 2 contents))
    ∙ mathlib.Core.Bool.and-true (is_packed_by old_row_words contents bodies)

pub not_packed : (contents bodies : List ℕ) → is_packed_by row_words contents bodies ≡ false → is_image contents bodies ≡ false
not_packed contents bodies e = by_packed row_words contents bodies ∙ rw e refl

pub packed_origins : (contents bodies : List ℕ) → is_packed_by row_words contents bodies ≡ true → is_image contents bodies ≡ all is_origin (origins_in contents)
packed_origins contents bodies e = by_packed row_words contents bodies ∙ rw e refl

-- ---- What a judged image gives

packed_inside : (at : ℕ) (rows : List Row) (used : ℕ) → packed at rows used ≡ true → (i : ℕ) (d : Row) → i < length rows
    → value_end (get_or rows i d) ≤ used
unfolding packed
packed_inside at [] used e i d h = absurd (omega arith)
packed_inside at (r ∷ rows) used e zero d h =
    packed_most (value_end r) rows used (and_true (eqb r.start at) (packed (value_end r) rows used) e).1
packed_inside at (r ∷ rows) used e (suc i) d h =
    packed_inside (value_end r) rows used (and_true (eqb r.start at) (packed (value_end r) rows used) e).1 i d (omega arith)

-- the numbers that a lookup goes by, and for each row that its key is one and that its bytes lie within those used
pub record Judged (contents bodies : List ℕ) : Type 0 where
  pub contents_long : contents_words ≤ length contents
  pub bodies_long : body_bytes ≤ length bodies
  pub count_most : count_of contents ≤ most_entries
  pub used_most : used_of contents ≤ body_bytes
  pub rows_within : row_start (count_of contents) ≤ length contents
  pub row_inside : (i : ℕ) → i < count_of contents → value_end (row_at contents i) ≤ used_of contents
  pub row_key : (i : ℕ) → i < count_of contents → is_key (key_at bodies (row_at contents i)) ≡ true

pub judged : (contents bodies : List ℕ) → is_image contents bodies ≡ true → Judged contents bodies
judged contents bodies e =
    let h = image_holds contents bodies e in
    let rows = rows_in contents in
    record {
      contents_long = h.contents_long;
      bodies_long = h.bodies_long;
      count_most = h.count_most;
      used_most = h.used_most;
      rows_within = omega (arith, h.contents_long, h.count_most);
      row_inside =
          λ i k. rw (row_is contents i (row_at contents i) k) at (packed_inside 0 rows (used_of contents) h.is_packed i (row_at contents i) (there i k));
      row_key =
          λ i k. rw (row_is contents i (row_at contents i) k) at
          (all_get_d (λ r. is_key (key_at bodies r)) rows i (row_at contents i) h.are_keys (there i k));
    }
  where
    there : (i : ℕ) → i < count_of contents → i < length (rows_in contents)
    there i h = omega (arith, count_rows contents)
