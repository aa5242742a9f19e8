-- How `rows_hold` goes through an image's rows. Assumes nothing.
use mathlib.Core.Bool.{Bool, true, false, ◌&&◌, ◌||◌, and-false}
use mathlib.Core.List.{List, [], ◌∷◌}
use mathlib.Core.Path.{◌≡◌, refl, sym, ap, ◌∙◌}
use Prim.Native.Nat.{ℕ, ◌+◌, ◌-◌, ◌≤◌, ◌<◌}
use native.Mathlib.Nat.{mul-zero, mul-le-mul_left}
use native.Mathlib.Omega.{arith}
use lib.Dec.{eqb, leb}
use lib.ListN.{take, drop}
use borrow.Author.Tests.{eq-eqb, ne_eqb, le-leb, lt-leb}
use Rattle.definition.specs.Lists.{all}
use Rattle.definition.specs.Limits.{row_words, archive_files, unknown_file}
use Rattle.definition.specs.Image.{Row, rows_from, origins_from, value_end, key_at, is_key, packed, is_origin}
use Rattle.laws.proofs.Lists.{part_slice}
use Rattle.laws.proofs.Image.{packed_most}
use Rattle.image.specs.Rows.{row_start_by, row_at_by, origin_at, rows_left_by, origins_left, row_of}
use Rattle.image.specs.declared.Row as image
use Rattle.image.proofs.Rows.{next_start, rows_turn_by, origins_turn}
use Rattle.image_judge.specs.Rows.{holds}

-- ---- Rows that hold

packed_past : (at : ℕ) (rows : List Row) (used : ℕ) → used < at → packed at rows used ≡ false
packed_past at rows used h = by (packed at rows used) refl
  where
    by : (b : Bool) → packed at rows used ≡ b → b ≡ false
    by true e = absurd (omega (arith, packed_most at rows used e))
    by false e = refl

module _ (at : ℕ) (r : Row) (rows : List Row) (used : ℕ) (bodies : List ℕ) where
  holds_apart : (r.start ≡ at → ⊥) → holds at (r ∷ rows) used bodies ≡ false
  unfolding holds packed
  holds_apart h = rw (ne_eqb r.start at h) refl

  holds_past : used < value_end r → holds at (r ∷ rows) used bodies ≡ false
  unfolding holds packed
  holds_past h = rw (packed_past (value_end r) rows used h, and-false (eqb r.start at)) refl

  holds_no_key : is_key (key_at bodies r) ≡ false → holds at (r ∷ rows) used bodies ≡ false
  unfolding holds all
  holds_no_key h = rw h (and-false (packed at (r ∷ rows) used))

  holds_on : r.start ≡ at → is_key (key_at bodies r) ≡ true → holds at (r ∷ rows) used bodies ≡ holds (value_end r) rows used bodies
  unfolding holds packed all
  holds_on h k = rw (eq-eqb r.start at h, k) refl

holds_done : (at used : ℕ) (bodies : List ℕ) → holds at [] used bodies ≡ eqb at used
unfolding holds packed all
holds_done at used bodies = mathlib.Core.Bool.and-true (eqb at used)

-- ---- A turn of the loop

-- a row of three words or more lies among the words of those up to count
pub row_room : (width count i n : ℕ) → 3 ≤ width → i < count → row_start_by width count ≤ n → row_start_by width i + 3 ≤ n
row_room width count i n w h k =
    let l : i + 1 ≤ count = omega arith in
    omega (arith, next_start width i, mul-le-mul_left width l)

-- i rows hold and end at `at`; the others are left
pub record Judging (width : ℕ) (contents bodies : List ℕ) (count used at i : ℕ) : Type 0 where
  pub passed : i ≤ count
  pub most : at ≤ used
  pub same : holds 0 (rows_from width count (drop 2 contents)) used bodies ≡ holds at (rows_left_by width contents count i) used bodies

pub judging_first : (width : ℕ) (contents bodies : List ℕ) (count used : ℕ) → Judging width contents bodies count used 0 0
judging_first width contents bodies count used =
    let e : count - 0 ≡ count = omega arith in
    let z : row_start_by width 0 ≡ 2 = rw (mul-zero width) refl in
    record { passed = omega arith; most = omega arith; same = rw (e, z) refl }

module _ {width : ℕ} {contents bodies : List ℕ} {count used at i : ℕ} (j : Judging width contents bodies count used at i) where
  pub judging_done : count ≤ i → holds 0 (rows_from width count (drop 2 contents)) used bodies ≡ eqb at used
  unfolding rows_from
  judging_done h = let e : count - i ≡ 0 = omega arith in j.same ∙ rw e (holds_done at used bodies)

-- row i, as the code has it
pub record RowHere (width : ℕ) (contents bodies : List ℕ) (count used at i : ℕ) (r : image.Row) : Type 0 where
  pub judging : Judging width contents bodies count used at i
  pub more : i < count
  pub is : row_of r ≡ row_at_by width contents i

module _ {width : ℕ} {contents bodies : List ℕ} {count used at i : ℕ} {r : image.Row} (R : RowHere width contents bodies count used at i r) where
  abbrev rest : List Row
  rest = rows_left_by width contents count (i + 1)

  turn : holds 0 (rows_from width count (drop 2 contents)) used bodies ≡ holds at (row_of r ∷ rest) used bodies
  turn = R.judging.same ∙ ap (λ (rows : List Row). holds at rows used bodies) (rows_turn_by width contents count i R.more ∙ ap (λ (x : Row). x ∷ rest) (sym R.is))

  pub judging_apart : (r.start ≡ at → ⊥) → holds 0 (rows_from width count (drop 2 contents)) used bodies ≡ false
  judging_apart g = turn ∙ holds_apart at (row_of r) rest used bodies g

  -- it starts where the one before it ends
  module _ (g : r.start ≡ at) where
    pub judging_past : used < at + r.key + r.value → holds 0 (rows_from width count (drop 2 contents)) used bodies ≡ false
    judging_past f = turn ∙ holds_past at (row_of r) rest used bodies (omega arith)

    -- the key as the borrow checker gives it
    key_part_lem : take (at + r.key - at) (drop at bodies) ≡ key_at bodies (row_of r)
    key_part_lem = rw g (part_slice bodies at (at + r.key))

    pub judging_no_key : is_key (take (at + r.key - at) (drop at bodies)) ≡ false → holds 0 (rows_from width count (drop 2 contents)) used bodies ≡ false
    judging_no_key k = turn ∙ holds_no_key at (row_of r) rest used bodies (rw key_part_lem at k)

    pub judging_next : is_key (take (at + r.key - at) (drop at bodies)) ≡ true → at + r.key + r.value ≤ used
        → Judging width contents bodies count used (at + r.key + r.value) (i + 1)
    judging_next k f = record {
      passed = omega (arith, R.more);
      most = f;
      same = turn ∙ holds_on at (row_of r) rest used bodies g (rw key_part_lem at k) ∙ rw g refl;
    }

-- ---- Where lines stand

-- the rows from row i on decide
pub record Standing (contents : List ℕ) (count i : ℕ) : Type 0 where
  pub passed : i ≤ count
  pub same : all is_origin (origins_from row_words count (drop 2 contents)) ≡ all is_origin (origins_left contents count i)

pub standing_first : (contents : List ℕ) (count : ℕ) → Standing contents count 0
standing_first contents count = let e : count - 0 ≡ count = omega arith in record { passed = omega arith; same = rw e refl }

module _ {contents : List ℕ} {count i : ℕ} (s : Standing contents count i) where
  pub standing_done : count ≤ i → all is_origin (origins_from row_words count (drop 2 contents)) ≡ true
  unfolding origins_from all
  standing_done h = let e : count - i ≡ 0 = omega arith in s.same ∙ rw e refl

  module _ (h : i < count) {o : ℕ} (is : o ≡ origin_at contents i) where
    turned : all is_origin (origins_from row_words count (drop 2 contents)) ≡ (is_origin o && all is_origin (origins_left contents count (i + 1)))
    unfolding all
    turned = s.same ∙ ap (all is_origin) (origins_turn contents count i h) ∙ rw (← is) refl

    pub standing_nowhere : archive_files < o → (o ≡ unknown_file → ⊥) → all is_origin (origins_from row_words count (drop 2 contents)) ≡ false
    unfolding is_origin
    standing_nowhere k g = turned ∙ rw (lt-leb o archive_files k, ne_eqb o unknown_file g) refl

    pub standing_file : o ≤ archive_files → Standing contents count (i + 1)
    unfolding is_origin
    standing_file k = record { passed = omega arith; same = turned ∙ rw (le-leb o archive_files k) refl }

    pub standing_unknown : o ≡ unknown_file → Standing contents count (i + 1)
    unfolding is_origin
    standing_unknown k = record { passed = omega arith; same = turned ∙ rw (eq-eqb o unknown_file k) (at (leb o archive_files)) }
      where
        at : (b : Bool) → ((b || true) && all is_origin (origins_left contents count (i + 1))) ≡ all is_origin (origins_left contents count (i + 1))
        at true = refl
        at false = refl
