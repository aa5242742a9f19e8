-- An entry's row among the words of an image. Where a row begins and how wide it is stands here, for every crate.
use Rattle.std.specs.Prelude.{List, ◌≡◌, ℕ, ◌+◌, ◌*◌, ◌-◌, ◌<◌, get_or, set, drop}
use Rattle.definition.specs.Limits.{row_words}
use Rattle.definition.specs.Image as image
use Rattle.definition.specs.Image.{rows_from, origins_from}
use Rattle.image.specs.declared.Row.{Row}

-- where row i begins, in rows of that width: two words stand before the rows
abbrev pub row_start_by : ℕ → ℕ → ℕ
row_start_by width i = 2 + width * i

abbrev pub row_start : ℕ → ℕ
row_start i = row_start_by row_words i

-- row i, by its words
abbrev pub row_at_by : ℕ → List ℕ → ℕ → image.Row
row_at_by width words i = record {
  start = get_or words (row_start_by width i) 0;
  key_length = get_or words (row_start_by width i + 1) 0;
  value_length = get_or words (row_start_by width i + 2) 0;
}

abbrev pub row_at : List ℕ → ℕ → image.Row
row_at words i = row_at_by row_words words i

-- where its line stands
abbrev pub origin_at : List ℕ → ℕ → ℕ
origin_at words i = get_or words (row_start i + 3) 0

-- the words with row i written, and where its line stands
abbrev pub with_row : List ℕ → ℕ → image.Row → ℕ → List ℕ
with_row words i r origin =
    set (set (set (set words (row_start i) r.start) (row_start i + 1) r.key_length) (row_start i + 2) r.value_length) (row_start i + 3) origin

-- the rows from row i up to row n
abbrev pub rows_left_by : ℕ → List ℕ → ℕ → ℕ → List image.Row
rows_left_by width words n i = rows_from width (n - i) (drop (row_start_by width i) words)

abbrev pub rows_left : List ℕ → ℕ → ℕ → List image.Row
rows_left words n i = rows_left_by row_words words n i

-- and their origins
abbrev pub origins_left : List ℕ → ℕ → ℕ → List ℕ
origins_left words n i = origins_from row_words (n - i) (drop (row_start i) words)

-- the code's row as the definition's
abbrev pub row_of : Row → image.Row
row_of r = record { start = r.start; key_length = r.key; value_length = r.value }

-- each number of the row fits a word
pub record InWords (r : Row) : Type 0 where
  pub start_word : r.start < 65536
  pub key_word : r.key < 65536
  pub value_word : r.value < 65536

-- r is row i
pub record RowIsBy (width : ℕ) (words : List ℕ) (i : ℕ) (r : Row) : Type 0 where
  pub is : row_of r ≡ row_at_by width words i
  pub small : InWords r

abbrev pub RowIs : List ℕ → ℕ → Row → Type 0
RowIs words i r = RowIsBy row_words words i r
