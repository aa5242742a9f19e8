-- The lines that the list program writes.
use Rattle.std.specs.Prelude.{List, [], ◌∷◌, ◌++◌, ℕ, ◌+◌, ◌≤◌, ◌<◌, length}
use Rattle.definition.specs.Lists.{ascii}
use Rattle.definition.specs.Image.{Row, key_at, key_end, count_of, rows_in}
use Rattle.image.specs.Rows.{row_start, row_at}
use Rattle.printing.specs.Putting.{decimal}

-- number, key, value length
unfoldable pub entry_line : ℕ → List ℕ → ℕ → List ℕ
entry_line i key size = decimal i ++ ascii " " ++ key ++ ascii " " ++ decimal size ++ ascii "\n"

-- a word and a number
unfoldable pub word_line : List ℕ → ℕ → List ℕ
word_line word n = word ++ ascii " " ++ decimal n ++ ascii "\n"

-- ---- Of an image

-- a line for each row, the first with the number i
unfoldable pub row_lines : ℕ → List Row → List ℕ → List ℕ
row_lines i [] bodies = []
row_lines i (r ∷ rs) bodies = entry_line i (key_at bodies r) r.value_length ++ row_lines (i + 1) rs bodies

-- the rows and their keys lie in the buffers, and what is left of a buffer has room for their lines
pub record Listable (contents bodies left : List ℕ) : Type 0 where
  pub rows_within : row_start (count_of contents) ≤ length contents
  pub keys_within : (i : ℕ) → i < count_of contents → key_end (row_at contents i) ≤ length bodies
  pub room : length (row_lines 0 (rows_in contents) bodies) ≤ length left
