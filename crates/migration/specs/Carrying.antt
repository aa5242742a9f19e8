-- The rows of an old image among the words of a new one.
use Rattle.std.specs.Prelude.{List, [], ◌∷◌, ℕ, drop}
use Rattle.definition.specs.Limits.{old_row_words, unknown_file}
use Rattle.definition.specs.Image.{Row, rows_from}
use Rattle.definition.specs.Adding.{over}

-- the words of rows whose lines stand nobody knows where
unfoldable pub words_of : List Row → List ℕ
words_of [] = []
words_of (r ∷ rs) = r.start ∷ r.key_length ∷ r.value_length ∷ unknown_file ∷ words_of rs

-- the words with the first rows of an old image written, behind the first two
unfoldable pub with_rows : ℕ → List ℕ → List ℕ → List ℕ
with_rows count old words = over 2 (words_of (rows_from old_row_words count (drop 2 old))) words
