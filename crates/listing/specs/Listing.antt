-- What the list program writes (document 01, "Numbers and examples").
use Rattle.std.specs.Prelude.{List, [], ◌∷◌, ◌++◌, ◌≡◌, ℕ, ◌+◌, ◌<◌, length}
use Rattle.definition.specs.Lists.{ascii, zeroes}
use Rattle.definition.specs.Limits.{text_bytes, default_depth, contents_words, body_bytes}
use Rattle.definition.specs.Text.{Entry}
use Rattle.definition.specs.Image.{key_of}
use Rattle.definition.specs.Evaluation.{no_files}
use Rattle.definition.specs.Reading.{Answer, accepted, refused, reading, plain, read_entries}
use Rattle.printing.specs.Putting.{Appends}
use Rattle.printing.specs.declared.Lines.{Lines}
use Rattle.list_lines.specs.Lines.{entry_line, word_line}

-- a line for each entry, the first with the number i
unfoldable pub entry_lines : ℕ → List Entry → List ℕ
entry_lines i [] = []
entry_lines i (e ∷ es) = entry_line i (key_of e.parts) (length e.value) ++ entry_lines (i + 1) es

-- what is written for an answer of the reading call, and the entries read
unfoldable pub written : Answer → List Entry → List ℕ
written (accepted n opens) es = word_line (ascii "entries") (length es) ++ entry_lines 0 es
written (refused k) es = word_line (ascii "refused") k

-- what is written for a main text, read with an archive of no files
unfoldable pub printed : List ℕ → List ℕ
printed text = written (reading default_depth (text ∷ []) no_files (zeroes contents_words) (zeroes body_bytes)).answer (plain (read_entries default_depth (text ∷ []) no_files))

-- no text is written in more
abbrev pub list_bytes : ℕ
list_bytes = 65536

-- what is put for every text that is longer than a main text may be
pub record RefusesLong (w w' : Lines) : Type 0 where
  pub puts : Appends (word_line (ascii "refused") 2) w w'
  pub long : (text : List ℕ) → text_bytes < length text → word_line (ascii "refused") 2 ≡ printed text
