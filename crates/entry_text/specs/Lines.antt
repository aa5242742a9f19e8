-- The text of an entry, from its key and its value.
use mathlib.Core.List.{List, [], ◌∷◌, ◌++◌, flatten, map}
use Rattle.std.specs.Prelude.{ℕ, if◌then◌else◌}
use Rattle.definition.specs.Lists.{ascii}
use Rattle.definition.specs.Bytes.{newline, backslash}
use Rattle.definition.specs.Writing.{escaped, begins_blank, value_text}

-- what stands before a value
unfoldable pub leading_escape : List ℕ → List ℕ
leading_escape v = if begins_blank v then backslash ∷ [] else []

-- its bytes, each as it is written
unfoldable pub bytes_of : List ℕ → List ℕ
bytes_of v = flatten (map escaped v)

unfoldable pub line_of : List ℕ → List ℕ → List ℕ
line_of key value = key ++ ascii ": " ++ value_text value ++ newline ∷ []
