-- The line of a key that two files have.
use Rattle.std.specs.Prelude.{List, ◌++◌, ℕ, ◌+◌, ◌*◌, ◌≤◌, length}
use Rattle.definition.specs.Lists.{ascii}
use Rattle.definition.specs.Limits.{file_name_bytes, body_bytes}
use Rattle.shown_bytes.specs.Shown.{shown}

-- both files and the key
unfoldable pub key_of : List ℕ → List ℕ → List ℕ → List ℕ
key_of a b key = ascii "getres: " ++ a ++ ascii " and " ++ b ++ ascii " share " ++ key

-- and a value of each, in the files' order
unfoldable pub shared_line : List ℕ → List ℕ → List ℕ → List ℕ → List ℕ → List ℕ
shared_line a b key one other = key_of a b key ++ ascii ": \"" ++ shown one ++ ascii "\" and \"" ++ shown other ++ ascii "\"\n"

abbrev pub Fits : List ℕ → List ℕ → List ℕ → Type 0
Fits a b key = (length a ≤ file_name_bytes) × (length b ≤ file_name_bytes) × (length key ≤ body_bytes)

abbrev pub Room : List ℕ → Type 0
Room left = 9 * body_bytes + 1024 ≤ length left
