-- The line of an include that finds no file.
use Rattle.std.specs.Prelude.{List, ◌++◌, ℕ, ◌+◌, ◌*◌, ◌≤◌, length}
use Rattle.definition.specs.Lists.{ascii}
use Rattle.definition.specs.Limits.{archive_bytes}
use Rattle.shown_bytes.specs.Shown.{shown}

-- where the include stands, and its name as it is written
unfoldable pub include_of : List ℕ → List ℕ → List ℕ
include_of place name = ascii "getres: " ++ place ++ ascii ": #include \"" ++ shown name ++ ascii "\" found no file: "

-- no file has its path
unfoldable pub absent_line : List ℕ → List ℕ → List ℕ → List ℕ
absent_line place name path = include_of place name ++ ascii "looked for \"" ++ shown path ++ ascii "\"\n"

-- it has no path
unfoldable pub nowhere_line : List ℕ → List ℕ → List ℕ
nowhere_line place name = include_of place name ++ ascii "it goes above the root, has an empty part, ends in . or .., or has over 96 bytes\n"

-- room for a line
abbrev pub line_bytes : ℕ
line_bytes = 5 * archive_bytes + 1024

abbrev pub Fits : List ℕ → List ℕ → List ℕ → Type 0
Fits place name left = (length place ≤ archive_bytes) × (length name ≤ archive_bytes) × (line_bytes ≤ length left)
