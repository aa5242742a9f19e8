-- The path that an include looks for, by what is kept of it as the parts of folder and name are taken.
use Rattle.std.specs.Prelude.{Option, Some, None, false, List, [], ◌∷◌, ℕ, ◌≤◌, length, take, if◌then◌else◌}
use Rattle.std.proofs.Math.Option.{Option as Maybe, some, none}
use Rattle.definition.specs.Lists.{is_empty}
use Rattle.definition.specs.Limits.{file_name_bytes}
use Rattle.definition.specs.Archive.{split, joined}
use Rattle.kept_parts.specs.declared.Kept.{Kept}
use Rattle.kept_parts.specs.Keeping.{kept, Did, did, taken_part}

-- no part is taken yet
abbrev pub root : Kept
root = kept 0 0 false

abbrev pub answering : Option Kept → List ℕ → (Kept → List ℕ → Did) → Did
answering (Some k) b f = f k b
answering None b f = did None b

abbrev pub and_then : Did → (Kept → List ℕ → Did) → Did
and_then d f = answering d.answer d.bytes f

unfoldable pub taken_parts : List (List ℕ) → Kept → List ℕ → Did
taken_parts [] k b = did (Some k) b
taken_parts (p ∷ ps) k b = and_then (taken_part p k b) (taken_parts ps)

-- the text whose parts come first
unfoldable pub first_of : List ℕ → List ℕ → List ℕ
first_of folder name = if is_empty folder then name else folder

-- what an include's path leaves in the buffer
unfoldable pub sought_bytes : List ℕ → List ℕ → List ℕ → List ℕ
sought_bytes folder name b = (taken_parts (split (joined folder name)) root b).bytes

-- the path that is looked for, by its length in the buffer
unfoldable pub sought_as : Maybe (List ℕ) → Option ℕ
sought_as none = None
sought_as (some path) = Some (length path)

-- the path that stands in the buffer
abbrev pub path_in : Option ℕ → List ℕ → Maybe (List ℕ)
path_in (Some n) b = some (take n b)
path_in None b = none

abbrev pub Within : Option ℕ → Type 0
Within (Some n) = n ≤ file_name_bytes
Within None = Unit {0}
