-- The includes of a text that find no file.
use Rattle.std.specs.Prelude.{Bool, true, false, List, [], ◌∷◌, map, ◌≡◌, refl, ℕ, if◌then◌else◌}
use Rattle.std.proofs.Math.Option.{Option, some, none}
use Rattle.definition.specs.Lists.{ascii, filter}
use Rattle.definition.specs.Archive.{File, path_of, body_of}
use Rattle.definition.specs.Evaluation.{definition, file}
use Rattle.include_lines.specs.Includes.{included_by, includes_of}

-- an include finds the file of that path; or no file has the path of its name; or its name has no path
pub data Seen : Type 0 where
  found : List ℕ → Seen
  absent : List ℕ → List ℕ → Seen
  nowhere : List ℕ → Seen

unfoldable pub seen_body : List ℕ → List ℕ → Option (List ℕ) → Seen
seen_body name path none = absent name path
seen_body name path (some b) = found path

unfoldable pub seen_at : List File → List ℕ → Option (List ℕ) → Seen
seen_at fs name none = nowhere name
seen_at fs name (some path) = seen_body name path (body_of fs path)

-- what an include of a name from a folder finds
unfoldable pub seen : List File → List ℕ → List ℕ → Seen
seen fs folder name = seen_at fs name (path_of folder name)

unfoldable pub is_missing : Seen → Bool
is_missing (found p) = false
is_missing (absent n p) = true
is_missing (nowhere n) = true

-- what is told of an include
unfoldable pub told : Seen → List Seen
told s = if is_missing s then s ∷ [] else []

-- what is told of a text in a folder
unfoldable pub missing_of : List File → List ℕ → List ℕ → List Seen
missing_of fs folder t = filter is_missing (map (seen fs folder) (includes_of t))

-- an entry that looks like an include in its value, a name that leads to a file, one that leads to none, and one that has no path
examples :
    (missing_of (file "q" "" ∷ []) [] (ascii "a: \\\n#include \"x\"\n#include \"b/../q\"\n#include \"./y\"\n#include \"../q\"\n")
    ≡ absent (ascii "./y") (ascii "y") ∷ nowhere (ascii "../q") ∷ [])
    × (missing_of (file "a/p" "" ∷ []) (ascii "a") (ascii "#include \"p\"\n #include \"z\"\n#include \"\"") ≡ nowhere [] ∷ [])
unfolding definition missing_of is_missing seen seen_at seen_body includes_of included_by
examples = (refl, refl)
