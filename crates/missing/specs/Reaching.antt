-- Files reached through includes, each once, in the order in which they are reached.
use Rattle.std.specs.Prelude.{Bool, true, ◌&&◌, List, [], ◌∷◌, ◌≡◌, ℕ, ◌+◌, ◌≤◌, eqb, leb, length, get_or, set, replicate, if◌then◌else◌}
use Rattle.definition.specs.Lists.{all}
use Rattle.definition.specs.Limits.{archive_files}
use Rattle.definition.specs.Archive as shelf
use Rattle.archive.specs.Walk.{file_in}
use Rattle.archive.specs.declared.Member.{Member}
use Rattle.missing.specs.Looking.{look_in}
use Rattle.missing.specs.declared.Look.{Look}
use Rattle.missing.specs.declared.Look.TheVariants.{File, Absent, Nowhere}
use Rattle.missing.specs.declared.Reached.{Reached}

abbrev pub reached : List Member → List ℕ → ℕ → Reached
reached files seen count = record { files = files; seen = seen; count = count }

abbrev pub no_member : Member
no_member = record { number = 0; start = 0; body = 0; end = 0 }

abbrev pub none_reached : Reached
none_reached = reached (replicate archive_files no_member) (replicate archive_files 0) 0

-- a file more, if it is not among them and there is room
unfoldable pub reaching : Reached → Member → Reached
reaching r m =
    if leb archive_files m.number then r
    else if leb archive_files r.count then r
    else if eqb (get_or r.seen m.number 0) 0
    then reached (set r.files r.count m) (set r.seen m.number 1) (r.count + 1)
    else r

-- what an include finds, if it finds a file
unfoldable pub reaching_look : Reached → Look → Reached
reaching_look r (File m) = reaching r m
reaching_look r (Absent n) = r
reaching_look r Nowhere = r

-- what includes of these names from a folder find in an archive, in their order
unfoldable pub reaching_all : List ℕ → List ℕ → Reached → List (List ℕ) → Reached
reaching_all s folder r [] = r
reaching_all s folder r (name ∷ names) = reaching_all s folder (reaching_look r (look_in s (shelf.path_of folder name))) names

-- file i of those that are reached
abbrev pub member_at : Reached → ℕ → Member
member_at r i = get_or r.files i no_member

-- and its name and body, as they stand in the archive
abbrev pub file_at : List ℕ → Reached → ℕ → shelf.File
file_at s r i = file_in s (member_at r i)

-- ---- What is kept of them

-- a file's name and body stand in an archive of n bytes
abbrev pub Within : ℕ → Member → Type 0
Within n m = (m.start ≤ m.body) × (m.body ≤ m.end) × (m.end ≤ n)

unfoldable pub stands_in : ℕ → Member → Bool
stands_in n m = leb m.start m.body && leb m.body m.end && leb m.end n

-- all that are reached stand, and there is room for them
pub record Waiting (n : ℕ) (r : Reached) : Type 0 where
  pub stand : all (stands_in n) r.files ≡ true
  pub long : length r.files ≡ archive_files
  pub few : r.count ≤ archive_files
