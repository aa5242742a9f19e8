-- What the code answers on an include.
use Rattle.std.specs.Prelude.{Option, Some, None, List, ◌≡◌, ℕ, ◌≤◌, length, take}
use Rattle.std.proofs.Math.Option.{Option as Maybe, some, none}
use Rattle.definition.specs.Limits.{file_name_bytes}
use Rattle.definition.specs.Archive.{files_of, path_of}
use Rattle.archive.specs.Walk.{file_in}
use Rattle.archive_find.specs.Finding.{find_in}
use Rattle.archive.specs.declared.Member.{Member}
use Rattle.include_paths.specs.Sought.{sought_bytes}
use Rattle.missing.specs.Missing.{Seen, found, absent, nowhere, seen}
use Rattle.missing.specs.declared.Look.{Look}
use Rattle.missing.specs.declared.Look.TheVariants.{File, Absent, Nowhere}

unfoldable pub looked_up : List ℕ → Option Member → Look
looked_up path (Some m) = File m
looked_up path None = Absent (length path)

-- by the path that is looked for
unfoldable pub look_in : List ℕ → Maybe (List ℕ) → Look
look_in s none = Nowhere
look_in s (some path) = looked_up path (find_in s path)

-- what an answer says of the include of a name, whose path stands in a buffer
abbrev pub saying : List ℕ → List ℕ → List ℕ → Look → Seen
saying s name path (File m) = found (file_in s m).name
saying s name path (Absent n) = absent name (take n path)
saying s name path Nowhere = nowhere name

-- the file's name and body stand in the archive, the path in the buffer
abbrev pub Stands : List ℕ → Look → Type 0
Stands s (File m) = (m.start ≤ m.body) × (m.body ≤ m.end) × (m.end ≤ length s)
Stands s (Absent n) = n ≤ file_name_bytes
Stands s Nowhere = Unit {0}

pub record Looks (s folder name path path' : List ℕ) (r : Look) : Type 0 where
  pub is : r ≡ look_in s (path_of folder name)
  pub says : saying s name path' r ≡ seen (files_of s) folder name
  pub stands : Stands s r
  pub leaves : path' ≡ sought_bytes folder name path
