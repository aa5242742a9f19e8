-- Where the files of an archive stand, and what a walk over them works out.
use Rattle.std.specs.Prelude.{Bool, true, ◌&&◌, List, [], ◌∷◌, ℕ, ◌+◌, ◌-◌, ◌*◌, length, take, drop}
use Rattle.definition.specs.Lists.{lower}
use Rattle.definition.specs.Archive.{File, number_at, bodies_of, files_of, is_file_name}
use Rattle.archive.specs.declared.Member.{Member}

-- where the lengths of file j stand; names and bodies begin after those of all files
abbrev pub lengths_at : ℕ → ℕ
lengths_at j = 2 + 4 * j

-- where the name of file j starts: after the lengths and the files before it
unfoldable pub name_start : ℕ → List ℕ → ℕ
name_start j s = lengths_at (length (files_of s)) + length (bodies_of (take j (files_of s)))

-- file j, whose name starts at `start`, by its two lengths
abbrev pub member_at : List ℕ → ℕ → ℕ → Member
member_at s j start = record {
  number = j;
  start = start;
  body = start + number_at s (lengths_at j);
  end = start + number_at s (lengths_at j) + number_at s (lengths_at j + 2);
}

-- the file that stands there
abbrev pub file_in : List ℕ → Member → File
file_in s m = record { name = take (m.body - m.start) (drop m.start s); body = take (m.end - m.body) (drop m.body s) }

-- are the names file names, each above the one before it, and the first above `last`?
unfoldable pub rising_from : List ℕ → List File → Bool
rising_from last [] = true
rising_from last (f ∷ fs) = is_file_name f.name && lower last f.name && rising_from f.name fs
