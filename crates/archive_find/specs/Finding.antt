-- What a search of an archive answers.
use Rattle.std.specs.Prelude.{Option, Some, None, List, [], ◌∷◌, ℕ, ◌+◌, length, if◌then◌else◌}
use Rattle.std.proofs.Math.Option.{Option as Maybe, some, none}
use Rattle.definition.specs.Lists.{same}
use Rattle.definition.specs.Archive.{File, files_of}
use Rattle.archive.specs.Walk.{lengths_at}
use Rattle.archive.specs.declared.Member.{Member}

-- file j, whose name starts at `start`: its name, and then its body
abbrev pub member_of : ℕ → ℕ → File → Member
member_of j start f = record { number = j; start = start; body = start + length f.name; end = start + length f.name + length f.body }

-- the first that has that name, of files whose first is file j and starts at `start`
unfoldable pub find_from : ℕ → ℕ → List File → List ℕ → Option Member
find_from j start [] path = None
find_from j start (f ∷ fs) path = if same f.name path then Some (member_of j start f) else find_from (j + 1) (member_of j start f).end fs path

-- the first file of an archive that has that name, where it stands
unfoldable pub find_in : List ℕ → List ℕ → Option Member
find_in s path = find_from 0 (lengths_at (length (files_of s))) (files_of s) path

-- the same of a path that is looked for, if there is one
unfoldable pub sought_in : List ℕ → Maybe (List ℕ) → Option Member
sought_in s none = None
sought_in s (some path) = find_in s path
