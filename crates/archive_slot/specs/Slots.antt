-- The place of a name among the files of an archive (document 01's shelf).
use Rattle.std.specs.Prelude.{Result, Ok, Err, Bool, List, [], ◌∷◌, ℕ, suc, if◌then◌else◌}
use Rattle.definition.specs.Lists.{any, same, lower}
use Rattle.definition.specs.Archive.{File, files_of}
use Rattle.archive.specs.Walk.{name_start}
use Rattle.archive_slot.specs.declared.Slot.{Slot}

-- how many files stand below a name, in files that rise
unfoldable pub below : List ℕ → List File → ℕ
below n [] = 0
below n (f ∷ fs) = if lower f.name n then suc (below n fs) else 0

-- is there a file of that name?
unfoldable pub on_it : List ℕ → List File → Bool
on_it n fs = any (λ f. same f.name n) fs

-- where a name stands among the files of an archive
unfoldable pub place_for : List ℕ → List ℕ → Slot
place_for n s = record { index = below n (files_of s); at = name_start (below n (files_of s)) s }

-- the place of the file of that name, or where such a file would go in
unfoldable pub slot_for : List ℕ → List ℕ → Result Slot Slot
slot_for n s = if on_it n (files_of s) then Ok (place_for n s) else Err (place_for n s)
