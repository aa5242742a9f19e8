-- An archive (document 01's shelf) with one file more.
use Rattle.std.specs.Prelude.{Result, Ok, Err, not, List, [], ◌∷◌, ℕ, leb, ltb, length, if◌then◌else◌}
use Rattle.std.proofs.Math.Seq.{paste}
use Rattle.definition.specs.Lists.{lower}
use Rattle.definition.specs.Limits.{archive_bytes, archive_files}
use Rattle.definition.specs.Archive.{File, archive_of, files_of, is_file_name}
use Rattle.archive_slot.specs.Slots.{on_it}
use Rattle.archive_add.specs.declared.AddError.{AddError}
use Rattle.archive_add.specs.declared.AddError.TheVariants.{NotAName, Again, TooMany, TooLarge}

abbrev pub file_of : List ℕ → List ℕ → File
file_of n b = record { name = n; body = b }

-- a file after those that stand below it, and before the others
unfoldable pub inserted : File → List File → List File
inserted f [] = f ∷ []
inserted f (g ∷ gs) = if lower g.name f.name then g ∷ inserted f gs else f ∷ g ∷ gs

-- the archive with that file more
unfoldable pub archive_with : File → List ℕ → List ℕ
archive_with f s = archive_of (inserted f (files_of s))

-- an answer, and what is then in the bytes lent for the archive
pub record Addition : Type 0 where
  pub answer : Result ℕ AddError
  pub out : List ℕ

abbrev pub addition_of : Result ℕ AddError → List ℕ → Addition
addition_of a out = record { answer = a; out = out }

-- the archive with a file more at the front of `out`, or the first reason why there is none
unfoldable pub adding : File → List ℕ → List ℕ → Addition
adding f s out =
    if not (is_file_name f.name) then addition_of (Err NotAName) out else
    if on_it f.name (files_of s) then addition_of (Err Again) out else
    if leb archive_files (length (files_of s)) then addition_of (Err TooMany) out else
    if ltb archive_bytes (length (archive_with f s)) then addition_of (Err TooLarge) out else
    if ltb (length out) (length (archive_with f s)) then addition_of (Err TooLarge) out else
    addition_of (Ok (length (archive_with f s))) (paste out 0 (archive_with f s) (length (archive_with f s)))
