-- The archive: document 01's shelf, which stands in for the file system.
use Rattle.std.specs.Prelude.{Bool, true, false, ◌&&◌, ◌||◌, not, List, [], ◌∷◌, ◌++◌, map, ℕ, zero, suc, ◌+◌, ◌*◌, ◌/◌, ◌%◌, eqb, leb, length, take, drop, get_or, if◌then◌else◌}
use Rattle.std.proofs.Math.Option.{Option, some, none}
use Rattle.definition.specs.Lists.{ascii, all, any, is_empty, same, lower}
use Rattle.definition.specs.Limits.{archive_bytes, archive_files, file_name_bytes}
use Rattle.definition.specs.Bytes.{dot, slash, is_name}

pub record File : Type 0 where
  pub name : List ℕ
  pub body : List ℕ

-- ---- The layout

-- two bytes, low byte first
abbrev pub bytes_of : ℕ → List ℕ
bytes_of n = n % 256 ∷ n / 256 ∷ []

-- per file two such numbers: name length, body length
unfoldable pub lengths_of : List File → List ℕ
lengths_of [] = []
lengths_of (f ∷ fs) = bytes_of (length f.name) ++ bytes_of (length f.body) ++ lengths_of fs

-- per file its name and its body
unfoldable pub bodies_of : List File → List ℕ
bodies_of [] = []
bodies_of (f ∷ fs) = f.name ++ f.body ++ bodies_of fs

-- the number of files, the lengths, the bodies, with nothing after
unfoldable pub archive_of : List File → List ℕ
archive_of fs = bytes_of (length fs) ++ lengths_of fs ++ bodies_of fs

-- ---- The files of an archive

abbrev pub number_at : List ℕ → ℕ → ℕ
number_at s i = get_or s i 0 + 256 * get_or s (i + 1) 0

-- n files, whose lengths stand in `lengths` and whose names and bodies in `bodies`
unfoldable pub files_from : ℕ → List ℕ → List ℕ → List File
files_from zero lengths bodies = []
files_from (suc n) lengths bodies =
    record { name = take (number_at lengths 0) bodies; body = take (number_at lengths 2) (drop (number_at lengths 0) bodies) }
    ∷ files_from n (drop 4 lengths) (drop (number_at lengths 0 + number_at lengths 2) bodies)

unfoldable pub files_of : List ℕ → List File
files_of s = files_from (number_at s 0) (drop 2 s) (drop (2 + 4 * number_at s 0) s)

-- ---- Names

-- a byte before the first of some parts
unfoldable pub prefixed : ℕ → List (List ℕ) → List (List ℕ)
prefixed c [] = (c ∷ []) ∷ []
prefixed c (p ∷ ps) = (c ∷ p) ∷ ps

-- the parts of a name: what stands between its `/`
unfoldable pub split : List ℕ → List (List ℕ)
split [] = [] ∷ []
split (c ∷ t) = if eqb c slash then [] ∷ split t else prefixed c (split t)

-- a part is one or more of A to Z, a to z, 0 to 9, `_`, `-`, `.`, and neither `.` nor `..`
unfoldable pub is_name_part : List ℕ → Bool
is_name_part p =
    not (is_empty p) && all (λ c. is_name c || eqb c dot) p && not (same p (ascii ".")) && not (same p (ascii ".."))

-- a name has 1 to 96 bytes and is parts joined by single `/`
unfoldable pub is_file_name : List ℕ → Bool
is_file_name n = leb (length n) file_name_bytes && all is_name_part (split n)

-- names rise strictly by bytes, a prefix first
unfoldable pub rising : List (List ℕ) → Bool
rising [] = true
rising (n ∷ []) = true
rising (n ∷ m ∷ ns) = lower n m && rising (m ∷ ns)

-- ---- An archive that is laid out, and one with a file struck off

abbrev pub are_files : List File → Bool
are_files fs = leb (length fs) archive_files && all (λ f. is_file_name f.name) fs && rising (map (λ f. f.name) fs)

-- the bytes are those of the files that they hold, and of nothing else
unfoldable pub laid_out : List ℕ → Bool
laid_out s = leb (length s) archive_bytes && same (archive_of (files_of s)) s && are_files (files_of s)

-- striking off file j (from 0); the others keep their order
abbrev pub removed : ℕ → List File → List File
removed j fs = take j fs ++ drop (suc j) fs

unfoldable pub struck_off : ℕ → List ℕ → List ℕ
struck_off j s = archive_of (removed j (files_of s))

-- ---- Folders and finding a file

-- the name before its last `/`, or empty
unfoldable pub folder_of : List ℕ → List ℕ
folder_of [] = []
folder_of (c ∷ t) = if any (eqb slash) t then c ∷ folder_of t else []

-- folder and name joined; the empty folder is the root
unfoldable pub joined : List ℕ → List ℕ → List ℕ
joined folder name = if is_empty folder then name else folder ++ slash ∷ name

-- document 02 (iii): the parts of an include's path below a path so far. `.` parts are dropped, and `..` removes the part before it, whatever
-- that is; an empty part, and going above the root, find nothing
unfoldable pub reduced : List ℕ → List (List ℕ) → Option (List ℕ)
reduced path [] = some path
reduced path (p ∷ ps) =
    if is_empty p then none
    else if same p (ascii ".") then reduced path ps
    else if same p (ascii "..") then (if is_empty path then none else reduced (folder_of path) ps)
    else reduced (joined path p) ps

-- is a path's last part `.` or `..`?
unfoldable pub ends_in_dots : List (List ℕ) → Bool
ends_in_dots [] = false
ends_in_dots (p ∷ []) = same p (ascii ".") || same p (ascii "..")
ends_in_dots (p ∷ q ∷ ps) = ends_in_dots (q ∷ ps)

-- the 96-byte bound is on the result
unfoldable pub as_file_name : Option (List ℕ) → Option (List ℕ)
as_file_name none = none
as_file_name (some path) = if leb (length path) file_name_bytes then some path else none

-- what an include of `name` from `folder` looks for, over folder and name joined; a last part `.` or `..` finds nothing
unfoldable pub path_of : List ℕ → List ℕ → Option (List ℕ)
path_of folder name =
    let parts = split (joined folder name) in
    if ends_in_dots parts then none else as_file_name (reduced [] parts)

-- the body of the file with that name. Departure: a name that is not UTF-8 is never opened; here no file has such a name
unfoldable pub body_of : List File → List ℕ → Option (List ℕ)
body_of [] n = none
body_of (f ∷ fs) n = if same f.name n then some f.body else body_of fs n

-- the number of the file of that name, counted from 0, or the number of files
unfoldable pub file_number : List ℕ → List File → ℕ
file_number n [] = 0
file_number n (f ∷ fs) = if same f.name n then 0 else suc (file_number n fs)
