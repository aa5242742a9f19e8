-- Where the line of an entry stands, in words.
use Rattle.std.specs.Prelude.{List, [], ◌∷◌, ◌≡◌, refl, ℕ, ◌-◌, eqb, ltb, length, get_or, if◌then◌else◌}
use Rattle.definition.specs.Lists.{ascii}
use Rattle.definition.specs.Archive.{File}
use Rattle.definition.specs.Evaluation.{file}

-- 0 is the main text, and so are the texts of a start-up; else the place of a file on the archive, from 1, which is named; all else is
-- unknown. No file's name has a blank
unfoldable pub file_told : List File → ℕ → List ℕ
file_told fs origin =
    if eqb origin 0 then ascii "main text" else
    if ltb (length fs) origin then ascii "unknown file" else
    (get_or fs (origin - 1) (record { name = []; body = [] })).name

examples :
    let fs = file "p" "" ∷ file "q/r" "" ∷ [] in
    (file_told fs 0 ≡ ascii "main text")
    × (file_told fs 1 ≡ ascii "p")
    × (file_told fs 2 ≡ ascii "q/r")
    × (file_told fs 3 ≡ ascii "unknown file")
    × (file_told fs 65535 ≡ ascii "unknown file")
    × (file_told [] 0 ≡ ascii "main text")
unfolding file_told
examples = (refl, refl, refl, refl, refl, refl)
