-- Document 02 (viii) by evaluating the definition: from which file each entry is, and rows of three words and of four, a sentence each. The
-- crate `bounds` has the calls with whole buffers.
use Rattle.std.specs.Prelude.{true, false, List, [], ◌∷◌, map, ◌≡◌, refl, ℕ, take}
use Rattle.definition.specs.Lists.{ascii, all}
use Rattle.definition.specs.Limits.{default_depth}
use Rattle.definition.specs.Archive.{File, archive_of}
use Rattle.definition.specs.Image.{Sourced, bare, all_from, contents_of, Row, rows_by, origins_by, with_origins, is_origin}
use Rattle.definition.specs.Including.{origin_of}
use Rattle.definition.specs.Reading.{outcome, refused, read_entries, sourced}
use Rattle.definition.specs.Writing.{sources_of_image}
use Rattle.definition.specs.Adding.{entries_added}
use Rattle.definition.specs.Migration.{carried, migrating}
use Rattle.definition.specs.Evaluation.{definition, file}

-- three files; `base/a` is the first of them and `q` the third
files : List File
files = file "base/a" "in:a" ∷ file "p" "#include \"q\"\nin:p" ∷ file "q" "in:q\n#include \"./base/../base/a\"\nstill:q" ∷ []

-- where the lines of some texts stand
origins_read : List (List ℕ) → List ℕ
origins_read texts = map (λ (x : Sourced). x.origin) (sourced files (read_entries default_depth texts (archive_of files)))

origins :
    -- 0 for a line of the main text, before an include and after it
    (origins_read (ascii "a:1" ∷ []) ≡ 0 ∷ [])
    × (origins_read (ascii "a:1\n#include \"base/a\"\nb:2" ∷ []) ≡ 0 ∷ 1 ∷ 0 ∷ [])
    × (origins_read (ascii "#include \"none\"\na:1" ∷ []) ≡ 0 ∷ [])
    -- else the place, from 1, of the file where it stands: the last on its chain of includes, and again the one before it
    × (origins_read (ascii "#include \"q\"" ∷ []) ≡ 3 ∷ 1 ∷ 3 ∷ [])
    × (origins_read (ascii "#include \"p\"\na:1" ∷ []) ≡ 3 ∷ 1 ∷ 3 ∷ 2 ∷ 0 ∷ [])
    -- a chain's text is the main text
    × (origins_read (ascii "#include \"base/a\"\na:1" ∷ ascii "b:2" ∷ []) ≡ 1 ∷ 0 ∷ 0 ∷ [])
    × (origin_of files (ascii "p" ∷ ascii "q" ∷ []) ≡ 3)
    × (origin_of files (ascii "q" ∷ ascii "p" ∷ []) ≡ 2)
    × (origin_of files [] ≡ 0)
unfolding definition files origins_read
origins = (refl, refl, refl, refl, refl, refl, refl, refl, refl)

-- rows of four words, as a reading writes them: `.in` with the value `q`, and so on
written :
    (contents_of (sourced files (read_entries default_depth (ascii "#include \"p\"" ∷ []) (archive_of files)))
    ≡ 4 ∷ 19 ∷ 0 ∷ 3 ∷ 1 ∷ 3 ∷ 4 ∷ 3 ∷ 1 ∷ 1 ∷ 8 ∷ 6 ∷ 1 ∷ 3 ∷ 15 ∷ 3 ∷ 1 ∷ 2 ∷ [])
    × (contents_of (all_from 65535 (entries_added (ascii "a:1\n*b:"))) ≡ 2 ∷ 5 ∷ 0 ∷ 2 ∷ 1 ∷ 65535 ∷ 3 ∷ 2 ∷ 0 ∷ 65535 ∷ [])
unfolding definition files
written = (refl, refl)

row : ℕ → ℕ → ℕ → Row
row s k v = record { start = s; key_length = k; value_length = v }

-- the same words as rows of three and of four
widths :
    (rows_by 3 (2 ∷ 5 ∷ 0 ∷ 2 ∷ 1 ∷ 3 ∷ 2 ∷ 0 ∷ []) ≡ row 0 2 1 ∷ row 3 2 0 ∷ [])
    × (origins_by 3 (2 ∷ 5 ∷ 0 ∷ 2 ∷ 1 ∷ 3 ∷ 2 ∷ 0 ∷ []) ≡ 0 ∷ 0 ∷ [])
    × (rows_by 4 (2 ∷ 5 ∷ 0 ∷ 2 ∷ 1 ∷ 64 ∷ 3 ∷ 2 ∷ 0 ∷ 65535 ∷ []) ≡ row 0 2 1 ∷ row 3 2 0 ∷ [])
    × (origins_by 4 (2 ∷ 5 ∷ 0 ∷ 2 ∷ 1 ∷ 64 ∷ 3 ∷ 2 ∷ 0 ∷ 65535 ∷ []) ≡ 64 ∷ 65535 ∷ [])
    -- the entries of an image with their origins, and without
    × (sources_of_image (2 ∷ 5 ∷ 0 ∷ 2 ∷ 1 ∷ 64 ∷ 3 ∷ 2 ∷ 0 ∷ 65535 ∷ []) (ascii ".a1*b") ≡ with_origins (entries_added (ascii "a:1\n*b:")) (64 ∷ 65535 ∷ []))
    × (bare (sources_of_image (2 ∷ 5 ∷ 0 ∷ 2 ∷ 1 ∷ 64 ∷ 3 ∷ 2 ∷ 0 ∷ 65535 ∷ []) (ascii ".a1*b")) ≡ entries_added (ascii "a:1\n*b:"))
    -- 0 to 64, or 65,535
    × (all is_origin (0 ∷ 1 ∷ 64 ∷ 65535 ∷ []) ≡ true)
    × (is_origin 65 ≡ false)
    × (is_origin 65534 ≡ false)
unfolding definition row
widths = (refl, refl, refl, refl, refl, refl, refl, refl, refl)

-- old images carried over
carryings :
    -- 65,535 in every row, and zeroes behind them
    (take 12 (carried (entries_added (ascii "a:1\n*b:")) [] []).contents ≡ 2 ∷ 5 ∷ 0 ∷ 2 ∷ 1 ∷ 65535 ∷ 3 ∷ 2 ∷ 0 ∷ 65535 ∷ 0 ∷ 0 ∷ [])
    -- 8 before 1
    × (migrating [] [] [] [] ≡ outcome (refused 8) [] [])
unfolding definition
carryings = (refl, refl)
