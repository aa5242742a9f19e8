-- The lines of the entries that a walk lists.
use Rattle.std.specs.Prelude.{List, [], ◌∷◌, ◌++◌, ◌≡◌, refl, ℕ, get_or}
use Rattle.definition.specs.Lists.{ascii}
use Rattle.definition.specs.Archive.{File}
use Rattle.definition.specs.Image.{key_of, Sourced, bare, with_origins}
use Rattle.definition.specs.Query.{Query, query_of}
use Rattle.definition.specs.Adding.{entries_added, numbers_of}
use Rattle.definition.specs.Evaluation.{definition, file}
use Rattle.printing.specs.Putting.{decimal, decimal_in}
use Rattle.shown_bytes.specs.Shown.{is_shown, shown_byte, shown}
use Rattle.places.specs.Places.{file_told}

-- an entry's number, and where its line stands
unfoldable pub head_of : ℕ → List ℕ → List ℕ
head_of i place = decimal i ++ ascii " " ++ place ++ ascii ": "

-- then its key, and the value as a terminal may show it
unfoldable pub listed_line : ℕ → List ℕ → List ℕ → List ℕ → List ℕ
listed_line i place key value = head_of i place ++ key ++ ascii ": " ++ shown value ++ ascii "\n"

abbrev pub blank : Sourced
blank = record { entry = record { parts = []; value = [] }; origin = 0 }

-- of entry i, where there is one, by the files of the archive
unfoldable pub line_at : List File → List Sourced → ℕ → List ℕ
line_at fs xs i = let x = get_or xs i blank in listed_line i (file_told fs x.origin) (key_of x.entry.parts) x.entry.value

-- a line for each of these numbers
unfoldable pub lines_at : List File → List Sourced → List ℕ → List ℕ
lines_at fs xs [] = []
lines_at fs xs (i ∷ is) = line_at fs xs i ++ lines_at fs xs is

-- for each that a walk lists of the entries
abbrev pub walk_lines : List File → Query → List Sourced → List ℕ
walk_lines fs q xs = lines_at fs xs (numbers_of q (bare xs))

examples :
    let fs = file "p" "" ∷ file "q" "" ∷ [] in
    let xs = with_origins (entries_added (ascii "a.b:0\n*b:\\033[2J\\\\\nc:2\na*b:")) (0 ∷ 2 ∷ 65535 ∷ 1 ∷ []) in
    (walk_lines fs (query_of (ascii "a.b") []) xs ≡ ascii "0 main text: .a.b: 0\n1 q: *b: \\033[2J\\134\n3 p: .a*b: \n")
    × (walk_lines fs (query_of (ascii "c") []) xs ≡ ascii "2 unknown file: .c: 2\n")
    × (walk_lines fs (query_of (ascii "d") []) xs ≡ [])
    × (walk_lines fs (query_of (ascii ".c") []) xs ≡ [])
unfolding definition decimal_in is_shown shown_byte shown file_told head_of listed_line line_at lines_at
examples = (refl, refl, refl, refl)
