-- Document 02 (x), sentence by sentence, by evaluating the definition. The crate `bounds` has what each refusal leaves.
use Rattle.std.specs.Prelude.{Bool, true, false, List, [], ◌∷◌, map, ◌≡◌, refl, ℕ, length, replicate}
use Rattle.std.proofs.Math.Option.{some, none}
use Prim.Native.String.{String}
use Rattle.definition.specs.Lists.{ascii, any, filter}
use Rattle.definition.specs.Limits.{greatest_depth, default_depth, contents_words, body_bytes}
use Rattle.definition.specs.Archive.{archive_of, files_of, struck_off}
use Rattle.definition.specs.Including.{opens_of}
use Rattle.definition.specs.Query.{shell}
use Rattle.definition.specs.Reading.{Answer, accepted, refused, met, read_entries, too_deep, reading}
use Rattle.definition.specs.StartUp.{StartUp, texts_used}
use Rattle.definition.specs.ThirdTerm.{came_through, through_file, left_out, Case, with_file, without_file}
use Rattle.definition.specs.Nesting.{is_within, finds_at}
use Rattle.definition.specs.Evaluation.{definition, file, Written, line, written}

-- a caller may give 0 to 100, and gets 20 if it gives none
numbers :
    (greatest_depth ≡ 100)
    × (default_depth ≡ 20)
    × (too_deep 0 ≡ false)
    × (too_deep default_depth ≡ false)
    × (too_deep 100 ≡ false)
    × (too_deep 101 ≡ true)
    × (too_deep 18446744073709551615 ≡ true)
numbers = (refl, refl, refl, refl, refl, refl, refl)

-- ---- What a depth reads: a text includes `p`, each file includes the next and has an entry behind that

main : List (List ℕ)
main = ascii "#include \"p\"\nm:" ∷ []

three : List ℕ
three = archive_of (file "p" "#include \"q\"\np:" ∷ file "q" "#include \"r\"\nq:" ∷ file "r" "r:" ∷ [])

keys_at : ℕ → List Written
keys_at d = written (read_entries d main three)

-- at 0 nothing is opened; at d the texts at depths 0 to d are read, and an include's entries stand in its place
levels :
    (keys_at 0 ≡ line ".m" "" ∷ [])
    × (keys_at 1 ≡ line ".p" "" ∷ line ".m" "" ∷ [])
    × (keys_at 2 ≡ line ".q" "" ∷ line ".p" "" ∷ line ".m" "" ∷ [])
    × (keys_at 3 ≡ line ".r" "" ∷ line ".q" "" ∷ line ".p" "" ∷ line ".m" "" ∷ [])
    × (opens_of (met 0 main three) ≡ 0)
    × (opens_of (met 1 main three) ≡ 1)
    × (opens_of (met 2 main three) ≡ 2)
    × (opens_of (met 3 main three) ≡ 3)
    -- no file is deeper
    × (met 4 main three ≡ met 3 main three)
    × (met 100 main three ≡ met 3 main three)
unfolding definition written main three keys_at
levels = (refl, refl, refl, refl, refl, refl, refl, refl, refl, refl)

-- what a smaller depth meets, of what a greater one meets
smaller :
    (met 1 main three ≡ filter (is_within 1) (met 3 main three))
    × (met 0 main three ≡ filter (is_within 0) (met 3 main three))
    × (met 2 main three ≡ filter (is_within 2) (met 20 main three))
unfolding definition main three
smaller = (refl, refl, refl)

-- the texts that have an include that finds a file are at depths 0 to 2
includes : List Bool
includes = map (λ d. finds_at d (files_of three) [] (ascii "#include \"p\"\nm:")) (0 ∷ 1 ∷ 2 ∷ 3 ∷ 4 ∷ [])

found :
    (includes ≡ true ∷ true ∷ true ∷ false ∷ false ∷ [])
    -- one that finds none, and no include at all
    × (finds_at 0 (files_of three) [] (ascii "#include \"x\"\n#include \"d/../../p\"") ≡ false)
    × (finds_at 0 (files_of three) [] (ascii "a:1") ≡ false)
    -- from the file's own folder
    × (finds_at 1 (files_of (archive_of (file "d/p" "#include \"q\"" ∷ file "q" "" ∷ []))) [] (ascii "#include \"d/p\"") ≡ false)
    × (finds_at 1 (files_of (archive_of (file "d/p" "#include \"../q\"" ∷ file "q" "" ∷ []))) [] (ascii "#include \"d/p\"") ≡ true)
    -- one of two texts is enough
    × (any (finds_at 2 (files_of three) []) (ascii "a:1" ∷ ascii "#include \"p\"" ∷ []) ≡ true)
    × (any (finds_at 2 (files_of three) []) (ascii "a:1" ∷ ascii "#include \"q\"" ∷ []) ≡ false)
unfolding definition three includes
found = (refl, refl, refl, refl, refl, refl, refl)

-- ---- Runaway includes: `p` that includes itself and then has an entry

endless : List ℕ
endless = archive_of (file "p" "#include \"p\"\na:1" ∷ [])

opened_at : ℕ → ℕ
opened_at d = opens_of (met d (ascii "#include \"p\"" ∷ []) endless)

runaway :
    (opened_at 0 ≡ 0)
    × (opened_at 1 ≡ 1)
    × (opened_at 19 ≡ 19)
    × (opened_at default_depth ≡ 20)
    × (opened_at 21 ≡ 21)
    × (opened_at 99 ≡ 99)
    -- document 01's case
    × (opened_at greatest_depth ≡ 100)
    × (length (read_entries default_depth (ascii "#include \"p\"" ∷ []) endless) ≡ 20)
unfolding definition endless opened_at
runaway = (refl, refl, refl, refl, refl, refl, refl, refl)

-- ---- The chain of (i): each of its texts is at depth 0, and it passes 100

start : StartUp
start = record {
  format = 8;
  property = ascii "#include \"p\"";
  xresources = none;
  xdefaults = none;
  is_set = true;
  xenvironment = some (ascii "#include \"p\"");
  host = none;
}

chain :
    (opens_of (met 0 (texts_used start) endless) ≡ 0)
    × (opens_of (met 2 (texts_used start) endless) ≡ 4)
    × (opens_of (met greatest_depth (texts_used start) endless) ≡ 200)
unfolding definition endless start
chain = (refl, refl, refl)

-- ---- Striking off a file means what it did: at each depth all that came through it is gone, and nothing else

without : ℕ → List Written
without d = written (read_entries d main (struck_off 1 three))

struck :
    (without 0 ≡ keys_at 0)
    × (without 1 ≡ keys_at 1)
    × (without 3 ≡ line ".p" "" ∷ line ".m" "" ∷ [])
    × (without 3 ≡ written (left_out (through_file (ascii "q")) (read_entries 3 main three)))
unfolding definition written main three keys_at without came_through
struck = (refl, refl, refl, refl)

-- at one depth for both readings: entries and opens of each, with `q` and without it
case : ℕ → Case
case d = record {
  depth = d;
  texts = main;
  archive = three;
  file = 1;
  bounds = shell;
  name = [];
  class = [];
  contents = replicate contents_words 7;
  bodies = replicate body_bytes 7;
  contents' = replicate contents_words 7;
  bodies' = replicate body_bytes 7;
}

both :
    ((with_file (case 1)).answer ≡ accepted 2 1)
    × ((without_file (case 1)).answer ≡ accepted 2 1)
    × ((with_file (case 3)).answer ≡ accepted 4 3)
    × ((without_file (case 3)).answer ≡ accepted 2 1)
    × ((with_file (case 0)).answer ≡ accepted 1 0)
    × ((without_file (case 0)).answer ≡ accepted 1 0)
unfolding definition main three case
both = (refl, refl, refl, refl, refl, refl)

-- ---- Turned away: 15, a depth over 100, after 3 and before 4 to 7

answer_at : ℕ → String → List ℕ → Answer
answer_at d text archive = (reading d (ascii text ∷ []) archive (replicate contents_words 7) (replicate body_bytes 7)).answer

turned_away :
    (answer_at 100 "a:1" (0 ∷ 0 ∷ []) ≡ accepted 1 0)
    × (answer_at 101 "a:1" (0 ∷ 0 ∷ []) ≡ refused 15)
    × (answer_at 101 "a:1" [] ≡ refused 3)
    × (answer_at 101 "a.a.a.a.a.a.a.a.a.a.a.a.a.a.a.a.a:" (0 ∷ 0 ∷ []) ≡ refused 15)
unfolding definition answer_at
turned_away = (refl, refl, refl, refl)
