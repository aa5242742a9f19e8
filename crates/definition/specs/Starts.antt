-- Document 02 (i), sentence by sentence, by evaluating the definition. The crate `bounds` has its limits.
use Rattle.std.specs.Prelude.{Bool, true, false, List, [], ◌∷◌, ◌≡◌, refl, ℕ}
use Rattle.std.proofs.Math.Option.{Option, some, none}
use Prim.Native.String.{String}
use Rattle.definition.specs.Lists.{ascii}
use Rattle.definition.specs.Limits.{greatest_depth}
use Rattle.definition.specs.Archive.{archive_of}
use Rattle.definition.specs.Reading.{judge, start, met, read_entries, within}
use Rattle.definition.specs.StartUp.{StartUp, texts_used}
use Rattle.definition.specs.Evaluation.{definition, file, Written, line, written}

-- ---- Which texts are used

-- a property of that format, and .Xresources
starts : ℕ → String → Option (List ℕ) → StartUp
starts format property xresources = record {
  format = format;
  property = ascii property;
  xresources = xresources;
  xdefaults = some (ascii "d");
  is_set = true;
  xenvironment = none;
  host = some (ascii "h");
}

-- XENVIRONMENT and the host's text, behind a property
ends : Bool → Option (List ℕ) → Option (List ℕ) → StartUp
ends is_set named host = record {
  format = 8;
  property = ascii "p";
  xresources = some (ascii "r");
  xdefaults = some (ascii "d");
  is_set = is_set;
  xenvironment = named;
  host = host;
}

one : String → List (List ℕ)
one text = ascii text ∷ []

two : String → String → List (List ℕ)
two first second = ascii first ∷ ascii second ∷ []

first :
    (texts_used (starts 8 "p" (some (ascii "r"))) ≡ one "p")
    × (texts_used (starts 16 "p" (some (ascii "r"))) ≡ one "r")
    × (texts_used (starts 0 "p" (some (ascii "r"))) ≡ one "r")
    × (texts_used (starts 8 "" (some (ascii "r"))) ≡ one "r")
    -- even if empty
    × (texts_used (starts 8 "" (some [])) ≡ one "")
    × (texts_used (starts 8 "" none) ≡ one "d")
    × (texts_used (starts 32 "p" none) ≡ one "d")
unfolding definition starts one
first = (refl, refl, refl, refl, refl, refl, refl)

second :
    (texts_used (ends true (some (ascii "x")) (some (ascii "h"))) ≡ two "p" "x")
    × (texts_used (ends true (some []) (some (ascii "h"))) ≡ two "p" "")
    -- set, and its text could not be read: neither that nor the host's
    × (texts_used (ends true none (some (ascii "h"))) ≡ one "p")
    × (texts_used (ends false (some (ascii "x")) (some (ascii "h"))) ≡ two "p" "h")
    × (texts_used (ends false (some (ascii "x")) none) ≡ one "p")
unfolding definition ends one two
second = (refl, refl, refl, refl, refl)

-- nothing that could be read
nothing : texts_used (record { format = 0; property = []; xresources = none; xdefaults = none; is_set = false; xenvironment = none; host = none }) ≡ []
unfolding definition
nothing = refl

-- ---- How they are read

entries_of_both : String → String → List Written
entries_of_both a b = written (read_entries greatest_depth (two a b) (archive_of (file "d/p" "#include \"q\"" ∷ file "d/q" "a:below" ∷ file "q" "a:beside" ∷ [])))

-- a text ends at its own end: a last backslash, octal digits or an unfinished line never run into the next
apart :
    (entries_of_both "a:1" "b:2" ≡ line ".a" "1" ∷ line ".b" "2" ∷ [])
    × (entries_of_both "a:1\\" "b:2" ≡ line ".a" "1\\" ∷ line ".b" "2" ∷ [])
    × (entries_of_both "a:1\\" "\nb:2" ≡ line ".a" "1\\" ∷ line ".b" "2" ∷ [])
    × (entries_of_both "a:\\10" "1:2" ≡ line ".a" "" ∷ line ".1" "2" ∷ [])
    × (entries_of_both "a" ":1" ≡ [])
    × (entries_of_both "a." "b:1" ≡ line ".b" "1" ∷ [])
    × (entries_of_both "! not" "b:1" ≡ line ".b" "1" ∷ [])
    × (entries_of_both "#include \"q" "\"\nb:1" ≡ line ".b" "1" ∷ [])
    × (entries_of_both "" "b:1" ≡ line ".b" "1" ∷ [])
    × (entries_of_both "a:1" "a:1" ≡ line ".a" "1" ∷ line ".a" "1" ∷ [])
unfolding definition written entries_of_both two
apart = (refl, refl, refl, refl, refl, refl, refl, refl, refl, refl)

-- each text has the empty folder, whatever the text before it included
folders :
    (entries_of_both "#include \"d/p\"" "#include \"q\"" ≡ line ".a" "below" ∷ line ".a" "beside" ∷ [])
    × (entries_of_both "#include \"q\"" "#include \"q\"" ≡ line ".a" "beside" ∷ line ".a" "beside" ∷ [])
unfolding definition written entries_of_both two
folders = (refl, refl)

-- opens, entries and store are counted over the whole of it
counted : judge start (met greatest_depth (two "#include \"p\"\na:1" "#include \"p\"\nb:22") (archive_of (file "p" "c:" ∷ []))) ≡ within (record { opens = 2; entries = 4; used = 11 })
unfolding definition two
counted = refl
