-- Includes (document 01, "Includes"; Xlib 15.1, IncludeFile; `parse_data_with_base_directory`): all that a reading meets, in text
-- order and without limits, from its depth, its texts and the archive alone. At depth d the texts at depths 0 to d are read (document 02 (x)).
use Rattle.std.specs.Prelude.{List, [], ◌∷◌, ◌++◌, ℕ, zero, suc}
use Rattle.std.proofs.Math.Option.{Option, some, none}
use Rattle.definition.specs.Archive.{File, body_of, file_number, folder_of, path_of}
use Rattle.definition.specs.Text.{Entry, Line, skipped, include, entry, lines_of}

-- a chain of includes: the names of the files being read, outermost first; none for a text of the reading
abbrev pub Chain : Type 0
Chain = List (List ℕ)

-- document 01's open, with the chain that ends in the file opened; and an entry, with the chain of its line
pub data Event : Type 0 where
  opened : Chain → Event
  entered : Chain → Entry → Event

-- the lines of a text with that chain, where `including` reads an include; its events stand at the include's place.
-- Departure: a file's last line ends with the file, and is not joined with what follows the include
unfoldable pub events_of : (List ℕ → List Event) → Chain → List Line → List Event
events_of including chain [] = []
events_of including chain (skipped ∷ ls) = events_of including chain ls
events_of including chain (include n ∷ ls) = including n ++ events_of including chain ls
events_of including chain (entry e ∷ ls) = entered chain e ∷ events_of including chain ls

-- a file that was looked for, if it is there
unfoldable pub opening : Chain → (List ℕ → List Event) → Option (List ℕ) → List Event
opening chain reading none = []
opening chain reading (some body) = opened chain ∷ reading body

-- a path that an include looks for, if it has one
unfoldable pub seeking : (List ℕ → List Event) → Option (List ℕ) → List Event
seeking finding none = []
seeking finding (some file) = finding file

-- an include of n from a text in `folder` with that chain; d depths are left below that text, and with none the include adds nothing. The
-- chain and the folder below are of the file's own name, never of the way it was reached
unfoldable pub including : ℕ → List File → List ℕ → Chain → List ℕ → List Event
including zero fs folder chain n = []
including (suc d) fs folder chain n =
    seeking
    (λ file.
    let below = chain ++ file ∷ [] in
    opening below (λ body. events_of (including d fs (folder_of file) below) below (lines_of body)) (body_of fs file))
    (path_of folder n)

-- a text of the reading, at depth 0: its folder and its chain are empty
unfoldable pub events : ℕ → List File → List ℕ → List Event
events depth fs text = events_of (including depth fs [] []) [] (lines_of text)

-- the texts of the reading, one after another (document 02 (i)); document 01's main text is the list of one. A text ends at its own end:
-- its last line is not joined with the next text
unfoldable pub events_of_all : ℕ → List File → List (List ℕ) → List Event
events_of_all depth fs [] = []
events_of_all depth fs (text ∷ texts) = events depth fs text ++ events_of_all depth fs texts

-- ---- Of what a reading meets

abbrev pub chain_of : Event → Chain
chain_of (opened ch) = ch
chain_of (entered ch e) = ch

pub record Entered : Type 0 where
  pub chain : Chain
  pub entry : Entry

-- each entry with its chain of includes. Departure: two entries of one name are both kept
unfoldable pub entries_of : List Event → List Entered
entries_of [] = []
entries_of (opened ch ∷ es) = entries_of es
entries_of (entered ch e ∷ es) = record { chain = ch; entry = e } ∷ entries_of es

-- where the line of such a chain stands (document 02 (viii)): 0 for a text of the reading, else the place on the archive, from 1, of the
-- file that is read there, the last on the chain
unfoldable pub origin_of : List File → Chain → ℕ
origin_of fs [] = 0
origin_of fs (file ∷ []) = suc (file_number file fs)
origin_of fs (file ∷ next ∷ chain) = origin_of fs (next ∷ chain)

unfoldable pub opens_of : List Event → ℕ
opens_of [] = 0
opens_of (opened ch ∷ es) = suc (opens_of es)
opens_of (entered ch e ∷ es) = opens_of es
