-- What is claimed of the depth of a reading (document 02 (x)); the crate `laws` proves it of the definition.
use Rattle.std.specs.Prelude.{Bool, true, false, List, [], ◌≡◌, ℕ, zero, suc, ◌≤◌, leb, length}
use Rattle.std.proofs.Math.Option.{Option, some, none}
use Rattle.definition.specs.Lists.{any, filter}
use Rattle.definition.specs.Archive.{File, files_of, body_of, folder_of, path_of}
use Rattle.definition.specs.Text.{Line, skipped, include, entry, lines_of}
use Rattle.definition.specs.Including.{Event, chain_of}
use Rattle.definition.specs.Image.{too_short}
use Rattle.definition.specs.Reading.{met, too_deep, reading}
use Rattle.definition.specs.ThirdTerm.{is_accepted}

-- an open or an entry with a chain of at most d files
abbrev pub is_within : ℕ → Event → Bool
is_within d e = leb (length (chain_of e)) d

-- depth d meets what a greater depth meets with chains of at most d files, in their order
abbrev pub MeetsWithin : Type 0
MeetsWithin =
    (d e : ℕ) (texts : List (List ℕ)) (archive : List ℕ)
    → d ≤ e
    → met d texts archive ≡ filter (is_within d) (met e texts archive)

-- ---- Where a greater depth adds nothing

-- a file that was looked for is there, and its body passes the test
unfoldable pub opens : (List ℕ → Bool) → Option (List ℕ) → Bool
opens test none = false
opens test (some body) = test body

-- a path that an include looks for leads to a file whose name and body pass the test
unfoldable pub finds : (List ℕ → List ℕ → Bool) → List File → Option (List ℕ) → Bool
finds test fs none = false
finds test fs (some file) = opens (test file) (body_of fs file)

-- a line of a text in `folder` is an include that finds such a file
unfoldable pub includes_where : (List ℕ → List ℕ → Bool) → List File → List ℕ → Line → Bool
includes_where test fs folder skipped = false
includes_where test fs folder (include n) = finds test fs (path_of folder n)
includes_where test fs folder (entry e) = false

-- some text at depth d below a text in `folder` (at 0 that text itself) has an include that finds a file
unfoldable pub finds_at : ℕ → List File → List ℕ → List ℕ → Bool
finds_at zero fs folder text = any (includes_where (λ file body. true) fs folder) (lines_of text)
finds_at (suc d) fs folder text = any (includes_where (λ file body. finds_at d fs (folder_of file) body) fs folder) (lines_of text)

-- if no text at depth d has an include that finds a file, a greater depth meets the same
abbrev pub MeetsAll : Type 0
MeetsAll =
    (d e : ℕ) (texts : List (List ℕ)) (archive : List ℕ)
    → d ≤ e
    → any (finds_at d (files_of archive) []) texts ≡ false
    → met d texts archive ≡ met e texts archive

-- so at both depths, none over the greatest, the reading is the same: its answer, and every word and byte that it leaves
abbrev pub ReadsAll : Type 0
ReadsAll =
    (d e : ℕ) (texts : List (List ℕ)) (archive contents bodies : List ℕ)
    → d ≤ e
    → too_deep e ≡ false
    → any (finds_at d (files_of archive) []) texts ≡ false
    → reading d texts archive contents bodies ≡ reading e texts archive contents bodies

-- ---- A reading accepted at a depth is accepted at every smaller one

-- into any buffers that are long enough
abbrev pub AcceptedBelow : Type 0
AcceptedBelow =
    (d e : ℕ) (texts : List (List ℕ)) (archive contents bodies contents' bodies' : List ℕ)
    → d ≤ e
    → too_short contents' bodies' ≡ false
    → is_accepted (reading e texts archive contents bodies).answer ≡ true
    → is_accepted (reading d texts archive contents' bodies').answer ≡ true
