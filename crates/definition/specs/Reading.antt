-- The reading call: document 01's limits laid over what a reading meets, and what the call leaves in the two lent buffers.
use Rattle.std.specs.Prelude.{Bool, not, List, [], ◌∷◌, map, ℕ, ◌+◌, leb, ltb, length, if◌then◌else◌}
use Rattle.definition.specs.Lists.{any}
use Rattle.definition.specs.Limits.{text_bytes, greatest_depth, most_opens, most_entries, most_parts, body_bytes}
use Rattle.definition.specs.Archive.{File, laid_out, files_of}
use Rattle.definition.specs.Text.{Entry}
use Rattle.definition.specs.Including.{Event, opened, entered, events_of_all, Entered, entries_of, origin_of}
use Rattle.definition.specs.Image.{key_of, Sourced, bare, image_contents, image_bodies, too_short}

-- ---- The limits, in text order

pub record Totals : Type 0 where
  pub opens : ℕ
  pub entries : ℕ
  pub used : ℕ

pub data Verdict : Type 0 where
  within : Totals → Verdict
  past : ℕ → Verdict

-- the bytes of an entry's key and value
abbrev pub size_of : Entry → ℕ
size_of e = length (key_of e.parts) + length e.value

unfoldable pub judge : Totals → List Event → Verdict
judge s [] = within s
judge s (opened ch ∷ es) =
    if leb most_opens s.opens then past 4 else
    judge (record { opens = s.opens + 1; entries = s.entries; used = s.used }) es
judge s (entered ch e ∷ es) =
    if ltb most_parts (length e.parts) then past 5 else
    if leb most_entries s.entries then past 6 else
    if ltb body_bytes (s.used + size_of e) then past 7 else
    judge (record { opens = s.opens; entries = s.entries + 1; used = s.used + size_of e }) es

-- ---- The call

pub data Answer : Type 0 where
  accepted : ℕ → ℕ → Answer  -- entries and opens
  refused : ℕ → Answer  -- a number of document 01's table

-- a call's answer and the two buffers afterwards
pub record Outcome : Type 0 where
  pub answer : Answer
  pub contents : List ℕ
  pub bodies : List ℕ

abbrev pub outcome : Answer → List ℕ → List ℕ → Outcome
outcome a c b = record { answer = a; contents = c; bodies = b }

-- all that a reading of its texts at a depth meets; document 01's main text is the list of one
abbrev pub met : ℕ → List (List ℕ) → List ℕ → List Event
met depth texts archive = events_of_all depth (files_of archive) texts

-- the entries of a reading, with their chains and without
abbrev pub read_entries : ℕ → List (List ℕ) → List ℕ → List Entered
read_entries depth texts archive = entries_of (met depth texts archive)

abbrev pub plain : List Entered → List Entry
plain xs = map (λ x. x.entry) xs

-- the same with their origins on the archive
abbrev pub sourced : List File → List Entered → List Sourced
sourced fs xs = map (λ x. record { entry = x.entry; origin = origin_of fs x.chain }) xs

-- 4 to 7 leave the image of no entries
unfoldable pub left : Verdict → List Sourced → List ℕ → List ℕ → Outcome
left (within s) xs contents bodies = outcome (accepted s.entries s.opens) (image_contents xs contents) (image_bodies (bare xs) bodies)
left (past k) xs contents bodies = outcome (refused k) (image_contents [] contents) (image_bodies [] bodies)

abbrev pub start : Totals
start = record { opens = 0; entries = 0; used = 0 }

-- limit 2, which holds for each text
abbrev pub too_long : List ℕ → Bool
too_long text = ltb text_bytes (length text)

-- a depth that no caller may give (document 02 (x))
abbrev pub too_deep : ℕ → Bool
too_deep depth = ltb greatest_depth depth

-- 1, 2, 3 and 15 are tested first and change nothing
unfoldable pub reading : ℕ → List (List ℕ) → List ℕ → List ℕ → List ℕ → Outcome
reading depth texts archive contents bodies =
    if too_short contents bodies then outcome (refused 1) contents bodies else
    if any too_long texts then outcome (refused 2) contents bodies else
    if not (laid_out archive) then outcome (refused 3) contents bodies else
    if too_deep depth then outcome (refused 15) contents bodies else
    left (judge start (met depth texts archive)) (sourced (files_of archive) (read_entries depth texts archive)) contents bodies
