-- What an event does to the totals and the two buffers. proofs/Images.antt shows that a run leaves what the definition says.
use Rattle.std.specs.Prelude.{List, [], ◌∷◌, ◌++◌, ◌≡◌, ℕ, ◌+◌, ◌-◌, ◌≤◌, leb, ltb, length, take, set, if◌then◌else◌, Result, Ok, Err}
use Rattle.std.proofs.Math.Seq.{paste}
use Rattle.definition.specs.Lists.{zeroes}
use Rattle.definition.specs.Limits.{most_opens, most_entries, most_parts, body_bytes, contents_words}
use Rattle.definition.specs.Archive.{File}
use Rattle.definition.specs.Text.{Entry}
use Rattle.definition.specs.Including.{Event, opened, entered, origin_of}
use Rattle.definition.specs.Image.{Row, key_of}
use Rattle.definition.specs.Reading.{size_of, Outcome, outcome, accepted, refused}
use Rattle.image.specs.Rows.{row_start, with_row}
use Rattle.image.specs.declared.Totals.{Totals}
use Rattle.refusal.specs.Numbers.{number}
use Rattle.refusal.specs.declared.Refusal.{Refusal}

-- the totals and the buffers, whose lengths are just those of an image
pub record World : Type 0 where
  pub totals : Totals
  pub words : List ℕ
  pub bytes : List ℕ

abbrev pub world : Totals → List ℕ → List ℕ → World
world s c b = record { totals = s; words = c; bytes = b }

-- nothing is read yet
abbrev pub begun : Totals
begun = record { opens = 0; entries = 0; used = 0 }

-- the totals are within the limits and the buffers as long as an image
pub record Room (s : Totals) (c b : List ℕ) : Type 0 where
  pub opens_most : s.opens ≤ most_opens
  pub entries_most : s.entries ≤ most_entries
  pub used_most : s.used ≤ body_bytes
  pub words_long : length c ≡ contents_words
  pub bytes_long : length b ≡ body_bytes

-- the totals and the buffers after a run, or the number that refuses it and the buffers as it left them
pub data Ran : Type 0 where
  went : World → Ran
  stopped : ℕ → List ℕ → List ℕ → Ran

-- the row of an entry whose key starts at `at`
abbrev pub row_for : ℕ → Entry → Row
row_for at e = record { start = at; key_length = length (key_of e.parts); value_length = length e.value }

-- an entry of that origin, stored
abbrev pub stored : ℕ → World → Entry → World
stored origin w e = record {
  totals = record { opens = w.totals.opens; entries = w.totals.entries + 1; used = w.totals.used + size_of e };
  words = with_row w.words w.totals.entries (row_for w.totals.used e) origin;
  bytes = paste w.bytes w.totals.used (key_of e.parts ++ e.value) (size_of e);
}

-- the bytes where an entry does not fit: its key if there is room for it, and of its value as much as there is room for
unfoldable pub cut : World → Entry → List ℕ
cut w e =
    if ltb body_bytes (w.totals.used + length (key_of e.parts)) then w.bytes else
    paste w.bytes w.totals.used (key_of e.parts ++ e.value) (body_bytes - w.totals.used)

-- 5, 6, 7
unfoldable pub put : ℕ → World → Entry → Ran
put origin w e =
    if ltb most_parts (length e.parts) then stopped 5 w.words w.bytes else
    if leb most_entries w.totals.entries then stopped 6 w.words w.bytes else
    if ltb body_bytes (w.totals.used + size_of e) then stopped 7 w.words (cut w e) else
    went (stored origin w e)

-- one open more
abbrev pub counted : Totals → Totals
counted s = record { opens = s.opens + 1; entries = s.entries; used = s.used }

unfoldable pub open_one : World → Ran
open_one w =
    if leb most_opens w.totals.opens then stopped 4 w.words w.bytes else
    went (world (counted w.totals) w.words w.bytes)

-- with these files on the archive
abbrev pub step : List File → World → Event → Ran
step fs w (opened ch) = open_one w
step fs w (entered ch e) = put (origin_of fs ch) w e

unfoldable pub and_then : Ran → (World → Ran) → Ran
and_then (went w) next = next w
and_then (stopped k c b) next = stopped k c b

unfoldable pub run : List File → World → List Event → Ran
run fs w [] = went w
run fs w (e ∷ es) = and_then (step fs w e) (λ v. run fs v es)

-- a call's answer, with the buffers as it left them
unfoldable pub answered : Result Totals Refusal → List ℕ → List ℕ → Ran
answered (Ok s) c b = went (world s c b)
answered (Err k) c b = stopped (number k) c b

-- ---- The end of a reading

-- the count and the use before the rows, and zeroes behind them
abbrev pub closed_words : Totals → List ℕ → List ℕ
closed_words s c = take (row_start s.entries) (set (set c 0 s.entries) 1 s.used) ++ zeroes (length c - row_start s.entries)

abbrev pub closed_bytes : Totals → List ℕ → List ℕ
closed_bytes s b = take s.used b ++ zeroes (length b - s.used)

-- what a run comes to, closed
unfoldable pub finished : Ran → Outcome
finished (went w) =
    outcome (accepted w.totals.entries w.totals.opens) (closed_words w.totals w.words) (closed_bytes w.totals w.bytes)
finished (stopped k c b) = outcome (refused k) (zeroes contents_words) (zeroes body_bytes)
