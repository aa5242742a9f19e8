-- The reading call's answer in document 01's numbers.
use Rattle.std.specs.Prelude.{List, ◌≡◌, ℕ, length, Result, Ok, Err}
use Rattle.definition.specs.Limits.{contents_words, body_bytes}
use Rattle.definition.specs.Archive.{files_of}
use Rattle.definition.specs.Reading as definition
use Rattle.definition.specs.Reading.{Outcome, left, judge, start, met, sourced, read_entries}
use Rattle.image.specs.Running.{Room}
use Rattle.image.specs.declared.Totals.{Totals}
use Rattle.refusal.specs.Numbers.{number}
use Rattle.refusal.specs.declared.Refusal.{Refusal}
use Rattle.reader.specs.declared.Accepted.{Accepted}

-- entries and opens, or the number of a refusal
abbrev pub said : Result Accepted Refusal → definition.Answer
said (Ok a) = definition.accepted a.entries a.opens
said (Err k) = definition.refused (number k)

-- what a reading left can be closed: buffers as long as an image, and totals within the limits
abbrev pub Ready : Result Totals Refusal → List ℕ → List ℕ → Type 0
Ready (Ok s) c b = Room s c b
Ready (Err k) c b = (length c ≡ contents_words) × (length b ≡ body_bytes)

-- what a reading that passes 1 to 3 and 15 leaves
unfoldable pub left_by : ℕ → List (List ℕ) → List ℕ → List ℕ → List ℕ → Outcome
left_by depth texts archive contents bodies = left (judge start (met depth texts archive)) (sourced (files_of archive) (read_entries depth texts archive)) contents bodies
