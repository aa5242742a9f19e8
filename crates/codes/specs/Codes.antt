-- Answers as numbers of 64 bits: a status in the low 16 bits, 0 or document 01's number or one of two more, and what goes with 0 above it.
use Rattle.std.specs.Prelude.{Bool, true, false, ℕ, ◌+◌, ◌*◌, ◌≤◌, ◌<◌, ℤ, Option, Some, None, Result, Ok, Err}
use Rattle.definition.specs.Limits.{body_bytes, most_entries, most_opens, written_bytes}
use Rattle.definition.specs.Reading.{Answer, accepted, refused}
use Rattle.definition.specs.Lookup.{Reply, given, no_value, refused as refused_by, Place}
use Rattle.definition.specs.Value.{Number, number, not_a_number}
use Rattle.definition.specs.Walking.{Walk, after_step}
use Rattle.definition.specs.Writing.{Extent, written, refused as refusedText}
use Rattle.comparison.specs.Answering.{Comparison, both, no_file, refused_by as refusedAs}
use Rattle.comparison.specs.declared.Both.{Both}
use Rattle.lookup.specs.Replies.{LiesIn}
use Rattle.lookup.specs.declared.Place as code
use Rattle.reader.specs.declared.Accepted.{Accepted}
use Rattle.refusal.specs.declared.Refusal.{Refusal}

-- the parts of an answer above its status, from bit 16 on and from bit 32 on
abbrev pub from16 : ℕ
from16 = 65536

abbrev pub from32 : ℕ
from32 = 4294967296

-- statuses beside document 01's numbers
abbrev pub none_code : ℕ
none_code = 65535

abbrev pub not_a_number_code : ℕ
not_a_number_code = 65534

-- ---- Readings

-- entries in bits 16 to 31 and opens in bits 32 to 47, or the number of the refusal
abbrev pub read_code : Answer → ℕ
read_code (accepted entries opens) = from16 * entries + from32 * opens
read_code (refused k) = k

-- within the limits of an accepted reading, so that its code fits
abbrev pub Few : Result Accepted Refusal → Type 0
Few (Ok a) = (a.entries ≤ most_entries) × (a.opens ≤ most_opens)
Few (Err k) = Unit {0}

-- ---- Lookups

-- the place in bits 16 to 31 and the length from bit 32 on, 65535 for none, or the number of the refusal
abbrev pub place_code : Reply Place → ℕ
place_code (given p) = from16 * p.start + from32 * p.length
place_code no_value = none_code
place_code (refused_by k) = k

-- a place in an image's bodies, so that its code fits
abbrev pub Small : Result (Option code.Place) Refusal → Type 0
Small found = LiesIn found body_bytes

-- 65536 for true and 0 for false
abbrev pub bool_code : Reply Bool → ℕ
bool_code (given true) = from16
bool_code (given false) = 0
bool_code no_value = none_code
bool_code (refused_by k) = k

-- a call's number, and the lent number afterwards
pub record Taking : Type 0 where
  pub code : ℕ
  pub out : ℤ

abbrev pub taking : ℕ → ℤ → Taking
taking n z = record { code = n; out = z }

-- the number with 0; 65534 if not a number; only a number changes what is lent
abbrev pub taken : Reply Number → ℤ → Taking
taken (given (number z)) lent = taking 0 z
taken (given not_a_number) lent = taking not_a_number_code lent
taken no_value lent = taking none_code lent
taken (refused_by k) lent = taking k lent

-- ---- Walks

-- a start's number, and the lent next number and count afterwards
pub record Beginning : Type 0 where
  pub code : ℕ
  pub next : ℕ
  pub count : ℕ

abbrev pub beginning : ℕ → ℕ → ℕ → Beginning
beginning n i k = record { code = n; next = i; count = k }

-- 0 with the walk's state, or the number of the refusal; only 0 changes what is lent
abbrev pub start_numbers : Reply Walk → ℕ → ℕ → Beginning
start_numbers (given w) next count = beginning 0 w.next w.count
start_numbers no_value next count = beginning none_code next count
start_numbers (refused_by k) next count = beginning k next count

-- a step's number, and the lent next number afterwards
pub record Stepping : Type 0 where
  pub code : ℕ
  pub next : ℕ

abbrev pub stepping : ℕ → ℕ → Stepping
stepping n i = record { code = n; next = i }

-- the entry's number from bit 16 on, 65535 at the end, or the number of the refusal
abbrev pub step_code : Reply ℕ → ℕ
step_code (given i) = from16 * i
step_code no_value = none_code
step_code (refused_by k) = k

abbrev pub step_numbers : Reply ℕ → Walk → Stepping
step_numbers r w = stepping (step_code r) (after_step w r).next

-- the number of an image's entry, so that its code and the next number fit
abbrev pub Numbered : Result (Option ℕ) Refusal → Type 0
Numbered (Ok (Some i)) = i < most_entries
Numbered (Ok None) = Unit {0}
Numbered (Err k) = Unit {0}

-- ---- Comparisons

-- a call's number, and the two lent numbers afterwards
pub record Numbers : Type 0 where
  pub code : ℕ
  pub with_it : ℕ
  pub without : ℕ

abbrev pub numbers : ℕ → ℕ → ℕ → Numbers
numbers n w o = record { code = n; with_it = w; without = o }

-- 0 with both lookups' numbers, 65535 if the archive has no such file, or the refusal; only 0 changes the lent numbers
abbrev pub comparison_numbers : Comparison → ℕ → ℕ → Numbers
comparison_numbers (both a b second) w o = numbers 0 (place_code a) (place_code b)
comparison_numbers no_file w o = numbers none_code w o
comparison_numbers (refusedAs k) w o = numbers k w o

-- both places are in an image's bodies
abbrev pub SmallBoth : Result (Option Both) Refusal → Type 0
SmallBoth (Ok (Some b)) = Small (Ok b.with_it) × Small b.without
SmallBoth (Ok None) = Unit {0}
SmallBoth (Err k) = Unit {0}

-- ---- Texts

-- the text's length from bit 32 on, or the number of the refusal
abbrev pub write_code : Extent → ℕ
write_code (written n) = from32 * n
write_code (refusedText k) = k

-- no longer than an image's text may be, so that its code fits
abbrev pub Bounded : Result ℕ Refusal → Type 0
Bounded (Ok n) = n ≤ written_bytes
Bounded (Err k) = Unit {0}

-- ---- Additions

-- the new entry's number from bit 16 on, or the number of the refusal
abbrev pub add_code : Reply ℕ → ℕ
add_code (given i) = from16 * i
add_code no_value = none_code
add_code (refused_by k) = k

-- a number that an image has room for, so that its code fits
abbrev pub Addable : Result ℕ Refusal → Type 0
Addable (Ok i) = i ≤ most_entries
Addable (Err k) = Unit {0}
