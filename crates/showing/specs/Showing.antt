-- An answer as getres shows it.
use Rattle.std.specs.Prelude.{Bool, true, false, List, ◌++◌, ℕ, length, Option, Some, None, Result, Ok, Err}
use Rattle.std.specs.Borrow.{Bor}
use Rattle.definition.specs.Lists.{ascii, same}
use Rattle.definition.specs.Lookup.{Reply, given, no_value as noReply, refused as refusedLookup, Place, bytes_at}
use Rattle.refusal.specs.declared.Refusal.{Refusal}
use Rattle.refusal.specs.Numbers.{number}
use Rattle.lookup.specs.declared.Place.{Place as Found}
use Rattle.lookup.specs.Replies.{replied}

-- a value, none, or a number of document 01's table
pub data Shown : Type 0 where
  value : List ℕ → Shown
  no_value : Shown
  refused_by : ℕ → Shown

-- what a lookup's answer shows of the bodies
abbrev pub shown_in : List ℕ → Reply Place → Shown
shown_in bodies (given p) = value (bytes_at bodies p)
shown_in bodies noReply = no_value
shown_in bodies (refusedLookup k) = refused_by k

abbrev pub shown_of : List ℕ → Result (Option Found) Refusal → Shown
shown_of bodies x = shown_in bodies (replied x)

-- a value lent, none or a refusal
abbrev pub lent : Result (Option (Bor (List ℕ))) Refusal → Shown
lent (Ok (Some v)) = value v.now
lent (Ok None) = no_value
lent (Err k) = refused_by (number k)

-- how long the value is, if there is one
abbrev pub value_bytes : Shown → ℕ
value_bytes (value v) = length v
value_bytes no_value = 0
value_bytes (refused_by k) = 0

-- ---- Lines

-- what a line says of an answer
unfoldable pub words_of : Shown → List ℕ
words_of (value v) = ascii "value " ++ v
words_of no_value = ascii "none"
words_of (refused_by k) = ascii "refused"

-- `with FILE: ..`
unfoldable pub line_of : List ℕ → List ℕ → Shown → List ℕ
line_of label file shows = label ++ file ++ ascii ": " ++ words_of shows ++ ascii "\n"

-- are two answers the same: both none, or the same bytes?
unfoldable pub same_shown : Shown → Shown → Bool
same_shown (value v) (value w) = same v w
same_shown (value v) no_value = false
same_shown (value v) (refused_by k) = false
same_shown no_value (value w) = false
same_shown no_value no_value = true
same_shown no_value (refused_by k) = false
same_shown (refused_by j) b = false
