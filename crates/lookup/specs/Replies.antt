-- A lookup's answer in document 01's numbers and values.
use Rattle.std.specs.Prelude.{ℕ, ◌+◌, ◌≤◌, ◌<◌, Option, Result, Ok, Err, Some, None, IfSome}
use Rattle.definition.specs.Image as image
use Rattle.definition.specs.Lookup as definition
use Rattle.definition.specs.Image.{key_end}
use Rattle.definition.specs.Lookup.{Reply, given, no_value, refused}
use Rattle.refusal.specs.declared.Refusal.{Refusal}
use Rattle.refusal.specs.Numbers.{number}
use Rattle.lookup.specs.declared.Place.{Place}

-- the code's place as the definition's
abbrev pub place_of : Place → definition.Place
place_of p = record { start = p.start; length = p.size }

-- the place of a row's value
abbrev pub place_in : image.Row → definition.Place
place_in r = record { start = key_end r; length = r.value_length }

-- the value's place in the bodies and its length, none, or the number of a refusal
abbrev pub replied : Result (Option Place) Refusal → Reply definition.Place
replied (Ok (Some p)) = given (place_of p)
replied (Ok None) = no_value
replied (Err k) = refused (number k)

-- a value that is found lies in so many bytes
abbrev pub LiesIn : Result (Option Place) Refusal → ℕ → Type 0
LiesIn (Ok (Some p)) n = p.start + p.size ≤ n
LiesIn (Ok None) n = Unit {0}
LiesIn (Err k) n = Unit {0}

-- an entry's number, or none
abbrev pub found_reply : Option ℕ → Reply ℕ
found_reply (Some i) = given i
found_reply None = no_value

-- an entry that is found stands below `last`
abbrev pub FoundBelow : ℕ → Result (Option ℕ) Refusal → Type 0
FoundBelow last (Ok o) = IfSome o (λ i. i < last)
FoundBelow last (Err k) = Unit {0}

-- or the number of a refusal
abbrev pub entry_replied : Result (Option ℕ) Refusal → Reply ℕ
entry_replied (Ok o) = found_reply o
entry_replied (Err k) = refused (number k)
