-- What a text's parse is, and what those of name and class make of a query.
use Rattle.std.specs.Prelude.{List, [], ◌∷◌, map, ℕ, ltb, length, take, if◌then◌else◌, Result, Ok, Err, Some, None}
use Rattle.std.specs.Prelude as std
use Rattle.std.proofs.Math.Option.{Option, some, none}
use Rattle.definition.specs.Lists.{zeroes}
use Rattle.definition.specs.Parsing.{many}
use Rattle.definition.specs.Query.{Position, Query, positions, malformed, past_limit, query_part_at, positions_of, names_of, Bounds}
use Rattle.refusal.specs.declared.Refusal.{Refusal}
use Rattle.refusal.specs.declared.Refusal.TheVariants.{LongQuery, ManyNames}
use Rattle.refusal.specs.Numbers.{number}
use Rattle.query.specs.declared.Fault.{Fault}
use Rattle.query.specs.declared.Fault.TheVariants.{Malformed, Many, Long}
use Rattle.query.specs.declared.Split.{Split}
use Rattle.query.specs.Splits.{part_starts, length_from, names_in, starts_of, lengths_of, SplitIn}

-- ---- One text

-- so many bytes, and as many parts as are lent
abbrev pub bounds_of : ℕ → List ℕ → Bounds
bounds_of bytes parts = record { bytes = bytes; parts = length parts }

-- names, of which `parts` are the most, or what is wrong
unfoldable pub counted_fault : ℕ → Option (List (List ℕ)) → Option Fault
counted_fault parts none = some Malformed
counted_fault parts (some ns) = if ltb parts (length ns) then some Many else none

unfoldable pub fault_within : Bounds → List ℕ → Option Fault
fault_within most t = if ltb most.bytes (length t) then some Long else counted_fault most.parts (names_of t)

-- a parse that finds that fault, or none
abbrev pub parsed_as : {A : Type 0} → Option Fault → A → Result A Fault
parsed_as none a = Ok a
parsed_as (some f) a = Err f

abbrev pub fault_of : {A : Type 0} → Result A Fault → Option Fault
fault_of (Ok a) = none
fault_of (Err f) = some f

-- a text that is good has so many parts
unfoldable pub parsed_names : Bounds → List ℕ → Result ℕ Fault
parsed_names most t = parsed_as (fault_within most t) (length (part_starts t))

-- ---- What a parse leaves in what is lent

-- the first of these, as many as there is room for, in the place of what was there
unfoldable pub kept_over : List ℕ → List ℕ → List ℕ
kept_over [] held = held
kept_over (p ∷ ps) [] = []
kept_over (p ∷ ps) (h ∷ hs) = p ∷ kept_over ps hs

-- where the parts start that are found before the text is malformed, or ends
unfoldable pub found_starts : List ℕ → List ℕ
found_starts t = take (length (many query_part_at t).items) (part_starts t)

unfoldable pub kept_starts : ℕ → List ℕ → List ℕ → List ℕ
kept_starts bytes t held = if ltb bytes (length t) then held else kept_over (found_starts t) held

unfoldable pub kept_lengths : ℕ → List ℕ → List ℕ → List ℕ
kept_lengths bytes t held = if ltb bytes (length t) then held else kept_over (map (length_from t) (found_starts t)) held

-- no parts, in arrays of zeroes
abbrev pub no_parts : (n : ℕ) → Split n
no_parts n = record { starts = zeroes n; lengths = zeroes n; count = 0 }

-- the parts of a text that is good are counted
abbrev pub counted_as : Option Fault → ℕ → ℕ
counted_as none n = n
counted_as (some f) n = 0

-- what a parse leaves in a struct that is lent
unfoldable pub split_over : {n : ℕ} → ℕ → List ℕ → Split n → Split n
split_over bytes t s = record {
  starts = kept_starts bytes t s.starts;
  lengths = kept_lengths bytes t s.lengths;
  count = counted_as (fault_within (bounds_of bytes s.starts) t) (length (part_starts t));
}

-- the parts of a good text, in arrays of zeroes
unfoldable pub split_of : ℕ → (parts : ℕ) → List ℕ → Split parts
split_of bytes parts t = record {
  starts = kept_starts bytes t (zeroes parts);
  lengths = kept_lengths bytes t (zeroes parts);
  count = length (part_starts t);
}

-- the parse of a text of so many bytes and parts at most
unfoldable pub split_names : ℕ → (parts : ℕ) → List ℕ → Result (Split parts) Fault
split_names bytes parts t = parsed_as (fault_within (record { bytes = bytes; parts = parts }) t) (split_of bytes parts t)

-- ---- Name and class

-- too long if one is, else malformed if one is, else with too many parts
abbrev pub worse : Fault → Fault → Fault
worse Long g = Long
worse Malformed Long = Long
worse Malformed Malformed = Malformed
worse Malformed Many = Malformed
worse Many g = g

abbrev pub both_faults : Option Fault → Option Fault → Option Fault
both_faults none b = b
both_faults (some f) none = some f
both_faults (some f) (some g) = some (worse f g)

-- a query with that fault: what is malformed gets none
abbrev pub told_of : {A : Type 0} → Fault → Result (std.Option A) Refusal
told_of Malformed = Ok None
told_of Many = Err ManyNames
told_of Long = Err LongQuery

abbrev pub both_of : {A : Type 0} → Result A Fault → Result A Fault → Result (std.Option (A × A)) Refusal
both_of (Ok a) (Ok b) = Ok (Some (a, b))
both_of (Ok a) (Err g) = told_of g
both_of (Err f) (Ok b) = told_of f
both_of (Err f) (Err g) = told_of (worse f g)

-- what is said of name and class, with their parts in structs that are lent
abbrev pub lent_both : {n : ℕ} → Result (std.Option (Unit {0} × Unit {0})) Refusal → Split n → Split n → Result (std.Option (Split n × Split n)) Refusal
lent_both (Ok (Some p)) s u = Ok (Some (s, u))
lent_both (Ok None) s u = Ok None
lent_both (Err k) s u = Err k

-- the definition's query with that fault, or without
unfoldable pub by_fault : Option Fault → List Position → Query
by_fault none ps = positions ps
by_fault (some Malformed) ps = malformed
by_fault (some Many) ps = past_limit 10
by_fault (some Long) ps = past_limit 9

-- the definition's query that is told so
abbrev pub asked : {n : ℕ} → List ℕ → List ℕ → Result (std.Option (Split n × Split n)) Refusal → Query
asked name class (Ok (Some p)) = positions (positions_of (names_in name (starts_of p.0) (lengths_of p.0)) (names_in class (starts_of p.1) (lengths_of p.1)))
asked name class (Ok None) = malformed
asked name class (Err k) = past_limit (number k)

-- the parts lie in their texts
abbrev pub BothIn : {n : ℕ} → List ℕ → List ℕ → Result (std.Option (Split n × Split n)) Refusal → Type 0
BothIn name class (Ok (Some p)) = SplitIn name p.0 × SplitIn class p.1
BothIn name class (Ok None) = Unit {0}
BothIn name class (Err k) = Unit {0}
