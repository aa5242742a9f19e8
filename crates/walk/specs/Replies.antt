-- A walk's answers in document 02's numbers.
use Rattle.std.specs.Prelude.{ℕ, Option, Result, Ok, Err, Some, None}
use Rattle.definition.specs.Lookup.{Reply, given, no_value, refused}
use Rattle.definition.specs.Walking.{Walk, walk}
use Rattle.refusal.specs.declared.Refusal.{Refusal}
use Rattle.refusal.specs.Numbers.{number}

-- the walk from entry 0 with that count, or the number of a refusal
abbrev pub start_replied : Result ℕ Refusal → Reply Walk
start_replied (Ok n) = given (walk 0 n)
start_replied (Err k) = refused (number k)

-- an entry's number, the end, or the number of a refusal
abbrev pub step_replied : Result (Option ℕ) Refusal → Reply ℕ
step_replied (Ok (Some i)) = given i
step_replied (Ok None) = no_value
step_replied (Err k) = refused (number k)
