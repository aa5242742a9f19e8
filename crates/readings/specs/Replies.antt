-- The answers of the readings in document 01's words.
use Rattle.std.specs.Prelude.{Bool, ℤ, Option, Some, None, Result, Ok, Err}
use Rattle.definition.specs.Lookup.{Reply, given, no_value, refused}
use Rattle.definition.specs.Value.{Number, not_a_number}
use Rattle.definition.specs.Value as definition
use Rattle.refusal.specs.declared.Refusal.{Refusal}
use Rattle.refusal.specs.Numbers.{number}
use Rattle.readings.specs.declared.ValueError.{ValueError}

abbrev pub truth_replied : Result (Option Bool) Refusal → Reply Bool
truth_replied (Ok (Some b)) = given b
truth_replied (Ok None) = no_value
truth_replied (Err k) = refused (number k)

abbrev pub value_replied : Result (Option ℤ) ValueError → Reply Number
value_replied (Ok (Some z)) = given (definition.number z)
value_replied (Ok None) = no_value
value_replied (Err ValueError.NotANumber) = given not_a_number
value_replied (Err (ValueError.Refused k)) = refused (number k)
