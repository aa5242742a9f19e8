-- An entry of a board as the search gives it.
use Rattle.std.specs.Prelude.{ℕ, Option, Some, None}
use Rattle.definition.specs.Lookup.{Reply, given, no_value}

abbrev pub spot_replied : Option ℕ → Reply ℕ
spot_replied (Some n) = given n
spot_replied None = no_value
