-- The code's answers as the definition's.
use Rattle.std.specs.Prelude.{Bool, Option, Some, None}
use Rattle.std.proofs.Math.Option as Math

unfoldable pub boolean_in : Option Bool → Math.Option Bool
boolean_in (Some truth) = Math.some truth
boolean_in None = Math.none
