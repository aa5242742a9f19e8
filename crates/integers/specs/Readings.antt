-- The code's answers as the definition's.
use Rattle.std.proofs.Math.Option as Math
use Rattle.std.specs.Prelude.{ℕ, ◌^◌, leb, ℤ, if◌then◌else◌, Option, Some, None}

-- a number that is an i64 with one of the signs
unfoldable pub magnitude : Math.Option ℕ → Math.Option ℕ
magnitude Math.none = Math.none
magnitude (Math.some n) = if leb n (2 ^ 63) then Math.some n else Math.none

unfoldable pub natural_in : Option ℕ → Math.Option ℕ
natural_in (Some n) = Math.some n
natural_in None = Math.none

unfoldable pub number_in : Option ℤ → Math.Option ℤ
number_in (Some z) = Math.some z
number_in None = Math.none
