-- The answer in document 02's words.
use Rattle.std.proofs.Math.Option as Math
use Rattle.std.specs.Prelude.{ℕ, Option, Some, None}

-- an entry's number, or none
abbrev pub shared_replied : Option ℕ → Math.Option ℕ
shared_replied (Some j) = Math.some j
shared_replied None = Math.none
