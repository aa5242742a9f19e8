-- The writing call's answer in the definition's words.
use Rattle.std.specs.Prelude.{ℕ, Result, Ok, Err}
use Rattle.definition.specs.Writing.{Extent, written, refused}
use Rattle.refusal.specs.declared.Refusal.{Refusal}
use Rattle.refusal.specs.Numbers.{number}

-- the text's length, or the number of a refusal
abbrev pub extent_of : Result ℕ Refusal → Extent
extent_of (Ok n) = written n
extent_of (Err k) = refused (number k)
