-- Lines, counted.
use Rattle.std.specs.Prelude.{ℕ, ◌+◌, ◌%◌, ◌^◌, Bool, true, false, Some}
use Rattle.std.specs.Option.{option_or}
use Rattle.tally.specs.declared.Tally.{Tally}

-- one more, in 64 bits
abbrev pub next : ℕ → ℕ
next n = (n + 1) % 2 ^ 64

-- one line more, equal or not; the first that differs counts
abbrev pub counted : Tally → Bool → Tally
counted t true = record { lines = next t.lines; equal = next t.equal; differs = t.differs }
counted t false = record { lines = next t.lines; equal = t.equal; differs = option_or t.differs (Some (next t.lines)) }
