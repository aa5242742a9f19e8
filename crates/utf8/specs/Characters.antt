-- The characters of UTF-8 as the code counts their bytes.
use Rattle.std.specs.Prelude.{List, ◌∷◌, ◌≡◌, ℕ, ◌≤◌, ◌<◌, length, drop, replicate, Option, Some, None, IfSome}
use Rattle.std.proofs.Math.Option as Math
use Rattle.definition.specs.Parsing.{Parse, nothing, found}
use Rattle.definition.specs.Value.{Range, after_row, character_at}
use Rattle.utf8.specs.declared.Lead.{Lead}

-- the last columns of the table
abbrev pub trail : Range
trail = record { low = 0x80; high = 0xBF }

-- the text after the bytes that a first byte asks for
unfoldable pub after_lead : Option Lead → List ℕ → Math.Option (List ℕ)
after_lead (Some lead) t = after_row (record { low = lead.0; high = lead.1 } ∷ replicate lead.2 trail) t
after_lead None t = Math.none

unfoldable pub taken_by : Option ℕ → List ℕ → Parse (Unit {0})
taken_by None t = nothing
taken_by (Some n) t = found tt (drop n t)

-- the first character has so many bytes, if there is one
pub record Taken (t : List ℕ) (o : Option ℕ) : Type 0 where
  pub parse : character_at t ≡ taken_by o t
  pub some_byte : IfSome o (λ n. 0 < n)
  pub most : IfSome o (λ n. n ≤ length t)
