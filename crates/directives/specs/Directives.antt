-- The include that a text asks for, by the place of its name.
use Rattle.std.specs.Prelude as rattle
use Rattle.std.specs.Prelude.{List, ℕ, ◌-◌, length, Some, None}
use Rattle.std.proofs.Math.Option.{Option, some, none}
use Rattle.definition.specs.Lists.{ascii, take_while, drop_while}
use Rattle.definition.specs.Parsing.{◌>>=◌, after}
use Rattle.definition.specs.Bytes.{is_space}
use Rattle.definition.specs.Text.{in_quotes}
use Rattle.directives.specs.declared.Named.{Named}

-- what follows `#`, from the include's name on: as include_of, which gives the name itself
unfoldable pub name_on : List ℕ → Option (List ℕ)
name_on t = do
  u ← after (ascii "include") (drop_while is_space t)
  v ← after (ascii "\"") (drop_while is_space u)
  w ← after (ascii "\"") (drop_while in_quotes v)
  some v

-- the place of the name in a text of so many bytes
unfoldable pub named_in : ℕ → Option (List ℕ) → rattle.Option Named
named_in size none = None
named_in size (some v) = Some (record { start = size - length v; size = length (take_while in_quotes v) })

unfoldable pub include_at : List ℕ → rattle.Option Named
include_at t = named_in (length t) (name_on t)
