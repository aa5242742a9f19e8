-- What an argument's bytes say.
use Rattle.std.specs.Prelude.{Bool, false, List, [], ◌∷◌, ℕ, ◌-◌, eqb, if◌then◌else◌, Option, Some, None}
use Rattle.std.proofs.Math.Option.{Option as Maybe, some, none}
use Rattle.definition.specs.Lists.{ascii, same}
use Rattle.definition.specs.Bytes.{within}
use Rattle.definition.specs.Value.{natural_of}
use Rattle.integers.specs.Readings.{magnitude}

-- a digit from 3 to 9
unfoldable pub descriptor : List ℕ → Option ℕ
descriptor [] = None
descriptor (c ∷ []) = if within 51 57 c then Some (c - 48) else None
descriptor (c ∷ d ∷ t) = None

-- a property's format
unfoldable pub format_of : List ℕ → Option ℕ
format_of a =
    if same a (ascii "8") then Some 8 else
    if same a (ascii "16") then Some 16 else
    if same a (ascii "32") then Some 32 else
    None

unfoldable pub depth_in : Maybe ℕ → Option ℕ
depth_in (some n) = Some n
depth_in none = None

-- a number up to 2^63
unfoldable pub depth_of : List ℕ → Option ℕ
depth_of a = depth_in (magnitude (natural_of a))

-- it begins with `-` and has more
unfoldable pub is_option : List ℕ → Bool
is_option [] = false
is_option (c ∷ []) = false
is_option (c ∷ d ∷ t) = eqb c 45
