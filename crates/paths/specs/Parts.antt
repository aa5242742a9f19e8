-- The bytes of a part.
use Rattle.std.specs.Prelude.{Bool, not, ℕ, eqb}
use Rattle.definition.specs.Bytes.{slash}

abbrev pub not_slash : ℕ → Bool
not_slash c = not (eqb slash c)
