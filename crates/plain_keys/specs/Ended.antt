-- A text whose last byte is a newline.
use Rattle.std.specs.Prelude.{List, ◌≡◌, ℕ, ◌-◌, ◌<◌, length, get_or}
use Rattle.definition.specs.Bytes.{newline}

pub record Ended (t : List ℕ) : Type 0 where
  pub some : 0 < length t
  pub last : get_or t (length t - 1) 0 ≡ newline
