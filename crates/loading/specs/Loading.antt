-- An archive (document 01's shelf) at the front of a buffer.
use Rattle.std.specs.Prelude.{true, List, ◌≡◌, ℕ, take}
use Rattle.definition.specs.Archive.{laid_out}
use Rattle.io.specs.Counts.{IsPrefixLen}

-- of n bytes
pub record Holds (b : List ℕ) (n : ℕ) : Type 0 where
  pub counts : IsPrefixLen n b
  pub laid : laid_out (take n b) ≡ true
