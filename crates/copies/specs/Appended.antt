-- Bytes put into a buffer.
use Rattle.std.specs.Prelude.{List, ◌≡◌, ℕ, ◌+◌, ◌≤◌, length}
use Rattle.std.proofs.Math.Seq.{paste}

-- the bytes stand from `at` to `end`, and all else is as it was
pub record Appends (bytes out : List ℕ) (at : ℕ) (out' : List ℕ) (end : ℕ) : Type 0 where
  pub fits : at + length bytes ≤ length out
  pub ends : end ≡ at + length bytes
  pub leaves : out' ≡ paste out at bytes (length bytes)
