-- How long the first part of a line is. Assumes nothing.
use mathlib.Core.List.{List}
use mathlib.Core.Path.{◌≡◌}
use Prim.Native.Nat.{ℕ, ◌+◌}
use lib.ListN.{length, length-append}
use Rattle.shared_lines.specs.Lines.{key_of}

pub key_long : (a b key : List ℕ) → length (key_of a b key) ≡ 8 + length a + 5 + length b + 7 + length key
unfolding key_of
key_long a b key = simp length-append
