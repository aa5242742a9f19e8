-- How long a line is. Assumes nothing.
use mathlib.Core.List.{List}
use mathlib.Core.Path.{◌≡◌}
use Prim.Native.Nat.{ℕ, ◌+◌, ◌≤◌}
use native.Mathlib.Omega.{arith}
use lib.ListN.{length, length-append}
use Rattle.printing.specs.Putting.{decimal}
use Rattle.printing.proofs.Numbers.{decimal_most}
use Rattle.list_lines.specs.Lines.{entry_line, word_line}

module _ (i : ℕ) (key : List ℕ) (size : ℕ) where
  pub entry_long : length (entry_line i key size) ≡ length (decimal i) + 1 + length key + 1 + length (decimal size) + 1
  unfolding entry_line
  entry_long = simp length-append

  pub entry_most : length (entry_line i key size) ≤ length key + 43
  entry_most = omega (arith, entry_long, decimal_most i, decimal_most size)

module _ (word : List ℕ) (n : ℕ) where
  pub word_long : length (word_line word n) ≡ length word + 1 + length (decimal n) + 1
  unfolding word_line
  word_long = simp length-append

  pub word_most : length (word_line word n) ≤ length word + 22
  word_most = omega (arith, word_long, decimal_most n)
