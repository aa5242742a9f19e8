-- How long the first part of a line is. Assumes nothing.
use mathlib.Core.List.{List}
use mathlib.Core.Path.{◌≡◌}
use Prim.Native.Nat.{ℕ, ◌+◌, ◌*◌, ◌≤◌}
use native.Mathlib.Omega.{arith}
use lib.ListN.{length, length-append}
use Rattle.shown_bytes.specs.Shown.{shown}
use Rattle.shown_bytes.proofs.Showing.{shown_most}
use Rattle.missing_lines.specs.Lines.{include_of}

module _ (place name : List ℕ) where
  include_long : length (include_of place name) ≡ 8 + length place + 12 + length (shown name) + 17
  unfolding include_of
  include_long = simp length-append

  pub include_most : length (include_of place name) ≤ length place + 4 * length name + 37
  include_most = omega (arith, include_long, shown_most name)
