-- `blocks::block_at` meets its contract: the first i bytes are copied. Assumes nothing.
use mathlib.Core.Path.{◌≡◌}
use Prim.Native.Nat.{◌≤◌}
use lib.ListN.{drop}
use lib.Seq.{paste}
use Rattle.definition.specs.Lists.{zeroes}
use Rattle.blocks.proofs.block_at.Given as goal

abbrev pub invariant-loop-i : goal.invariant-loop-i
invariant-loop-i l = (l.i ≤ l.size) × (l.block ≡ paste (zeroes 8) 0 (drop l.from l.source) l.i)
