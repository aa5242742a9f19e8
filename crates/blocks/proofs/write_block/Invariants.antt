-- `blocks::write_block` meets its contract: the first i bytes are written. Assumes nothing.
use mathlib.Core.Path.{◌≡◌}
use Prim.Native.Nat.{◌≤◌}
use lib.ListN.{length}
use lib.Seq.{paste}
use Rattle.blocks.proofs.write_block.Given as goal

abbrev pub invariant-loop-i : goal.invariant-loop-i
invariant-loop-i l = (l.i ≤ l.size) × (l.store ≡ paste l.initial.store l.at l.block l.i) × (length l.store ≡ length l.initial.store)
