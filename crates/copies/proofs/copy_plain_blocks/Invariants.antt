-- `copies::copy_plain_blocks` meets its contract. Assumes nothing.
use Prim.Native.Nat.{◌-◌}
use lib.ListN.{length}
use Rattle.scan.proofs.Runs.{Passed}
use Rattle.copies.specs.Plain.{is_plain}
use Rattle.copies.proofs.Copying.{Copied}
use Rattle.copies.proofs.copy_plain_blocks.Given as goal

abbrev pub invariant-loop-i : goal.invariant-loop-i
invariant-loop-i l = Copied l.initial.store l.at l.text l.store l.i × Passed is_plain l.text l.i

abbrev pub decreases-loop-i : goal.decreases-loop-i
decreases-loop-i l = length l.text - l.i
