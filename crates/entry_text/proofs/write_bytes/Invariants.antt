-- `entry_text::write_bytes` meets its contract. The invariant is `Writing`, and it holds behind each run too. Assumes nothing.
use Prim.Native.Nat.{◌-◌}
use lib.ListN.{length}
use Rattle.entry_text.proofs.Texts.{Writing}
use Rattle.entry_text.proofs.write_bytes.Given as goal

abbrev pub invariant-loop-i : goal.invariant-loop-i
invariant-loop-i l = Writing l.value l.initial.text l.at l.text l.end l.i

abbrev pub decreases-loop-i : goal.decreases-loop-i
decreases-loop-i l = length l.value - l.i
