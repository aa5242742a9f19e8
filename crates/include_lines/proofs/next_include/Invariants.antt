-- `include_lines::next_include` meets its contract. The invariant: the includes from `from` on are those from here on. Assumes nothing.
use Prim.Native.Nat.{◌-◌}
use lib.ListN.{length}
use Rattle.include_lines.proofs.Passing.{Looking}
use Rattle.include_lines.proofs.next_include.Given as goal

abbrev pub invariant-loop-at : goal.invariant-loop-at
invariant-loop-at l = Looking l.text l.from l.at

abbrev pub decreases-loop-at : goal.decreases-loop-at
decreases-loop-at l = length l.text - l.at
