-- `plain_lines::plain_lines` meets its contract. Assumes nothing.
use Prim.Native.Nat.{◌-◌}
use lib.ListN.{length}
use Rattle.plain_lines.specs.Lines.{plain_lines}
use Rattle.plain_lines.proofs.Lining.{Lining}
use Rattle.plain_lines.proofs.plain_lines.Given as goal

abbrev pub invariant-loop-taken : goal.invariant-loop-taken
invariant-loop-taken l = Lining l.origin l.text (plain_lines l.origin l.text l.initial.entries l.initial.used l.initial.words l.initial.store) l.words l.store l.taken l.entries l.used

abbrev pub decreases-loop-taken : goal.decreases-loop-taken
decreases-loop-taken l = length l.text - l.taken
