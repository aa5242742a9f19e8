use lib.ListN.{length}
use Rattle.components.proofs.Writing.{Writing}
use Rattle.components.proofs.write_parts.Given as goal

abbrev pub invariant-loop-next : goal.invariant-loop-next
invariant-loop-next l = Writing l.text l.initial.store l.at l.rest l.store l.place

abbrev pub decreases-loop-next : goal.decreases-loop-next
decreases-loop-next l = length l.rest
