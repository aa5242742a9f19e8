use lib.ListN.{length}
use Rattle.components.proofs.Counting.{Counting}
use Rattle.components.proofs.parse_components.Given as goal

abbrev pub invariant-loop-next : goal.invariant-loop-next
invariant-loop-next l = Counting l.text l.rest l.count l.size l.named l.verbatim

abbrev pub decreases-loop-next : goal.decreases-loop-next
decreases-loop-next l = length l.rest
