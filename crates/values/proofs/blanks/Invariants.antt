-- `values::blanks` meets its contract. The invariant: what follows the blanks is the same of what is left. Assumes nothing.
use lib.ListN.{length}
use Rattle.values.proofs.Skipping.{Left}
use Rattle.values.proofs.blanks.Given as goal

abbrev pub invariant-loop-rest : goal.invariant-loop-rest
invariant-loop-rest l = Left l.text l.rest

abbrev pub decreases-loop-rest : goal.decreases-loop-rest
decreases-loop-rest l = length l.rest
