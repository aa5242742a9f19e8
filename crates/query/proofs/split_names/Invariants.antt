-- `query::split_names` meets its contract. The invariant is `Splitting`. Assumes nothing.
use lib.ListN.{length}
use Rattle.query.proofs.Splitting.{Splitting}
use Rattle.query.proofs.split_names.Given as goal

abbrev pub invariant-loop-n : goal.invariant-loop-n
invariant-loop-n l = Splitting l.text l.initial.starts l.initial.lengths l.starts l.lengths l.count l.rest

abbrev pub decreases-loop-n : goal.decreases-loop-n
decreases-loop-n l = length l.rest
