-- `missing::Search::new` meets its contract: none is reached. Assumes nothing.
use Rattle.missing.proofs.Reaching.{waiting_none}
use Rattle.missing.proofs.Search.new.Goals as goal

pub invariant_of-result : goal.invariant_of-result
invariant_of-result c = record { waiting = rw c.default.ensures (waiting_none _) }
