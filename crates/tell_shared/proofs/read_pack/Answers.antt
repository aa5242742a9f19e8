-- `tell_shared::read_pack` leaves an image: what is accepted is one. Assumes nothing.
use Rattle.laws.proofs.ThirdTerm.{read_holds}
use Rattle.tell_shared.proofs.read_pack.Goals as goal

pub invariant_of-result : goal.invariant_of-result
invariant_of-result c = record { judged = (read_holds _ _ _ _ _ _ _ _ _ (rw c.in-Ok.is at c.read.ensures)).0 }
