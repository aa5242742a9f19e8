-- `listing::refuse_long` meets its contract. Assumes nothing.
use Rattle.listing.proofs.Printing.{refuses_long}
use Rattle.listing.proofs.refuse_long.Goals as goal

pub returns : goal.returns
returns c = refuses_long c.put_refusal.ensures
