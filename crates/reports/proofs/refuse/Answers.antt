-- `reports::refuse` meets its contract. Assumes nothing.
use mathlib.Core.Path.{refl}
use Rattle.printing.proofs.Pieces.{then_piece}
use Rattle.reports.specs.Telling.{refused}
use Rattle.reports.proofs.refuse.Goals as goal

pub returns : goal.returns
unfolding refused
returns c = record {
  puts = then_piece (then_piece c.put.ensures (rw c.reason.ensures.0 at c.put-2.ensures)) c.put-3.ensures;
  status = refl;
  wrong = refl;
}
