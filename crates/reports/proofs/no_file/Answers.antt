-- `reports::no_file` meets its contract. Assumes nothing.
use mathlib.Core.Path.{refl}
use Rattle.printing.proofs.Pieces.{then_piece}
use Rattle.reports.specs.Telling.{not_among}
use Rattle.reports.proofs.no_file.Goals as goal

pub returns : goal.returns
unfolding not_among
returns c = record { puts = then_piece (then_piece c.put.ensures c.put-2.ensures) c.put-3.ensures; status = refl; wrong = refl }
