-- `missing_lines::put_nowhere` meets its contract. Assumes nothing.
use Rattle.printing.proofs.Pieces.{then_piece}
use Rattle.missing_lines.specs.Lines.{nowhere_line}
use Rattle.missing_lines.proofs.put_nowhere.Goals as goal

pub returns : goal.returns
unfolding nowhere_line
returns c = then_piece c.put_include.ensures c.put.ensures
