-- `missing_lines::put_absent` meets its contract. Assumes nothing.
use Rattle.printing.proofs.Pieces.{then_piece}
use Rattle.missing_lines.specs.Lines.{absent_line}
use Rattle.missing_lines.proofs.put_absent.Goals as goal

pub returns : goal.returns
unfolding absent_line
returns c = then_piece (then_piece (then_piece c.put_include.ensures c.put.ensures) c.put_shown.ensures) c.put-2.ensures
