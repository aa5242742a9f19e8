-- `missing_lines::put_include` meets its contract. Assumes nothing.
use Rattle.printing.proofs.Pieces.{then_piece}
use Rattle.missing_lines.specs.Lines.{include_of}
use Rattle.missing_lines.proofs.put_include.Goals as goal

pub returns : goal.returns
unfolding include_of
returns c = then_piece (then_piece (then_piece (then_piece c.put.ensures c.put-2.ensures) c.put-3.ensures) c.put_shown.ensures) c.put-4.ensures
