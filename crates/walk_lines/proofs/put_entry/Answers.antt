-- `walk_lines::put_entry` meets its contract. Assumes nothing.
use Rattle.printing.proofs.Pieces.{then_piece}
use Rattle.walk_lines.specs.Lines.{listed_line}
use Rattle.walk_lines.proofs.put_entry.Goals as goal

pub returns : goal.returns
unfolding listed_line
returns c = then_piece (then_piece (then_piece (then_piece c.put_head.ensures c.put.ensures) c.put-2.ensures) c.put_shown.ensures) c.put-3.ensures
