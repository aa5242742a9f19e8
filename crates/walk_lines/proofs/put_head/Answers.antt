-- `walk_lines::put_head` meets its contract. Assumes nothing.
use Rattle.printing.proofs.Pieces.{then_piece}
use Rattle.walk_lines.specs.Lines.{head_of}
use Rattle.walk_lines.proofs.put_head.Goals as goal

pub returns : goal.returns
unfolding head_of
returns c = then_piece (then_piece (then_piece c.put_number.ensures c.put.ensures) c.put-2.ensures) c.put-3.ensures
