-- `showing::put_line` meets its contract. Assumes nothing.
use Rattle.printing.proofs.Pieces.{then_piece}
use Rattle.showing.specs.Showing.{line_of}
use Rattle.showing.proofs.put_line.Goals as goal

pub returns : goal.returns
unfolding line_of
returns c = then_piece (then_piece (then_piece (then_piece c.put.ensures c.put-2.ensures) c.put-3.ensures) c.put_words.ensures) c.put-4.ensures
