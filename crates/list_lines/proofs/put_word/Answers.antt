-- `list_lines::put_word` meets its contract. Assumes nothing.
use Rattle.printing.proofs.Pieces.{then_piece}
use Rattle.list_lines.specs.Lines.{word_line}
use Rattle.list_lines.proofs.put_word.Goals as goal

pub returns : goal.returns
unfolding word_line
returns c = then_piece (then_piece (then_piece c.put.ensures c.put-2.ensures) c.put_number.ensures) c.put-3.ensures
