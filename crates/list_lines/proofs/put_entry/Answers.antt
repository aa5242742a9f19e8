-- `list_lines::put_entry` meets its contract. Assumes nothing.
use Rattle.printing.proofs.Pieces.{then_piece}
use Rattle.list_lines.specs.Lines.{entry_line}
use Rattle.list_lines.proofs.put_entry.Goals as goal

pub returns : goal.returns
unfolding entry_line
returns c =
    let start = then_piece (then_piece c.put_number.ensures c.put.ensures) c.put-2.ensures in
    then_piece (then_piece (then_piece start c.put-3.ensures) c.put_number-2.ensures) c.put-4.ensures
