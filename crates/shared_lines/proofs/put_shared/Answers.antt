-- `shared_lines::put_shared` meets its contract. Assumes nothing.
use Rattle.printing.proofs.Pieces.{then_piece}
use Rattle.shared_lines.specs.Lines.{shared_line}
use Rattle.shared_lines.proofs.put_shared.Goals as goal

pub returns : goal.returns
unfolding shared_line
returns c =
    let first = then_piece (then_piece c.put_key.ensures c.put.ensures) c.put_shown.ensures in
    then_piece (then_piece (then_piece first c.put-2.ensures) c.put_shown-2.ensures) c.put-3.ensures
