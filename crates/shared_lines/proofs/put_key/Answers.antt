-- `shared_lines::put_key` meets its contract. Assumes nothing.
use Rattle.printing.proofs.Pieces.{then_piece}
use Rattle.shared_lines.specs.Lines.{key_of}
use Rattle.shared_lines.proofs.put_key.Goals as goal

pub returns : goal.returns
unfolding key_of
returns c =
    let names = then_piece (then_piece (then_piece c.put.ensures c.put-2.ensures) c.put-3.ensures) c.put-4.ensures in
    then_piece (then_piece names c.put-5.ensures) c.put-6.ensures
