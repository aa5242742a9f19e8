-- `steps::put_steps` meets its contract. Assumes nothing.
use Rattle.printing.proofs.Pieces.{then_piece}
use Rattle.steps.specs.Steps.{steps_of}
use Rattle.steps.proofs.put_steps.Goals as goal

pub returns : goal.returns
unfolding steps_of
returns c = rw (← c.first_source-first.ensures, ← c.second_source-second.ensures, ← c.first_line.ensures.0, ← c.second_line.ensures.0) (then_piece c.put.ensures c.put-2.ensures)
