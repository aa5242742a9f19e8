-- `moves::move_bytes` meets its contract. Assumes nothing.
use mathlib.Core.Path.{◌∙◌}
use Rattle.moves.proofs.Moving.{within_over}
use Rattle.moves.proofs.move_bytes.Goals as goal

pub returns : goal.returns
returns c = c.copy_within.ensures.after ∙ within_over c.args.bytes.now c.args.from c.args.to c.args.at c.requires.2
