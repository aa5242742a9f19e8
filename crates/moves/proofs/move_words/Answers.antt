-- `moves::move_words` meets its contract. Assumes nothing.
use mathlib.Core.Path.{◌∙◌}
use Rattle.moves.proofs.Moving.{within_over}
use Rattle.moves.proofs.move_words.Goals as goal

pub returns : goal.returns
returns c = c.copy_within.ensures.after ∙ within_over c.args.words.now c.args.from c.args.to c.args.at c.requires.2
