-- `board::slots_before` meets its contract. Assumes nothing.
use mathlib.Core.Path.{◌∙◌}
use Rattle.board.proofs.Writing.{slot_or}
use Rattle.board.proofs.slots_before.Goals as goal

pub returns : goal.returns
returns c = c.unwrap_or.ensures ∙ slot_or c.args.words.now c.args.number c.args.count _ c.slot_of.ensures
