-- `walk::walk_step` meets its contract: it is a search for the first entry that aligns. Assumes nothing.
use mathlib.Core.Path.{◌∙◌}
use Rattle.walk.proofs.Walking.{step_told, steps}
use Rattle.walk.proofs.walk_step.Goals as goal

pub returns : goal.returns
returns c = step_told _ ∙ c.first_entry.ensures ∙ steps _ _ _ _ _ _
