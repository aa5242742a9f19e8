-- `walk::step_in` meets its contract: it is a search for the first entry that aligns. Assumes nothing.
use mathlib.Core.Path.{◌∙◌}
use Rattle.walk.proofs.Walking.{step_told, steps}
use Rattle.walk.proofs.step_in.Goals as goal

pub returns : goal.returns
returns c = step_told _ ∙ c.first_in.ensures ∙ steps _ _ _ _ _ _
