-- `file_names::lower` meets its contract. Assumes nothing.
use mathlib.Core.Path.{◌∙◌}
use Rattle.file_names.proofs.Below.{lower_lt}
use Rattle.file_names.proofs.lower.Goals as goal

pub returns : goal.returns
returns c = c.lt.ensures ∙ lower_lt c.args.a.now c.args.b.now
