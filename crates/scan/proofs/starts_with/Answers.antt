-- `scan::starts_with` meets its contract. Assumes nothing.
use mathlib.Core.Path.{◌∙◌}
use Rattle.scan.proofs.Bridges.{starts_with_pointwise}
use Rattle.scan.proofs.starts_with.Goals as goal

pub returns : goal.returns
returns c = c.starts_with.ensures.value ∙ starts_with_pointwise c.args.word.now c.args.text.now
