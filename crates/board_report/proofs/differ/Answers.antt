-- `board_report::differ` meets its contract. Assumes nothing.
use mathlib.Core.Bool.{not}
use mathlib.Core.Path.{ap, ◌∙◌}
use Rattle.definition.specs.Lists.{same}
use Rattle.scan.proofs.Bridges.{same_pointwise}
use Rattle.board_report.proofs.differ.Goals as goal

pub returns : goal.returns
returns c = c.ne.ensures ∙ ap not (same_pointwise _ _) ∙ (λ t. not (same (c.value_at-a.ensures t) (c.value_at-b.ensures t)))
