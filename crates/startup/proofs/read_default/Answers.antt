-- `startup::read_default` meets its contract. Assumes nothing.
use mathlib.Core.Path.{◌∙◌}
use Rattle.sources.specs.Lending.{as_lent}
use Rattle.startup.proofs.Starting.{reads_start}
use Rattle.startup.proofs.read_default.Goals as goal

pub returns : goal.returns
returns c = c.read_texts.ensures ∙ reads_start (as_lent c.args.start) c.args.depth _ c.texts-texts.ensures.0 c.args.archive.now c.args.contents.now c.args.bodies.now
