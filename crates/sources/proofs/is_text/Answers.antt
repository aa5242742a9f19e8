-- `sources::is_text` meets its contract. Assumes nothing.
use mathlib.Core.Path.{◌∙◌}
use borrow.Author.Tests.{ne_eqb}
use Rattle.sources.proofs.Choosing.{other_format, some_text}
use Rattle.sources.proofs.is_text.Goals as goal

pub returns-then-format-eq8 : goal.returns-then-format-eq8
returns-then-format-eq8 c = some_text _ _ c.if-format-eq8.true

pub returns-else-format-eq8 : goal.returns-else-format-eq8
returns-else-format-eq8 c = ne_eqb c.args.format 8 c.if-format-eq8.false ∙ other_format c.args.format c.args.property.now c.if-format-eq8.false
