-- `archive_find::number_of` meets its contract. Assumes nothing.
use mathlib.Core.Path.{◌∙◌}
use Rattle.archive_find.proofs.Finding.{number_found, number_off}
use Rattle.archive_find.proofs.number_of.Goals as goal

pub returns-in-Some : goal.returns-in-Some
returns-in-Some c = number_found c.args.archive.bytes.now c.args.name.now c.find.ensures c.in-Some.is

pub returns-in-None : goal.returns-in-None
returns-in-None c = c.count.ensures.0 ∙ number_off c.args.archive.bytes.now c.args.name.now c.find.ensures c.in-None.is
