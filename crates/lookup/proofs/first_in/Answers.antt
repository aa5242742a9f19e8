-- `lookup::first_in` meets its contract: what the query decides, and the search. Assumes nothing.
use mathlib.Core.Path.{◌∙◌}
use Rattle.definition.specs.Query.{shell}
use Rattle.lookup.proofs.Looking.{entry_asked}
use Rattle.lookup.proofs.first_in.Goals as goal

pub returns : goal.returns
returns c = (rw (c.min-last.ensures, c.count.ensures.0) at c.find_entry.ensures.found) ∙ entry_asked shell _ _ _ _ c.args.image.now.judged _ _ _
