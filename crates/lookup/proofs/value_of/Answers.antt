-- `lookup::value_of` meets its contract. Assumes nothing.
use mathlib.Core.Path.{ap}
use Rattle.definition.specs.Lookup.{Place, given}
use Rattle.lookup.specs.Searches.{value_in}
use Rattle.lookup.proofs.Looking.{place_is}
use Rattle.lookup.proofs.value_of.Goals as goal

pub returns : goal.returns
unfolding value_in
returns c = rw c.in-Some.is (ap (λ (x : Place). given x) (place_is _ _ _ c.row-row.ensures))
