-- `query::Split::new` meets its contract. Assumes nothing.
use mathlib.Core.Path.{refl}
use Rattle.definition.specs.Lists.{zeroes}
use Rattle.query.proofs.Split.new.Goals as goal

pub returns : goal.returns
unfolding zeroes
returns g c = refl
