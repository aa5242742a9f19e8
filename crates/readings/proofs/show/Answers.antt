-- `readings::show` meets its contract. Assumes nothing.
use Rattle.definition.specs.Query.{shell}
use Rattle.lookup.proofs.Looking.{bytes_within}
use Rattle.readings.proofs.Readings.{shows}
use Rattle.readings.proofs.show.Goals as goal

pub value_or-requires : goal.value_or-requires
value_or-requires c = bytes_within shell _ _ _ _ c.get_bytes-found.result c.get_bytes-found.ensures

pub returns : goal.returns
returns c = shows shell _ _ _ _ c.get_bytes-found.result _ _ _ _ _ c.get_bytes-found.ensures c.value_or.ensures
