-- `readings::window_show` meets its contract. Assumes nothing.
use Rattle.definition.specs.Query.{window}
use Rattle.lookup.proofs.Looking.{bytes_within}
use Rattle.readings.proofs.Readings.{shows}
use Rattle.readings.proofs.window_show.Goals as goal

pub value_or-requires : goal.value_or-requires
value_or-requires c = bytes_within window _ _ _ _ c.window_get_bytes-found.result c.window_get_bytes-found.ensures

pub returns : goal.returns
returns c = shows window _ _ _ _ c.window_get_bytes-found.result _ _ _ _ _ c.window_get_bytes-found.ensures c.value_or.ensures
