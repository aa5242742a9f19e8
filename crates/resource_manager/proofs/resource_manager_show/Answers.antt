-- `resource_manager::resource_manager_show` meets its contract. Assumes nothing.
use mathlib.Core.Path.{ap, ◌∙◌}
use Rattle.definition.specs.Query.{shell}
use Rattle.lookup.proofs.Looking.{bytes_within}
use Rattle.readings.proofs.Readings.{shows}
use Rattle.codes.specs.Codes.{place_code}
use Rattle.resource_manager.proofs.Fitting.{bytes_small}
use Rattle.resource_manager.proofs.resource_manager_show.Goals as goal

pub value_or-requires : goal.value_or-requires
value_or-requires c = bytes_within shell _ _ _ _ c.get_bytes-found.result c.get_bytes-found.ensures

pub place_code-requires : goal.place_code-requires
place_code-requires c = bytes_small shell _ _ _ _ c.get_bytes-found.result c.get_bytes-found.ensures

pub returns : goal.returns
returns c =
    let s = shows shell _ _ _ _ c.get_bytes-found.result _ _ _ _ _ c.get_bytes-found.ensures c.value_or.ensures in
    (c.place_code.ensures ∙ ap place_code c.get_bytes-found.ensures, s.0, s.1)
