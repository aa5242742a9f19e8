-- `resource_manager::walking::resource_manager_walk_start` meets its contract. Assumes nothing.
use mathlib.Core.Path.{ap, ◌∙◌}
use Rattle.definition.specs.Lookup.{Reply}
use Rattle.definition.specs.Walking.{Walk}
use Rattle.codes.specs.Codes.{start_numbers}
use Rattle.resource_manager.proofs.walking.resource_manager_walk_start.Goals as goal

pub returns : goal.returns
returns c = c.start_code.ensures ∙ ap (λ (x : Reply Walk). start_numbers x c.args.next.now c.args.count.now) c.walk_start-started.ensures
