-- `resource_manager::resource_manager_get_value` meets its contract. Assumes nothing.
use mathlib.Core.Path.{ap, ◌∙◌}
use Rattle.definition.specs.Lookup.{Reply}
use Rattle.definition.specs.Value.{Number}
use Rattle.codes.specs.Codes.{taken}
use Rattle.resource_manager.proofs.resource_manager_get_value.Goals as goal

pub returns : goal.returns
returns c = c.value_code.ensures ∙ ap (λ (x : Reply Number). taken x c.args.out.now) c.get_value-value.ensures
