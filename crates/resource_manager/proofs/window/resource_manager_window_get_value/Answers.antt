-- `resource_manager::window::resource_manager_window_get_value` meets its contract. Assumes nothing.
use mathlib.Core.Path.{ap, ◌∙◌}
use Rattle.definition.specs.Lookup.{Reply}
use Rattle.definition.specs.Value.{Number}
use Rattle.codes.specs.Codes.{taken}
use Rattle.resource_manager.proofs.window.resource_manager_window_get_value.Goals as goal

pub returns : goal.returns
returns c = c.value_code.ensures ∙ ap (λ (x : Reply Number). taken x c.args.out.now) c.window_get_value-value.ensures
