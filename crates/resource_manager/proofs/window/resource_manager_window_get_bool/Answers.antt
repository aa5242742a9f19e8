-- `resource_manager::window::resource_manager_window_get_bool` meets its contract. Assumes nothing.
use mathlib.Core.Path.{ap, ◌∙◌}
use Rattle.codes.specs.Codes.{bool_code}
use Rattle.resource_manager.proofs.window.resource_manager_window_get_bool.Goals as goal

pub returns : goal.returns
returns c = c.bool_code.ensures ∙ ap bool_code c.window_get_bool-truth.ensures
