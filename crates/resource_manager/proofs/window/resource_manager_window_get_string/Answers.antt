-- `resource_manager::window::resource_manager_window_get_string` meets its contract. Assumes nothing.
use mathlib.Core.Path.{ap, ◌∙◌}
use Rattle.definition.specs.Query.{window}
use Rattle.codes.specs.Codes.{place_code}
use Rattle.resource_manager.proofs.Fitting.{string_small}
use Rattle.resource_manager.proofs.window.resource_manager_window_get_string.Goals as goal

pub place_code-requires : goal.place_code-requires
place_code-requires c = string_small window c.args.contents.now c.args.bodies.now c.args.name.now c.args.class.now c.window_get_string-found.result c.window_get_string-found.ensures

pub returns : goal.returns
returns c = c.place_code.ensures ∙ ap place_code c.window_get_string-found.ensures
