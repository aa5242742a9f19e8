-- `resource_manager::window::resource_manager_window_get_bytes` meets its contract. Assumes nothing.
use mathlib.Core.Path.{ap, ◌∙◌}
use Rattle.definition.specs.Query.{window}
use Rattle.codes.specs.Codes.{place_code}
use Rattle.resource_manager.proofs.Fitting.{bytes_small}
use Rattle.resource_manager.proofs.window.resource_manager_window_get_bytes.Goals as goal

pub place_code-requires : goal.place_code-requires
place_code-requires c = bytes_small window c.args.contents.now c.args.bodies.now c.args.name.now c.args.class.now c.window_get_bytes-found.result c.window_get_bytes-found.ensures

pub returns : goal.returns
returns c = c.place_code.ensures ∙ ap place_code c.window_get_bytes-found.ensures
