-- `readings::window_get_bool` meets its contract. Assumes nothing.
use mathlib.Core.Path.{ap, ◌∙◌}
use Rattle.std.specs.Prelude.{Ok}
use Rattle.std.proofs.lemmas.Result.{err_from_is_err_and}
use Rattle.definition.specs.Query.{window}
use Rattle.definition.specs.Value.{as_string, as_bool, get_string_by, get_bool_by}
use Rattle.lookup.proofs.Looking.{bytes_within}
use Rattle.readings.proofs.Readings.{read_refused, string_refused}
use Rattle.readings.proofs.window_get_bool.Goals as goal

pub returns-in_err-found : goal.returns-in_err-found
unfolding get_string_by get_bool_by as_bool
returns-in_err-found c = let p = err_from_is_err_and c.from_residual.result c.from_residual.ensures.1 in rw (p.1, p.2) (read_refused _ _ _ (string_refused _ _ _ c.in_err-found.ensures))

pub bool_of-requires : goal.bool_of-requires
bool_of-requires c = bytes_within window _ _ _ _ (Ok c.in_ok-found.found) c.in_ok-found.ensures

pub returns : goal.returns
unfolding get_string_by get_bool_by
returns c = c.bool_of.ensures ∙ ap (as_bool _) (ap (as_string _) c.in_ok-found.ensures)
