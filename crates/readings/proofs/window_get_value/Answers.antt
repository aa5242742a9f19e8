-- `readings::window_get_value` meets its contract. Assumes nothing.
use mathlib.Core.Path.{ap, ◌∙◌}
use Rattle.std.specs.Prelude.{Ok}
use Rattle.std.proofs.lemmas.Result.{err_from_is_err_and}
use Rattle.definition.specs.Query.{window}
use Rattle.definition.specs.Value.{as_string, as_number, get_string_by, get_value_by}
use Rattle.lookup.proofs.Looking.{bytes_within}
use Rattle.readings.proofs.Readings.{read_refused, string_refused}
use Rattle.readings.proofs.window_get_value.Goals as goal

pub returns-in_err-found : goal.returns-in_err-found
unfolding get_string_by get_value_by as_number
returns-in_err-found c = let p = err_from_is_err_and c.from_residual.result c.from_residual.ensures.1 in rw (p.1, p.2) (read_refused _ _ _ (string_refused _ _ _ c.in_err-found.ensures))

pub value_of-requires : goal.value_of-requires
value_of-requires c = bytes_within window _ _ _ _ (Ok c.in_ok-found.found) c.in_ok-found.ensures

pub returns : goal.returns
unfolding get_string_by get_value_by
returns c = c.value_of.ensures ∙ ap (as_number _) (ap (as_string _) c.in_ok-found.ensures)
