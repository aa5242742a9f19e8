-- `readings::window_get_string` meets its contract. Assumes nothing.
use mathlib.Core.Path.{ap, ◌∙◌}
use Rattle.std.specs.Prelude.{Ok}
use Rattle.std.proofs.lemmas.Result.{err_from_is_err_and}
use Rattle.definition.specs.Query.{window}
use Rattle.definition.specs.Value.{as_string, get_string_by}
use Rattle.lookup.proofs.Looking.{bytes_within}
use Rattle.readings.proofs.Readings.{string_refused}
use Rattle.readings.proofs.window_get_string.Goals as goal

pub returns-in_err-found : goal.returns-in_err-found
unfolding get_string_by
returns-in_err-found c = let p = err_from_is_err_and c.from_residual.result c.from_residual.ensures.1 in rw (p.1, p.2) (string_refused _ _ _ c.in_err-found.ensures)

pub string_of-requires : goal.string_of-requires
string_of-requires c = bytes_within window _ _ _ _ (Ok c.in_ok-found.found) c.in_ok-found.ensures

pub returns : goal.returns
unfolding get_string_by
returns c = c.string_of.ensures.said ∙ ap (as_string _) c.in_ok-found.ensures
