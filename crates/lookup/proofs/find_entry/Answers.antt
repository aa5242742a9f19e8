-- `lookup::find_entry` meets its contract: what the query decides, and the search. Assumes nothing.
use Rattle.std.proofs.lemmas.Result.{err_from_is_err_and}
use Rattle.lookup.proofs.Looking.{in_past, in_malformed, in_found}
use Rattle.lookup.proofs.find_entry.Goals as goal

pub returns-in_err-names-clause-found : goal.returns-in_err-names-clause-found
returns-in_err-names-clause-found c =
    let p = err_from_is_err_and c.from_residual.result c.from_residual.ensures.1 in
    rw (p.1, p.2) (in_past _ _ _ _ _ _ _ c.in_err-names.ensures.query)

pub returns-in_default-clause-found : goal.returns-in_default-clause-found
returns-in_default-clause-found c = in_malformed _ _ _ _ _ _ (rw c.in_default.is at c.in_ok-names.ensures.query)

pub returns-clause-found : goal.returns-clause-found
returns-clause-found c = in_found _ _ _ _ _ _ _ (rw c.in-Some.is at c.in_ok-names.ensures.query) _ c.match_entry.ensures.number c.match_entry.ensures.below
