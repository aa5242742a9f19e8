-- `query::parse_query` meets its contract. Assumes nothing.
use mathlib.Core.Path.{refl}
use Rattle.std.proofs.lemmas.Result.{err_from_is_err_and}
use Rattle.query.specs.Shapes.{split_over}
use Rattle.query.proofs.Queries.{fault_parsed, count_parsed}
use Rattle.query.proofs.parse_query.Goals as goal

pub returns-in_err-split : goal.returns-in_err-split
unfolding split_over
returns-in_err-split g c =
    let p = err_from_is_err_and c.from_residual.result c.from_residual.ensures.1 in
    let f = fault_parsed _ _ _ (rw c.in_err-split.was at c.split_names.ensures.0) in
    record { fault = rw (p.1, p.2, f) refl; split = rw (c.split_names.ensures.1, c.split_names.ensures.2, f) refl }

pub returns : goal.returns
unfolding split_over
returns g c =
    let n = count_parsed _ _ _ (rw c.in_ok-split.was at c.split_names.ensures.0) in
    record { fault = rw n.0 refl; split = rw (c.split_names.ensures.1, c.split_names.ensures.2, n.0, n.1) refl }
