-- `lookup::get_bytes` meets its contract: 8, what the query decides, and the search. Assumes nothing.
use Rattle.std.proofs.lemmas.Result.{err_from_is_err_and}
use mathlib.Core.Path.{◌∙◌}
use Rattle.definition.specs.Query.{shell}
use Rattle.lookup.specs.Searches.{value_in}
use Rattle.lookup.proofs.Looking.{no_bytes, bytes_found}
use Rattle.lookup.proofs.get_bytes.Goals as goal

pub returns-in_err-image : goal.returns-in_err-image
returns-in_err-image c =
    let p = err_from_is_err_and c.from_residual.result c.from_residual.ensures.1 in
    rw (p.1, p.2, c.in_err-image.ensures.0) (no_bytes shell _ _ _ _ c.in_err-image.ensures.1)

pub returns-in_err-found : goal.returns-in_err-found
unfolding value_in
returns-in_err-found c =
    let p = err_from_is_err_and c.from_residual-in_err-found.result c.from_residual-in_err-found.ensures.1 in
    let image = c.in_ok-image.ensures in
    rw (p.1, p.2) (bytes_found shell _ _ _ _ image.2 _ (rw image.0 at c.count-last.ensures.0) _ (rw (image.0, image.1, c.in_err-found.was) at c.find_entry.ensures.found))

pub value_of-requires : goal.value_of-requires
value_of-requires c = rw (c.count-last.ensures.0, c.in_ok-found.was) at c.find_entry.ensures.below

pub returns : goal.returns
returns c =
    let image = c.in_ok-image.ensures in
    (rw image.0 at c.value_of.ensures) ∙ bytes_found shell _ _ _ _ image.2 _ (rw image.0 at c.count-last.ensures.0) _ (rw (image.0, image.1, c.in_ok-found.was) at c.find_entry.ensures.found)
