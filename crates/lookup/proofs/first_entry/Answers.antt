-- `lookup::first_entry` meets its contract: 8, and the search in the image. Assumes nothing.
use Rattle.std.proofs.lemmas.Result.{err_from_is_err_and}
use Rattle.lookup.proofs.Looking.{no_image}
use Rattle.lookup.proofs.first_entry.Goals as goal

pub returns-in_err-image : goal.returns-in_err-image
returns-in_err-image c =
    let p = err_from_is_err_and c.from_residual.result c.from_residual.ensures.1 in
    rw (p.1, p.2, c.in_err-image.ensures.0) (no_image _ _ _ _ _ _ _ _ c.in_err-image.ensures.1)

pub returns : goal.returns
returns c =
    let image = c.in_ok-image.ensures in
    rw (image.0, image.1) at c.first_in.ensures
