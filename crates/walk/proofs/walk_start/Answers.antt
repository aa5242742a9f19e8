-- `walk::walk_start` meets its contract: 8, and then what the query decides. Assumes nothing.
use Rattle.std.proofs.lemmas.Result.{err_from_is_err_and}
use Rattle.walk.proofs.Walking.{start_no_image, start_past, start_told}
use Rattle.walk.proofs.walk_start.Goals as goal

pub returns-in_err-image : goal.returns-in_err-image
returns-in_err-image c =
    let p = err_from_is_err_and c.from_residual.result c.from_residual.ensures.1 in
    rw (p.1, p.2, c.in_err-image.ensures.0) (start_no_image _ _ _ _ c.in_err-image.ensures.1)

pub returns-in_err-_parts : goal.returns-in_err-_parts
returns-in_err-_parts c =
    let p = err_from_is_err_and c.from_residual-in_err-_parts.result c.from_residual-in_err-_parts.ensures.1 in
    rw (p.1, p.2) (start_past _ _ _ _ c.in_ok-image.ensures.2 _ c.in_err-_parts.ensures.query)

pub returns : goal.returns
returns c = rw (c.count.ensures.0, c.in_ok-image.ensures.0) (start_told _ _ _ _ c.in_ok-image.ensures.2 _ c.in_ok-_parts.ensures.query)
