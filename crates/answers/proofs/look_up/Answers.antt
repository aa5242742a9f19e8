-- `answers::look_up` meets its contract. Assumes nothing.
use Rattle.std.proofs.lemmas.Result.{err_from_is_err_and}
use Rattle.answers.proofs.Showing.{refused_looks, accepted_looks}
use Rattle.answers.proofs.look_up.Goals as goal

pub returns-in_err-_read : goal.returns-in_err-_read
returns-in_err-_read c =
    let p = err_from_is_err_and c.from_residual.result c.from_residual.ensures.1 in
    rw (p.1, p.2) (refused_looks _ _ _ _ _ _ _ _ _ _ c.in_err-_read.ensures)

pub returns : goal.returns
returns c = accepted_looks _ _ _ _ _ _ _ _ _ _ _ _ c.in_ok-_read.ensures c.get_bytes.ensures
