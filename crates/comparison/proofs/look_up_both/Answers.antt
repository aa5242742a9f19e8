-- `comparison::look_up_both` meets its contract. Assumes nothing.
use Rattle.std.proofs.lemmas.Result.{err_from_is_err_and}
use Rattle.comparison.proofs.Answered.{first_answers, first_refuses}
use Rattle.comparison.proofs.look_up_both.Goals as goal

pub returns-in_err-with_it : goal.returns-in_err-with_it
returns-in_err-with_it c =
    let p = err_from_is_err_and c.from_residual.result c.from_residual.ensures.1 in
    rw (p.1, p.2) (first_refuses _ _ _ _ (rw c.in_err-with_it.was at c.get_bytes.ensures))

pub returns : goal.returns
returns c = rw (c.get_bytes-without.ensures) (first_answers _ _ _ _ (rw c.in_ok-with_it.was at c.get_bytes.ensures))
