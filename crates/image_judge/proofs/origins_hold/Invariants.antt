-- `image_judge::origins_hold` meets its contract. The invariant: the rows from row i on decide. Assumes nothing.
use Rattle.image_judge.proofs.Rows.{Standing}
use Rattle.image_judge.proofs.origins_hold.Given as goal

abbrev pub invariant-loop-i : goal.invariant-loop-i
invariant-loop-i l = Standing l.contents l.count l.i
