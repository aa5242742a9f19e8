-- `image_judge::rows_hold` meets its contract. The invariant: the rows hold if those from row i on do, packed from `at`. Assumes nothing.
use Rattle.image_judge.proofs.Rows.{Judging}
use Rattle.image_judge.proofs.rows_hold.Given as goal

abbrev pub invariant-loop-i : goal.invariant-loop-i
invariant-loop-i l = Judging l.width l.contents l.bodies l.count l.used l.at l.i
