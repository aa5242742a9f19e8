-- `skips::leading` meets its contract. Assumes nothing.
use lib.Dec.{eqb}
use Rattle.scan.proofs.Runs.{Passed}
use Rattle.skips.proofs.leading.Given as goal

abbrev pub invariant-loop-i : goal.invariant-loop-i
invariant-loop-i l = Passed (eqb l.byte) l.text l.i
