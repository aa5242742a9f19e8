-- `skips::line_end` meets its contract. Assumes nothing.
use Rattle.definition.specs.Bytes.{not_newline}
use Rattle.scan.proofs.Runs.{Passed}
use Rattle.skips.proofs.line_end.Given as goal

abbrev pub invariant-loop-i : goal.invariant-loop-i
invariant-loop-i l = Passed not_newline l.text l.i
