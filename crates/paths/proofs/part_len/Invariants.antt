-- `paths::part_len` meets its contract. Assumes nothing.
use Rattle.scan.proofs.Runs.{Passed}
use Rattle.paths.specs.Parts.{not_slash}
use Rattle.paths.proofs.part_len.Given as goal

abbrev pub invariant-loop-i : goal.invariant-loop-i
invariant-loop-i l = Passed not_slash l.text l.i
