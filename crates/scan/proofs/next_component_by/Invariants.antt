-- `scan::next_component_by` meets its contract. Assumes nothing.
use Rattle.definition.specs.Bytes.{is_name}
use Rattle.scan.proofs.Runs.{Passed}
use Rattle.scan.proofs.next_component_by.Given as goal

abbrev pub invariant-loop-i : goal.invariant-loop-i
invariant-loop-i l = Passed is_name l.text l.i
