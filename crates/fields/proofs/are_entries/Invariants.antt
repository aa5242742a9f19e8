-- `fields::are_entries` meets its contract. Assumes nothing.
use Rattle.fields.proofs.Rows.{Walk}
use Rattle.fields.proofs.are_entries.Given as goal

abbrev pub invariant-loop-i : goal.invariant-loop-i
invariant-loop-i l = Walk l.image.contents.now l.image.bodies.now l.line l.rest l.i
