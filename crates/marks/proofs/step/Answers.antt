-- `marks::step` meets its contract. Assumes nothing.
use borrow.Author.Tests.{lt-ltb, le-ltb}
use Rattle.marks.specs.Rows.{marked, stepped}
use Rattle.marks.proofs.step.Goals as goal
use Rattle.marks.proofs.step.Goals.{then-row-gt0+else-m-gt0, else-row-gt0}

pub returns-then-m-gt0 : goal.returns-then-m-gt0
unfolding stepped marked
returns-then-m-gt0 c = rw (lt-ltb _ _ c.if-row-gt0.true, lt-ltb _ _ c.if-m-gt0.true) c.with_mark.ensures

pub returns : goal.returns
unfolding stepped
returns c = elim c.if-row-gt0.branch [ then-row-gt0+else-m-gt0 w ↦ rw (lt-ltb _ _ w.if-row-gt0.true, le-ltb _ _ w.if-m-gt0.false) c.no_row.ensures | else-row-gt0 w ↦ rw (le-ltb _ _ w.if-row-gt0.false) c.no_row.ensures ]
