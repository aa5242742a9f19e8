-- `marks::skip_loose` meets its contract. Assumes nothing.
use borrow.Author.Tests.{eq-eqb, ne_eqb, lt-ltb, le-ltb}
use Rattle.marks.specs.Rows.{marked, skipped}
use Rattle.marks.proofs.skip_loose.Goals as goal
use Rattle.marks.proofs.skip_loose.Goals.{then-row-gt0+else-binding-eq42, else-row-gt0}

pub returns-then-binding-eq42 : goal.returns-then-binding-eq42
unfolding skipped marked
returns-then-binding-eq42 c = rw (lt-ltb _ _ c.if-row-gt0.true, eq-eqb _ _ c.if-binding-eq42.true) c.with_mark.ensures

pub returns : goal.returns
unfolding skipped
returns c = elim c.if-row-gt0.branch [ then-row-gt0+else-binding-eq42 w ↦ rw (lt-ltb _ _ w.if-row-gt0.true, ne_eqb _ _ w.if-binding-eq42.false) c.no_row.ensures | else-row-gt0 w ↦ rw (le-ltb _ _ w.if-row-gt0.false) c.no_row.ensures ]
