-- `marks::next_row` meets its contract: a skip, else a match, else none. Assumes nothing.
use mathlib.Core.Bool.{false, ◌&&◌}
use mathlib.Core.Path.{◌≡◌, refl}
use lib.Dec.{eqb}
use lib.ListN.{get_or}
use borrow.Author.Tests.{eq-eqb, ne_eqb, lt-ltb, le-ltb}
use Rattle.definition.specs.Bytes.{star}
use Rattle.marks.specs.Rows.{is_live, marked, next_of, stepped}
use Rattle.marks.proofs.Rows.{mark_digit}
use Rattle.marks.proofs.next_row.Goals as goal
use Rattle.marks.proofs.next_row.Goals.{then-row-gt0+else-key-e-eq42, else-row-gt0}

pub returns-then-key-e-eq42 : goal.returns-then-key-e-eq42
unfolding next_of marked
returns-then-key-e-eq42 c = rw (lt-ltb _ _ c.if-row-gt0.true, eq-eqb _ _ c.if-key-e-eq42.true) c.with_mark.ensures

pub step-requires : goal.step-requires
step-requires c = (c.requires.3, mark_digit _ _ _ c.mark-m.ensures)

pub returns-then-before-gt0 : goal.returns-then-before-gt0
unfolding next_of
returns-then-before-gt0 c =
    let unskipped : (is_live c.args.row && eqb (get_or c.args.key.now c.args.e 0) star) ≡ false = elim c.if-row-gt0.branch [ then-row-gt0+else-key-e-eq42 w ↦ rw (lt-ltb _ _ w.if-row-gt0.true, ne_eqb _ _ w.if-key-e-eq42.false) refl | else-row-gt0 w ↦ rw (le-ltb _ _ w.if-row-gt0.false) refl ] in
    rw (unskipped, ← c.mark-m.ensures) c.step.ensures

pub returns : goal.returns
unfolding next_of stepped
returns c =
    let unskipped : (is_live c.args.row && eqb (get_or c.args.key.now c.args.e 0) star) ≡ false = elim c.if-row-gt0.branch [ then-row-gt0+else-key-e-eq42 w ↦ rw (lt-ltb _ _ w.if-row-gt0.true, ne_eqb _ _ w.if-key-e-eq42.false) refl | else-row-gt0 w ↦ rw (le-ltb _ _ w.if-row-gt0.false) refl ] in
    rw (unskipped, le-ltb _ _ c.if-before-gt0.false) c.no_row.ensures
