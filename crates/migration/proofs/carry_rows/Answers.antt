-- `migration::carry_rows` meets its contract. The invariant: the rows before row i are written. Assumes nothing.
use native.Mathlib.Omega.{arith}
use Rattle.migration.proofs.Carrying.{carrying_first, words_same, carrying_next, carrying_done}
use Rattle.migration.proofs.carry_rows.Goals as goal

pub row_by-row-requires : goal.row_by-row-requires
row_by-row-requires c = omega (arith, c.requires.0, c.loop-i-test.true)

pub write_row-requires : goal.write_row-requires
write_row-requires c = (omega (arith, words_same c.loop-i.invariant c.requires.1, c.requires.1, c.loop-i-test.true), c.row_by-row.ensures.small)

pub loop-i-preserved : goal.loop-i-preserved
loop-i-preserved c = carrying_next c.loop-i.invariant c.requires.1 c.loop-i-test.true c.row_by-row.ensures.is c.write_row.ensures

pub loop-i-init : goal.loop-i-init
loop-i-init c = carrying_first _ _ _ c.requires.1

pub shape_of-words : goal.shape_of-words
shape_of-words c = words_same c.loop-i.invariant c.requires.1

pub returns : goal.returns
returns c = carrying_done c.loop-i.invariant c.requires.1 c.loop-i-test.false
