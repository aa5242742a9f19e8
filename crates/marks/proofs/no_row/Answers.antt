-- `marks::no_row` meets its contract. Assumes nothing.
use mathlib.Core.Path.{refl}
use Rattle.marks.specs.Rows.{marks_of}
use Rattle.marks.proofs.no_row.Goals as goal

pub returns : goal.returns
unfolding marks_of
returns c = refl
