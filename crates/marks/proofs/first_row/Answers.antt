-- `marks::first_row` meets its contract. Assumes nothing.
use mathlib.Core.Path.{refl}
use Rattle.marks.specs.Rows.{marks_of, packed_from}
use Rattle.marks.proofs.first_row.Goals as goal

pub returns : goal.returns
unfolding marks_of packed_from
returns c = refl
