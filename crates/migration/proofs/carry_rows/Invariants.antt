-- `migration::carry_rows` meets its contract. The invariant: the rows before row i are written. Assumes nothing.
use Rattle.migration.proofs.Carrying.{Carrying}
use Rattle.migration.proofs.carry_rows.Given as goal

abbrev pub invariant-loop-i : goal.invariant-loop-i
invariant-loop-i l = Carrying l.old l.initial.words l.count l.words l.i
