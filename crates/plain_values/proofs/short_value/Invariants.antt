-- `plain_values::short_value` meets its contract. Assumes nothing.
use Rattle.plain_values.proofs.Values.{Copying}
use Rattle.plain_values.proofs.short_value.Given as goal

abbrev pub invariant-loop-i : goal.invariant-loop-i
invariant-loop-i l = Copying l.text l.initial.store l.at l.store l.i
