use Rattle.integers.proofs.Numbers.{number_minus, number_plus}
use Rattle.integers.proofs.with_sign.Goals as goal

pub returns-then-negative : goal.returns-then-negative
returns-then-negative c = rw c.if-negative.true (number_minus c.args.n _ c.checked_sub_unsigned.ensures)

pub returns-else-negative : goal.returns-else-negative
returns-else-negative c = rw c.if-negative.false (number_plus c.args.n _ c.checked_add_unsigned.ensures)
