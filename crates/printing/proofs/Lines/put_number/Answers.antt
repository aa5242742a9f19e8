-- `printing::Lines::put_number` meets its contract. Assumes nothing.
use Rattle.printing.proofs.Numbers.{decimal_is}
use Rattle.printing.proofs.Lines.put_number.Goals as goal

pub put-requires : goal.put-requires
put-requires c = rw (decimal_is c.args.n _ _ c.ranges.n.fits c.decimal-k.ensures.digits c.decimal-k.ensures.len) c.requires

pub returns : goal.returns
returns c = rw (decimal_is c.args.n _ _ c.ranges.n.fits c.decimal-k.ensures.digits c.decimal-k.ensures.len) at c.put.ensures
