-- `entry_text::escapes_of` meets its contract. Assumes nothing.
use native.Mathlib.Omega.{arith}
use lib.ListN.{length-drop}
use Rattle.entry_text.proofs.Texts.{counted_none, counted_byte, counted_few, counted_all}
use Rattle.entry_text.proofs.escapes_of.Goals as goal

pub loop-c-init : goal.loop-c-init
loop-c-init c = counted_none _

pub overflow_add-n : goal.overflow_add-n
overflow_add-n c = omega (arith, counted_few (counted_byte c.loop-c.invariant c.loop-c-test.true _ c.from-n.ensures), c.requires)

pub loop-c-preserved : goal.loop-c-preserved
loop-c-preserved c = counted_byte c.loop-c.invariant c.loop-c-test.true _ c.from-n.ensures

pub returns : goal.returns
returns c = counted_all c.loop-c.invariant (omega (arith, length-drop c.loop-c.c-index c.args.part.now, c.loop-c-test.false))
