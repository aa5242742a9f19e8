-- `moves::copy_words` meets its contract. Assumes nothing.
use mathlib.Core.Path.{refl}
use lib.ListN.{length-set}
use Rattle.moves.proofs.Moving.{stored_first, stored_more, stored_all}
use Rattle.moves.proofs.copy_words.Goals as goal

pub loop-i-init : goal.loop-i-init
loop-i-init c = (stored_first _ _ _ c.requires, refl)

pub loop-i-preserved : goal.loop-i-preserved
loop-i-preserved c = (stored_more _ _ _ c.requires c.loop-i.invariant.0 c.loop-i-test.true _ refl, simp length-set c.loop-i.invariant.1)

pub returns : goal.returns
returns c = stored_all _ _ _ c.requires c.loop-i.invariant.0 c.loop-i-test.false
