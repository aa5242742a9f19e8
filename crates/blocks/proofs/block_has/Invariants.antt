-- `blocks::block_has` meets its contract: what the first i bytes have is known. Assumes nothing.
use mathlib.Core.Path.{◌≡◌}
use lib.ListN.{take, drop}
use Rattle.definition.specs.Lists.{any}
use Rattle.blocks.specs.Either.{either}
use Rattle.blocks.proofs.block_has.Given as goal

abbrev pub invariant-loop-i : goal.invariant-loop-i
invariant-loop-i l = l.found ≡ any (either l.a l.b) (take l.i (drop l.at l.text))
