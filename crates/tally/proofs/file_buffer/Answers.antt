-- The buffer is zeroes: its length, computed, would go too deep.
use Rattle.std.proofs.Common.{ℕ, sym, refl}
use Rattle.std.proofs.Math.ListN.{length-replicate}
use Rattle.definition.specs.Lists.{zeroes}
use Rattle.tally.proofs.file_buffer.Goals as goal

pub returns : goal.returns
unfolding zeroes
returns c = (refl, sym (length-replicate {A = ℕ} 524288 0))
