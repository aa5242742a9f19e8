-- `readings::bytes_at` meets its contract. Assumes nothing.
use mathlib.Core.Path.{refl}
use Prim.Native.Nat.{◌+◌}
use Rattle.laws.proofs.Lists.{part_slice}
use Rattle.readings.proofs.bytes_at.Goals as goal

pub returns : goal.returns
returns c = (part_slice c.args.bodies.now c.args.place.start (c.args.place.start + c.args.place.size), refl)
