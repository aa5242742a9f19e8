-- `archive::word_at` meets its contract: bytes are below 256. Assumes nothing.
use Prim.Native.Nat.{◌+◌}
use native.Mathlib.Omega.{arith}
use Rattle.archive.proofs.word_at.Goals as goal

pub returns : goal.returns
returns c = omega (arith, c.type_inv.archive c.args.i, c.type_inv.archive (c.args.i + 1))
