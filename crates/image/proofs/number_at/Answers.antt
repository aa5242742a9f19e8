-- `image::number_at` meets its contract. Assumes nothing.
use mathlib.Core.Path.{refl}
use native.Mathlib.Omega.{arith}
use Rattle.image.proofs.number_at.Goals as goal

pub returns : goal.returns
returns c = (refl, omega (arith, c.type_inv.words c.args.at))

pub overflow_cast-result : goal.overflow_cast-result
overflow_cast-result c = omega (arith, c.type_inv.words c.args.at)
