-- `codes::start_code` meets its contract. Assumes nothing.
use mathlib.Core.Path.{refl}
use Rattle.codes.proofs.start_code.Goals as goal

pub returns-in-Ok : goal.returns-in-Ok
returns-in-Ok c = rw c.in-Ok.is refl

pub returns-in-Err : goal.returns-in-Err
returns-in-Err c = rw (c.in-Err.is, c.from.ensures) refl
