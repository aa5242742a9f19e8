-- `paths::is_dot` meets its contract. Assumes nothing.
use Rattle.scan.proofs.Bridges.{same_pointwise}
use Rattle.paths.proofs.is_dot.Goals as goal

pub returns : goal.returns
returns c = rw (c.eq.ensures, c.as_slice.ensures) (same_pointwise _ _)
