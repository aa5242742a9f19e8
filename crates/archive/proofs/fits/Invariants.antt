-- `archive::fits` meets its contract. The invariant: the archive fits if the files from j on do. Assumes nothing.
use mathlib.Core.Path.{◌≡◌}
use Rattle.laws.proofs.Walked.{fits}
use Rattle.archive.proofs.Walk.{Standing, fits_left}
use Rattle.archive.proofs.fits.Given as goal

abbrev pub invariant-loop-j : goal.invariant-loop-j
invariant-loop-j l = Standing l.archive l.count l.at l.j × (fits l.archive ≡ fits_left l.archive l.count l.at l.j)
