-- `archive_find::find_include` meets its contract. Assumes nothing.
use mathlib.Core.Path.{sym}
use native.Mathlib.Omega.{arith}
use lib.Seq.{length-take-le}
use Rattle.archive_find.proofs.Finding.{sought_at, sought_none}
use Rattle.archive_find.proofs.find_include.Goals as goal

pub slice_bounds-path-end : goal.slice_bounds-path-end
slice_bounds-path-end c =
    let p = rw c.in_ok-n.was at c.path_of.ensures in
    omega (arith, p.2)

pub slice_bounds-find-end : goal.slice_bounds-find-end
slice_bounds-find-end c =
    let p = rw c.in_ok-n.was at c.path_of.ensures in
    sym (length-take-le _ _ (omega (arith, p.2, c.path_of.auto)))

pub returns : goal.returns
returns c =
    let p = rw c.in_ok-n.was at c.path_of.ensures in
    sought_at c.args.archive.bytes.now p.1 c.find.ensures

pub returns-in_err-n : goal.returns-in_err-n
returns-in_err-n c =
    let p = rw c.in_err-n.was at c.path_of.ensures in
    rw c.from_residual.ensures (sought_none c.args.archive.bytes.now p.1)
