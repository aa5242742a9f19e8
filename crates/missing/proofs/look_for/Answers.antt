-- `missing::look_for` meets its contract. Assumes nothing.
use mathlib.Core.Path.{sym}
use native.Mathlib.Omega.{arith}
use lib.Seq.{length-take-le}
use Rattle.missing.proofs.Looked.{looks_nowhere, looks_file, looks_absent}
use Rattle.missing.proofs.look_for.Goals as goal

pub returns-in_default : goal.returns-in_default
returns-in_default c =
    let p = rw c.in_default.is at c.path_of.ensures in
    looks_nowhere _ _ _ _ _ p.3 p.1

pub slice_bounds-find-end : goal.slice_bounds-find-end
slice_bounds-find-end c =
    let p = rw c.in-Some.is at c.path_of.ensures in
    omega (arith, p.2, c.path_of.auto, c.requires)

pub slice_bounds-find-end-2 : goal.slice_bounds-find-end-2
slice_bounds-find-end-2 c =
    let p = rw c.in-Some.is at c.path_of.ensures in
    sym (length-take-le _ _ (omega (arith, p.2, c.path_of.auto, c.requires)))

pub returns-in-Some-find : goal.returns-in-Some-find
returns-in-Some-find c =
    let p = rw c.in-Some.is at c.path_of.ensures in
    looks_file _ _ _ _ _ p.3 c.args.archive.judged p.2 (omega (arith, p.2, c.path_of.auto, c.requires)) p.1 c.find.ensures c.in-Some-find.is

pub returns-in-None : goal.returns-in-None
returns-in-None c =
    let p = rw c.in-Some.is at c.path_of.ensures in
    looks_absent _ _ _ _ _ p.3 c.args.archive.judged p.2 (omega (arith, p.2, c.path_of.auto, c.requires)) p.1 c.find.ensures c.in-None.is
