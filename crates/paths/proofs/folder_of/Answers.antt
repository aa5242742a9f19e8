-- `paths::folder_of` meets its contract. The invariant: no `/` stands from i on. Assumes nothing.
use mathlib.Core.Path.{◌≡◌, sym, ap, refl}
use native.Mathlib.Omega.{arith}
use lib.Seq.{drop-length}
use lib.Dec.{eqb}
use Rattle.definition.specs.Bytes.{slash}
use Rattle.definition.specs.Lists.{any}
use Rattle.paths.proofs.Folders.{folder_none, folder_here, folder_back}
use Rattle.paths.proofs.folder_of.Goals as goal

pub loop-i-init : goal.loop-i-init
unfolding any
loop-i-init c = ap (any (eqb slash)) (drop-length c.args.name.now)

pub returns-then-name-i-eq47 : goal.returns-then-name-i-eq47
returns-then-name-i-eq47 c = (sym (folder_here c.args.name.now c.loop-i.i c.loop-i-test.true c.loop-i.auto.i c.loop-i.invariant c.if-name-i-eq47.true), refl)

pub loop-i-preserved : goal.loop-i-preserved
loop-i-preserved c = folder_back c.args.name.now c.loop-i.i c.loop-i-test.true c.loop-i.auto.i c.loop-i.invariant c.if-name-i-eq47.false

pub returns : goal.returns
returns c =
    let z : c.loop-i.i ≡ 0 = omega arith in
    (sym (folder_none c.args.name.now (rw z at c.loop-i.invariant)), refl)
