-- `paths::folder_of` meets its contract. The invariant: no `/` stands from i on. Assumes nothing.
use mathlib.Core.Bool.{false}
use mathlib.Core.Path.{◌≡◌}
use lib.ListN.{drop}
use lib.Dec.{eqb}
use Rattle.definition.specs.Bytes.{slash}
use Rattle.definition.specs.Lists.{any}
use Rattle.paths.proofs.folder_of.Given as goal

abbrev pub invariant-loop-i : goal.invariant-loop-i
invariant-loop-i l = any (eqb slash) (drop l.i l.name) ≡ false
