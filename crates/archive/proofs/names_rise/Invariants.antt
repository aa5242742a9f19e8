-- `archive::names_rise` meets its contract. The invariant: the names rise if those from file j on do, above the last one. Assumes nothing.
use mathlib.Core.List.{[]}
use mathlib.Core.Path.{◌≡◌}
use lib.ListN.{drop}
use Rattle.definition.specs.Archive.{files_of}
use Rattle.archive.specs.Walk.{rising_from}
use Rattle.archive.proofs.Walk.{Walking}
use Rattle.archive.proofs.names_rise.Given as goal

abbrev pub invariant-loop-j : goal.invariant-loop-j
invariant-loop-j l = Walking l.archive l.count l.at l.j × (rising_from [] (files_of l.archive) ≡ rising_from l.last (drop l.j (files_of l.archive)))
