-- `archive_find::find` meets its contract. The invariants: the file is among those from j on, if any; from byte i on the row's name is the path. Assumes nothing.
use Rattle.archive_find.proofs.Comparing.{Ending}
use Rattle.archive_find.proofs.Finding.{Searching}
use Rattle.archive_find.proofs.find.Given as goal

abbrev pub invariant-bytes : goal.invariant-bytes
invariant-bytes l = Ending l.bytes l.path l.start l.i

abbrev pub invariant-rows : goal.invariant-rows
invariant-rows l = Searching l.bytes l.path l.count l.at l.j
