-- `archive::Archive::member` meets its contract. The invariant: the walk stands at file j. Assumes nothing.
use lib.ListN.{length}
use Rattle.definition.specs.Archive.{files_of}
use Rattle.archive.proofs.Walk.{Walking}
use Rattle.archive.proofs.Archive.member.Given as goal

abbrev pub invariant-loop-j : goal.invariant-loop-j
invariant-loop-j l = Walking l.self.bytes.now (length (files_of l.self.bytes.now)) l.at l.j
