-- The line reader and the include function, which call each other, meet their contracts: the depth left falls. Assumes nothing.
use Prim.Native.Nat.{◌+◌, ◌*◌}
use lib.ListN.{length}
use Rattle.definition.specs.Archive.{files_of}
use Rattle.image.specs.Running.{world}
use Rattle.includes.proofs.Loop.{Reading}
use Rattle.includes.proofs.+include_parse_database.Given as goal

abbrev pub decreases-include : goal.decreases-include
decreases-include l = 2 * l.depth

abbrev pub decreases-parse_database : goal.decreases-parse_database
decreases-parse_database l = 2 * l.depth + 1

abbrev pub invariant-parse_database-loop-rest : goal.invariant-parse_database-loop-rest
invariant-parse_database-loop-rest l = Reading l.origin l.depth (files_of l.archive.bytes.now) l.folder l.text (world l.initial.s l.initial.words l.initial.store) l.s l.words l.store l.rest

abbrev pub decreases-parse_database-loop-rest : goal.decreases-parse_database-loop-rest
decreases-parse_database-loop-rest l = length l.rest
