-- `walk_lines::put_walk` meets its contract: the lines from the next number on are still to be put. Assumes nothing.
use Prim.Native.Nat.{◌-◌}
use Rattle.definition.specs.Archive.{files_of}
use Rattle.definition.specs.Query.{query_of}
use Rattle.definition.specs.Writing.{sources_of_image}
use Rattle.printing.proofs.Pieces.{Walk}
use Rattle.walk_lines.specs.Lines.{walk_lines}
use Rattle.walk_lines.proofs.Walks.{lines_left}
use Rattle.walk_lines.proofs.put_walk.Given as goal

abbrev pub invariant-loop-next : goal.invariant-loop-next
invariant-loop-next l =
    Walk (walk_lines (files_of l.archive.bytes.now) (query_of l.name l.class) (sources_of_image l.image.contents.now l.image.bodies.now)) l.initial.out
    (lines_left l.image.contents.now l.image.bodies.now l.name l.class (files_of l.archive.bytes.now) l.next) l.out

abbrev pub decreases-loop-next : goal.decreases-loop-next
decreases-loop-next l = l.count - l.next
