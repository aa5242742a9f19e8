-- `list_lines::put_entries` meets its contract. Assumes nothing.
use Rattle.printing.proofs.Pieces.{Walk}
use Rattle.list_lines.proofs.Rows.{lines_left}
use Rattle.list_lines.proofs.put_entries.Given as goal

abbrev pub invariant-loop-i : goal.invariant-loop-i
invariant-loop-i l = Walk (lines_left l.contents l.bodies l.count 0) l.initial.out (lines_left l.contents l.bodies l.count l.i) l.out
