-- `board_report::bits_of` meets its contract: the bits of the queries from q on. Assumes nothing.
use lib.ListN.{get_or}
use Rattle.definition.specs.Board.{changes, slot_start, board_in}
use Rattle.board_layout.specs.Laid.{lent_of}
use Rattle.board_report.proofs.Reporting.{Bits}
use Rattle.board_report.proofs.bits_of.Given as goal

abbrev pub invariant-loop-q : goal.invariant-loop-q
invariant-loop-q l = Bits (changes (get_or l.board.buffers.words.now (slot_start l.i) 0) (board_in (lent_of l.board.buffers))) l.count l.q l.bits
