-- `board_search::search_board` meets its contract: going on from slot i with the best so far comes to what is looked for. Assumes nothing.
use Prim.Native.Nat.{max}
use lib.ListN.{length}
use Rattle.std.specs.Option.{unwrap_or}
use Rattle.definition.specs.Limits.{most_packs}
use Rattle.board_layout.specs.Laid.{lent_of}
use Rattle.marks.specs.Rows.{best_in}
use Rattle.positions.specs.Parts.{positions_in}
use Rattle.lookup.specs.Searches.{found_or}
use Rattle.board_search.proofs.Numbering.{Kept}
use Rattle.board_search.proofs.Searching.{Passing}
use Rattle.board_search.proofs.search_board.Given as goal

abbrev pub invariant-loop-i : goal.invariant-loop-i
invariant-loop-i l =
    let long = max (length l.name.starts.now) (length l.class.starts.now) in
    Passing (lent_of l.board.buffers) (unwrap_or l.skip most_packs) (positions_in l.name l.class) l.i (best_in long (found_or 0 l.found) l.held) × Kept long l.found l.held
