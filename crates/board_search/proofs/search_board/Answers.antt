-- `board_search::search_board` meets its contract: going on from slot i with the best so far comes to what is looked for. Assumes nothing.
use mathlib.Core.Bool.{false}
use mathlib.Core.Path.{◌≡◌, refl, ap, ◌∙◌}
use Prim.Native.Nat.{max}
use native.Mathlib.Omega.{arith}
use lib.ListN.{length}
use Rattle.definition.specs.Image.{rows_in, count_of}
use Rattle.definition.specs.Board.{slot_at}
use Rattle.laws.proofs.Image.{count_rows}
use Rattle.board_laws.proofs.Calls.{laid}
use Rattle.board_layout.specs.Laid.{lent_of}
use Rattle.marks.specs.Rows.{marks_of, best_in}
use Rattle.lookup.specs.Searches.{number_or}
use Rattle.lookup.proofs.Looking.{begun_none, best_none, keys_long, searched_all}
use Rattle.board_search.proofs.Asking.{spot_best}
use Rattle.board_search.proofs.Numbering.{few, found_on}
use Rattle.board_search.proofs.Searching.{passing_first, passing_over, passing_on, passing_end, passed, skipped}
use Rattle.board_search.proofs.search_board.Goals as goal
use Rattle.board_search.proofs.search_board.Goals.{then-ne, else-ne}

pub loop-i-init : goal.loop-i-init
unfolding marks_of
loop-i-init c = rw c.no_row-held.ensures (rw best_none (passing_first _ _ _), record { row = (begun_none false _).kept; live = refl })

pub image-image-requires : goal.image-image-requires
image-image-requires c = omega (arith, c.pack_count-count.ensures.0)

pub search-entry-requires : goal.search-entry-requires
search-entry-requires c = (omega (arith, c.count-last.ensures.0), record { kept = c.loop-i.invariant.1.row; unended = refl })

pub number_of-found-requires : goal.number_of-found-requires
number_of-found-requires c =
    let h = laid (lent_of c.args.board.buffers) c.args.board.is_one in
    (omega (arith, h.packs_most), few c.count-last.ensures.1 _ c.search-entry.ensures.below)

pub loop-i-preserved : goal.loop-i-preserved
loop-i-preserved c =
    let l = lent_of c.args.board.buffers in
    let a = slot_at l c.loop-i.i in
    let long = max (length c.args.name.now.starts.now) (length c.args.class.now.starts.now) in
    let all = searched_all a.contents a.bodies _ (best_in long (count_of a.contents) c.loop-i.held) in
    let size = keys_long (rows_in a.contents) a.bodies ∙ count_rows a.contents in
    elim c.if-ne.branch [
      | then-ne w ↦
          let last : w.count-last.result ≡ count_of a.contents = w.count-last.ensures.0 ∙ ap count_of w.image-image.ensures.0 in
          let number = rw (w.image-image.ensures.0, w.image-image.ensures.1, last) at w.search-entry.ensures.number in
          let holds = rw (w.image-image.ensures.0, w.image-image.ensures.1, last) at w.search-entry.ensures.holds in
          let below = rw last at w.search-entry.ensures.below in
          let f = found_on long c.loop-i.i (count_of a.contents) c.loop-i.found c.loop-i.held c.loop-i.invariant.1.live w.search-entry.new.held _ _ size w.search-entry.result below (holds.is ∙ all) (number ∙ ap (number_or (count_of a.contents)) all) in
          rw (w.found-is, w.held-is, w.number_of-found.ensures)
          (passing_on l _ _ c.loop-i.invariant.0 (omega (arith, c.pack_count-count.ensures.0)) (passed _ _ (omega (arith, c.pack_count-count.ensures.0, (laid l c.args.board.is_one).packs_most)) c.ne.ensures w.if-ne.true) _ f.0, record { row = holds.kept; live = f.1 })
      | else-ne w ↦
          rw (w.found-is, w.held-is) (passing_over l _ _ c.loop-i.invariant.0 (omega (arith, c.pack_count-count.ensures.0)) (skipped _ _ c.ne.ensures w.if-ne.false), c.loop-i.invariant.1)
    ]

pub returns : goal.returns
returns c =
    spot_best (lent_of c.args.board.buffers) _ _ _ c.loop-i.found c.loop-i.held c.loop-i.invariant.1.live
    (passing_end (lent_of c.args.board.buffers) _ _ c.loop-i.invariant.0 (omega (arith, c.pack_count-count.ensures.0)))
