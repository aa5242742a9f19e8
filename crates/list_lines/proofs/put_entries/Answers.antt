-- `list_lines::put_entries` meets its contract. Assumes nothing.
use Rattle.printing.proofs.Pieces.{piece_of, walk_begun, walk_next, walk_room, walk_ended}
use Rattle.list_lines.proofs.Rows.{lines_none, lines_next, lines_all, room_left, key_fits}
use Rattle.list_lines.proofs.put_entries.Goals as goal

pub put_entry-requires : goal.put_entry-requires
put_entry-requires c = walk_room c.loop-i.invariant _ _ (lines_next _ _ _ _ _ c.row_at-row.ensures.is c.loop-i-test.true)

pub loop-i-preserved : goal.loop-i-preserved
loop-i-preserved c = walk_next c.loop-i.invariant (lines_next _ _ _ _ _ c.row_at-row.ensures.is c.loop-i-test.true) c.put_entry.ensures

pub loop-i-init : goal.loop-i-init
loop-i-init c = walk_begun (room_left c.requires)

pub slice_bounds-put_entry-end : goal.slice_bounds-put_entry-end
slice_bounds-put_entry-end c = key_fits _ _ c.requires c.row_at-row.ensures.is c.loop-i-test.true

pub returns : goal.returns
returns c = piece_of (lines_all c.args.contents.now c.args.bodies.now) (walk_ended c.loop-i.invariant (room_left c.requires) (lines_none _ _ _ _ c.loop-i-test.false))
