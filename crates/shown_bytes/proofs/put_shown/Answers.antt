-- `shown_bytes::put_shown` meets its contract. Assumes nothing.
use Rattle.printing.proofs.Pieces.{walk_begun, walk_next, walk_room, walk_ended}
use Rattle.shown_bytes.proofs.Showing.{shown_turn, shown_none}
use Rattle.shown_bytes.proofs.put_shown.Goals as goal

pub loop-c-init : goal.loop-c-init
loop-c-init c = walk_begun c.requires

pub put_byte-requires : goal.put_byte-requires
put_byte-requires c = walk_room c.loop-c.invariant _ _ (shown_turn c.args.bytes.now c.loop-c.c-index c.loop-c-test.true)

pub loop-c-preserved : goal.loop-c-preserved
loop-c-preserved c = walk_next c.loop-c.invariant (shown_turn c.args.bytes.now c.loop-c.c-index c.loop-c-test.true) c.put_byte.ensures

pub returns : goal.returns
returns c = walk_ended c.loop-c.invariant c.requires (shown_none c.args.bytes.now _ c.loop-c-test.false)
