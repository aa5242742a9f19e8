-- `walk_lines::put_walk` meets its contract: the lines from the next number on are still to be put. Assumes nothing.
use native.Mathlib.Omega.{arith}
use Rattle.definition.specs.Archive.{files_of}
use Rattle.printing.proofs.Pieces.{walk_begun, walk_next, walk_room, walk_ended}
use Rattle.walk_lines.proofs.Walks.{lines_all, lines_past, lines_turn, lines_end, goes_on, within}
use Rattle.walk_lines.proofs.put_walk.Goals as goal

pub loop-next-init : goal.loop-next-init
loop-next-init c =
    rw (lines_all c.args.image.now.contents.now c.args.image.now.bodies.now c.args.name.now c.args.class.now (files_of c.args.archive.bytes.now)) (walk_begun (rw (← lines_all c.args.image.now.contents.now c.args.image.now.bodies.now c.args.name.now c.args.class.now (files_of c.args.archive.bytes.now)) c.requires.1))

pub origin-requires : goal.origin-requires
origin-requires c = (within _ _ _ _ _ c.requires.0 c.loop-next.next c.in-Ok-Some.i (rw c.in-Ok-Some.field-0-is at c.in-Ok-Some.ensures)).2

pub key-requires : goal.key-requires
key-requires c = (within _ _ _ _ _ c.requires.0 c.loop-next.next c.in-Ok-Some.i (rw c.in-Ok-Some.field-0-is at c.in-Ok-Some.ensures)).2

pub value-requires : goal.value-requires
value-requires c = (within _ _ _ _ _ c.requires.0 c.loop-next.next c.in-Ok-Some.i (rw c.in-Ok-Some.field-0-is at c.in-Ok-Some.ensures)).2

pub put_entry-requires : goal.put_entry-requires
put_entry-requires c =
    rw (c.place_of-place.ensures, c.origin.ensures, c.key.ensures.0, c.value.ensures)
    (walk_room c.loop-next.invariant _ _ (lines_turn _ _ _ _ _ c.requires.0 _ c.loop-next.next c.in-Ok-Some.i (rw c.in-Ok-Some.field-0-is at c.in-Ok-Some.ensures)))

pub loop-next-preserved : goal.loop-next-preserved
loop-next-preserved c =
    walk_next c.loop-next.invariant (lines_turn _ _ _ _ _ c.requires.0 _ c.loop-next.next c.in-Ok-Some.i (rw c.in-Ok-Some.field-0-is at c.in-Ok-Some.ensures))
    (rw (c.place_of-place.ensures, c.origin.ensures, c.key.ensures.0, c.value.ensures) at c.put_entry.ensures)

pub overflow_add-next : goal.overflow_add-next
overflow_add-next c =
    let there = within _ _ _ _ _ c.requires.0 c.loop-next.next c.in-Ok-Some.i (rw c.in-Ok-Some.field-0-is at c.in-Ok-Some.ensures) in
    omega (arith, there.1, c.ranges.count.fits)

pub loop-next-smaller : goal.loop-next-smaller
loop-next-smaller c =
    let there = within _ _ _ _ _ c.requires.0 c.loop-next.next c.in-Ok-Some.i (rw c.in-Ok-Some.field-0-is at c.in-Ok-Some.ensures) in
    omega (arith, there.0, there.1)

pub returns-in-Ok-None : goal.returns-in-Ok-None
returns-in-Ok-None c = walk_ended c.loop-next.invariant c.requires.1 (lines_end _ _ _ _ _ c.requires.0 c.loop-next.next _ (rw c.in-Ok-None.field-0-is at c.in-Ok-None.ensures))

pub returns-in-Err : goal.returns-in-Err
returns-in-Err c = absurd (goes_on _ _ _ _ _ c.requires.0 c.loop-next.next _ c.in-Err.ensures)

pub returns : goal.returns
returns c = walk_ended c.loop-next.invariant c.requires.1 (lines_past _ _ _ _ _ c.requires.0 _ c.loop-next.next c.loop-next-test.false)
