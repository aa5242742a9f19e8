-- `writer::write_entries` meets its contract. The invariant is `Writing`. Assumes nothing.
use native.Mathlib.Omega.{arith}
use Rattle.writer.proofs.Texts.{writing_first, line_room, line_written, all_written}
use Rattle.writer.proofs.write_entries.Goals as goal

pub write_entry-size-requires : goal.write_entry-size-requires
write_entry-size-requires c =
    line_room c.loop-i.invariant c.requires c.args.image.now.judged (omega (arith, c.loop-i-test.true, c.count-i-end.ensures)) c.key.ensures.0 c.value.ensures

pub loop-i-preserved : goal.loop-i-preserved
loop-i-preserved c =
    line_written c.loop-i.invariant c.args.image.now.judged (omega (arith, c.loop-i-test.true, c.count-i-end.ensures)) c.key.ensures.0 c.value.ensures
    c.write_entry-size.ensures

pub loop-i-init : goal.loop-i-init
loop-i-init c = writing_first _ _ _

pub shape_of-text : goal.shape_of-text
shape_of-text c = c.loop-i.invariant.walk.same_length

pub returns : goal.returns
returns c = all_written c.loop-i.invariant c.requires (omega (arith, c.loop-i-test.false, c.count-i-end.ensures))
