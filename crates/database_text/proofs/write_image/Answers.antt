-- `database_text::write_image` meets its contract. Assumes nothing.
use native.Mathlib.Omega.{arith}
use mathlib.Core.Path.{sym}
use lib.Seq.{length-take-le}
use Rattle.laws.proofs.Writing.{image_text_long}
use Rattle.database_text.proofs.Telling.{image_written, image_told, image_writes}
use Rattle.database_text.proofs.write_image.Goals as goal

pub slice_bounds-text-end : goal.slice_bounds-text-end
slice_bounds-text-end c = (image_written c.args.contents.now c.args.bodies.now _ c.requires.0 (omega arith) c.in-Ok.ensures).0

pub slice_bounds-put-end : goal.slice_bounds-put-end
slice_bounds-put-end c = sym (length-take-le _ _ (image_written c.args.contents.now c.args.bodies.now _ c.requires.0 (omega arith) c.in-Ok.ensures).0)

pub put-requires : goal.put-requires
put-requires c =
    let w = image_written c.args.contents.now c.args.bodies.now _ c.requires.0 (omega arith) c.in-Ok.ensures in
    rw w.1 (omega (arith, image_text_long c.args.contents.now c.args.bodies.now c.requires.0, c.requires.1))

pub returns-in-Ok : goal.returns-in-Ok
returns-in-Ok c = image_told c.args.contents.now c.args.bodies.now _ c.requires.0 (omega arith) c.in-Ok.ensures c.put.ensures

pub returns-in-Err : goal.returns-in-Err
returns-in-Err c = absurd (image_writes c.args.contents.now c.args.bodies.now _ c.requires.0 (omega arith) c.in-Err.ensures)
