-- `writer::write` meets its contract: 8, 11, and the text. Assumes nothing.
use mathlib.Core.Path.{sym}
use borrow.Author.Tests.{leb-true}
use Rattle.std.proofs.lemmas.Result.{err_from_is_err_and}
use Rattle.copies.proofs.Pieces.{piece_long}
use Rattle.writer.proofs.Texts.{no_image, no_room, text_put}
use Rattle.writer.proofs.write.Goals as goal

pub returns-in_err-image : goal.returns-in_err-image
returns-in_err-image c =
    let p = err_from_is_err_and c.from_residual.result c.from_residual.ensures.1 in
    rw (p.1, p.2, c.in_err-image.ensures.0) (no_image _ _ _ c.in_err-image.ensures.1)

pub returns-then-not-has_room : goal.returns-then-not-has_room
returns-then-not-has_room c =
    let room = rw (c.in_ok-image.ensures.0, c.in_ok-image.ensures.1) at c.if-not-has_room.ensures in
    no_room _ _ _ c.in_ok-image.ensures.2 (sym room)

pub write_entries-requires : goal.write_entries-requires
write_entries-requires c = leb-true _ _ (sym c.if-not-has_room.ensures)

pub shape_of-text : goal.shape_of-text
shape_of-text c = piece_long c.write_entries.ensures

pub returns : goal.returns
returns c =
    let put = rw (c.in_ok-image.ensures.0, c.in_ok-image.ensures.1) at c.write_entries.ensures in
    text_put _ _ _ c.in_ok-image.ensures.2 put
