-- `entry_text::write_entry` meets its contract: piece by piece. Assumes nothing.
use native.Mathlib.Omega.{arith}
use lib.ListN.{length-set}
use Rattle.copies.proofs.Pieces.{piece_long}
use Rattle.entry_text.proofs.Texts.{line_room, colon_left, lead_room, bytes_room, end_room, entry_put}
use Rattle.entry_text.proofs.write_entry.Goals as goal

pub copy_in-requires : goal.copy_in-requires
copy_in-requires c = omega (arith, line_room c.args.key.now c.args.value.now c.args.text.now c.args.at c.requires)

pub bounds-text-colon : goal.bounds-text-colon
bounds-text-colon c = omega (arith, colon_left c.args.key.now c.args.value.now c.args.text.now c.args.at c.requires _ c.copy_in.ensures)

pub bounds-text-colon-2 : goal.bounds-text-colon-2
bounds-text-colon-2 c = simp length-set (omega (arith, colon_left c.args.key.now c.args.value.now c.args.text.now c.args.at c.requires _ c.copy_in.ensures))

pub overflow_add-colon-2 : goal.overflow_add-colon-2
overflow_add-colon-2 c = omega (arith, line_room c.args.key.now c.args.value.now c.args.text.now c.args.at c.requires)

pub write_leading_escape-start-requires : goal.write_leading_escape-start-requires
write_leading_escape-start-requires c = lead_room c.args.key.now c.args.value.now c.args.text.now c.args.at c.requires _ c.copy_in.ensures

pub write_bytes-end-requires : goal.write_bytes-end-requires
write_bytes-end-requires c = bytes_room c.args.key.now c.args.value.now c.args.text.now c.args.at c.requires _ c.copy_in.ensures c.write_leading_escape-start.ensures

pub bounds-text-end : goal.bounds-text-end
bounds-text-end c = end_room c.args.key.now c.args.value.now c.args.text.now c.args.at c.requires _ c.copy_in.ensures c.write_leading_escape-start.ensures c.write_bytes-end.ensures

pub overflow_add-result : goal.overflow_add-result
overflow_add-result c =
    let whole = entry_put c.args.key.now c.args.value.now c.args.text.now c.args.at c.requires _ c.copy_in.ensures c.write_leading_escape-start.ensures c.write_bytes-end.ensures in
    omega (arith, whole.ends, whole.fits)

pub shape_of-text : goal.shape_of-text
shape_of-text c = piece_long (entry_put c.args.key.now c.args.value.now c.args.text.now c.args.at c.requires _ c.copy_in.ensures c.write_leading_escape-start.ensures c.write_bytes-end.ensures)

pub returns : goal.returns
returns c = entry_put c.args.key.now c.args.value.now c.args.text.now c.args.at c.requires _ c.copy_in.ensures c.write_leading_escape-start.ensures c.write_bytes-end.ensures
