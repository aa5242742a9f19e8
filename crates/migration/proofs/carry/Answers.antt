-- `migration::carry` meets its contract: the rows, the bytes, and the image closed. Assumes nothing.
use mathlib.Core.Path.{sym, ◌∙◌}
use native.Mathlib.Omega.{arith}
use lib.Seq.{length-take-le}
use Rattle.migration.proofs.Carried.{old_words, new_words, old_bytes_lem, first_words, fits_bytes, room_carried, carries}
use Rattle.migration.proofs.carry.Goals as goal

pub bounds-old_contents-0 : goal.bounds-old_contents-0
bounds-old_contents-0 c = omega (arith, first_words c.args.old_contents.now c.args.old_bodies.now c.args.words.now c.args.store.now c.requires.0 c.requires.1 c.requires.2)

pub bounds-old_contents-1 : goal.bounds-old_contents-1
bounds-old_contents-1 c = omega (arith, first_words c.args.old_contents.now c.args.old_bodies.now c.args.words.now c.args.store.now c.requires.0 c.requires.1 c.requires.2)

pub carry_rows-requires : goal.carry_rows-requires
carry_rows-requires c = (
  old_words c.args.old_contents.now c.args.old_bodies.now c.args.words.now c.args.store.now c.requires.0 c.requires.1 c.requires.2,
  new_words c.args.old_contents.now c.args.old_bodies.now c.args.words.now c.args.store.now c.requires.0 c.requires.1 c.requires.2,
)

pub slice_bounds-copy_in-end : goal.slice_bounds-copy_in-end
slice_bounds-copy_in-end c = sym (length-take-le _ c.args.old_bodies.now (old_bytes_lem c.args.old_contents.now c.args.old_bodies.now c.args.words.now c.args.store.now c.requires.0 c.requires.1 c.requires.2))

pub copy_in-requires : goal.copy_in-requires
copy_in-requires c = fits_bytes c.args.old_contents.now c.args.old_bodies.now c.args.words.now c.args.store.now c.requires.0 c.requires.1 c.requires.2

pub close_image-requires : goal.close_image-requires
close_image-requires c =
    room_carried c.args.old_contents.now c.args.old_bodies.now c.args.words.now c.args.store.now c.requires.0 c.requires.1 c.requires.2
    c.carry_rows.auto.words c.copy_in.auto.store

pub shape_of-words : goal.shape_of-words
shape_of-words c = c.close_image.auto.words ∙ c.carry_rows.auto.words

pub shape_of-store : goal.shape_of-store
shape_of-store c = c.close_image.auto.store ∙ c.copy_in.auto.store

pub returns : goal.returns
returns c =
    carries c.args.old_contents.now c.args.old_bodies.now c.args.words.now c.args.store.now c.requires.0 c.requires.1 c.requires.2
    c.carry_rows.ensures c.carry_rows.auto.words c.copy_in.ensures c.copy_in.auto.store
    c.close_image.ensures.0 c.close_image.ensures.1

pub overflow_cast-entries : goal.overflow_cast-entries
overflow_cast-entries c = omega (arith, c.type_inv.old_contents 0)

pub overflow_cast-used : goal.overflow_cast-used
overflow_cast-used c = omega (arith, c.type_inv.old_contents 1)
