-- `board::keep_pack` meets its contract. Assumes nothing.
use mathlib.Core.Path.{refl, sym}
use native.Mathlib.Omega.{arith}
use lib.ListN.{length-set}
use Rattle.definition.specs.Board.{lent, slot_start, body_start}
use Rattle.laws.proofs.Image.{image_holds}
use Rattle.board.proofs.Writing.{rows_there, bytes_there, pack_written}
use Rattle.board.proofs.keep_pack.Goals as goal

pub bounds-contents-0 : goal.bounds-contents-0
bounds-contents-0 c = omega (arith, (image_holds _ _ c.requires.3).contents_long)

pub overflow_cast-rows : goal.overflow_cast-rows
overflow_cast-rows c = omega (arith, (image_holds _ _ c.requires.3).count_most)

pub overflow_mul-rows : goal.overflow_mul-rows
overflow_mul-rows c = omega (arith, (image_holds _ _ c.requires.3).count_most)

pub overflow_add-rows : goal.overflow_add-rows
overflow_add-rows c = omega (arith, (image_holds _ _ c.requires.3).count_most)

pub bounds-contents-1 : goal.bounds-contents-1
bounds-contents-1 c = omega (arith, (image_holds _ _ c.requires.3).contents_long)

pub overflow_cast-used : goal.overflow_cast-used
overflow_cast-used c = omega (arith, (image_holds _ _ c.requires.3).used_most)

pub slice_bounds-copy_words-end : goal.slice_bounds-copy_words-end
slice_bounds-copy_words-end c = sym (rows_there _ _ c.requires.3)

pub copy_words-requires : goal.copy_words-requires
unfolding slot_start
copy_words-requires c = simp length-set (omega (arith, rows_there _ _ c.requires.3, (image_holds _ _ c.requires.3).count_most, c.requires.0.words_long))

pub bounds-words-0 : goal.bounds-words-0
bounds-words-0 c = omega (arith, simp length-set at c.copy_words.auto.store, c.requires.0.words_long)

pub slice_bounds-copy_in-end : goal.slice_bounds-copy_in-end
slice_bounds-copy_in-end c = sym (bytes_there _ _ c.requires.3)

pub copy_in-requires : goal.copy_in-requires
unfolding body_start
copy_in-requires c = omega (arith, bytes_there _ _ c.requires.3, (image_holds _ _ c.requires.3).used_most, c.requires.0.bytes_long)

pub shape_of-words : goal.shape_of-words
shape_of-words c = simp length-set (simp length-set at c.copy_words.auto.store)

pub returns : goal.returns
unfolding slot_start body_start
returns c =
    pack_written (lent c.args.words.now c.args.bytes.now) (record { number = c.args.number; contents = c.args.contents.now; bodies = c.args.bodies.now }) c.args.i _ _ c.requires.1
    c.slot_start-at.ensures c.body_start-first.ensures (omega (arith, c.slot_start-at.ensures, c.requires.0.words_long)) _ _ refl refl _ _
    c.copy_words.ensures (omega (arith, simp length-set at c.copy_words.auto.store, c.requires.0.words_long)) c.copy_in.ensures
