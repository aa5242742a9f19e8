-- `writer::has_room` meets its contract. Assumes nothing.
use mathlib.Core.Path.{ap}
use Prim.Native.Nat.{ℕ}
use native.Mathlib.Omega.{arith}
use lib.Dec.{leb}
use Rattle.image_judge.proofs.Judged.{judged}
use Rattle.writer.proofs.Texts.{surely_room}
use Rattle.writer.proofs.has_room.Goals as goal

pub returns-then-used-count : goal.returns-then-used-count
returns-then-used-count c = surely_room _ _ _ c.args.image.now.judged (omega (arith, c.if-used-count.true, c.count-count.ensures.0))

pub returns : goal.returns
returns c = ap (λ (n : ℕ). leb n c.args.room) c.text_length.ensures

pub bounds-image-1 : goal.bounds-image-1
bounds-image-1 c = omega (arith, (judged _ _ c.args.image.now.judged).contents_long)

pub overflow_mul-used : goal.overflow_mul-used
overflow_mul-used c = omega (arith, (judged _ _ c.args.image.now.judged).used_most)

pub overflow_add-used : goal.overflow_add-used
overflow_add-used c = omega (arith, (judged _ _ c.args.image.now.judged).used_most, c.count-count.ensures)
