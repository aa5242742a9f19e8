-- `writer::text_length` meets its contract. The invariant is `Measuring`. Assumes nothing.
use mathlib.Core.Path.{sym, ap, ◌∙◌}
use Prim.Native.Nat.{◌<◌}
use native.Mathlib.Omega.{arith}
use lib.Seq.{length-take-le}
use Rattle.definition.specs.Image.{count_of}
use Rattle.laws.proofs.Writing.{image_text_long}
use mir.Val.{bool_byte}
use Rattle.image_judge.proofs.Judged.{judged}
use Rattle.writer.proofs.Texts.{measuring_first, measuring_next, measured}
use Rattle.writer.proofs.text_length.Goals as goal

pub bounds-image-1 : goal.bounds-image-1
bounds-image-1 c = omega (arith, (judged _ _ c.args.image.now.judged).contents_long)

pub slice_bounds-escapes_in-end : goal.slice_bounds-escapes_in-end
slice_bounds-escapes_in-end c =
    let j = judged _ _ c.args.image.now.judged in
    sym (length-take-le _ _ (omega (arith, j.used_most, j.bodies_long)))

pub overflow_mul-size : goal.overflow_mul-size
overflow_mul-size c = omega (arith, c.count-count.ensures)

pub overflow_add-size : goal.overflow_add-size
overflow_add-size c = omega (arith, (judged _ _ c.args.image.now.judged).used_most, c.count-count.ensures)

pub overflow_add-size-2 : goal.overflow_add-size-2
overflow_add-size-2 c =
    omega (arith, (measuring_first _ _ _ c.args.image.now.judged c.escapes_in.ensures).same, image_text_long _ _ c.args.image.now.judged, c.count-count.ensures)

pub loop-i-init : goal.loop-i-init
loop-i-init c = rw c.count-count.ensures.0 (measuring_first _ _ _ c.args.image.now.judged c.escapes_in.ensures)

pub overflow_add-size-in-loop-i : goal.overflow_add-size-in-loop-i
overflow_add-size-in-loop-i c =
    let below : c.loop-i.i < count_of c.args.image.now.contents.now = omega (arith, c.loop-i-test.true, c.count-count.ensures) in
    omega (
      arith,
      (measuring_next c.loop-i.invariant below c.value.ensures _ (c.from-size.ensures ∙ ap bool_byte c.begins_blank.ensures)).same,
      image_text_long _ _ c.args.image.now.judged,
    )

pub loop-i-preserved : goal.loop-i-preserved
loop-i-preserved c =
    let below : c.loop-i.i < count_of c.args.image.now.contents.now = omega (arith, c.loop-i-test.true, c.count-count.ensures) in
    measuring_next c.loop-i.invariant below c.value.ensures _ (c.from-size.ensures ∙ ap bool_byte c.begins_blank.ensures)

pub returns : goal.returns
returns c = measured c.loop-i.invariant (omega (arith, c.loop-i-test.false, c.count-count.ensures))
