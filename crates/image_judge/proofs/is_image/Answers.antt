-- `image_judge::is_image` meets its contract. Assumes nothing.
use mathlib.Core.Bool.{true}
use mathlib.Core.Path.{◌≡◌, sym, ◌∙◌}
use native.Mathlib.Omega.{arith}
use borrow.Author.Tests.{not-true, not-false}
use Rattle.definition.specs.Limits.{row_words}
use Rattle.image_judge.specs.Rows.{is_packed_by}
use Rattle.image_judge.proofs.Judged.{rows_room, packed_long, not_packed, packed_origins}
use Rattle.image_judge.proofs.is_image.Goals as goal

pub bounds-contents-0 : goal.bounds-contents-0
bounds-contents-0 c =
    let packed : (is_packed_by row_words c.args.contents.now c.args.bodies.now ≡ true) = sym c.is_packed.ensures ∙ not-false _ c.if-not-is_packed.false-raw in
    omega (arith, (packed_long _ _ _ packed).0)

pub origins_hold-requires : goal.origins_hold-requires
origins_hold-requires c =
    let packed : (is_packed_by row_words c.args.contents.now c.args.bodies.now ≡ true) = sym c.is_packed.ensures ∙ not-false _ c.if-not-is_packed.false-raw in
    let p = packed_long _ _ _ packed in rows_room row_words c.args.contents.now p.0 p.1

pub returns-then-not-is_packed : goal.returns-then-not-is_packed
returns-then-not-is_packed c = sym (not_packed _ _ (sym c.is_packed.ensures ∙ not-true _ c.if-not-is_packed.true-raw))

pub overflow_cast-contents : goal.overflow_cast-contents
overflow_cast-contents c = omega (arith, c.type_inv.contents 0)

pub returns : goal.returns
returns c =
    let packed : (is_packed_by row_words c.args.contents.now c.args.bodies.now ≡ true) = sym c.is_packed.ensures ∙ not-false _ c.if-not-is_packed.false-raw in
    c.origins_hold.ensures ∙ sym (packed_origins _ _ packed)
