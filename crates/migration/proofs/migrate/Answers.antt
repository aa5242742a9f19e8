-- `migration::migrate` meets its contract: 8, 1, and then the fronts of the buffers. Assumes nothing.
use mathlib.Core.Bool.{true}
use mathlib.Core.Path.{◌≡◌, sym, ◌∙◌}
use native.Mathlib.Omega.{arith}
use lib.Seq.{length-take-le}
use borrow.Author.Tests.{not-true, not-false}
use Rattle.definition.specs.Limits.{old_row_words, contents_words, body_bytes}
use Rattle.definition.specs.Image.{is_image_by}
use Rattle.laws.proofs.Image.{holds_by}
use Rattle.migration.proofs.Carried.{not_old, short_contents, short_bodies, fronts}
use Rattle.migration.proofs.migrate.Goals as goal

pub returns-then-not-is_old_image : goal.returns-then-not-is_old_image
returns-then-not-is_old_image c = not_old _ _ _ _ (sym c.is_old_image.ensures ∙ not-true _ c.if-not-is_old_image.true-raw)

pub carry-requires : goal.carry-requires
carry-requires c =
    let is_old : (is_image_by old_row_words c.args.old_contents.now c.args.old_bodies.now ≡ true) = sym c.is_old_image.ensures ∙ not-false _ c.if-not-is_old_image.false-raw in
    (is_old, length-take-le contents_words c.args.contents.now c.if-contents-lt-CONTENTS_WORDS.false, length-take-le body_bytes c.args.bodies.now c.if-bodies-lt-BODY_BYTES.false)

pub bounds-old_contents-0 : goal.bounds-old_contents-0
bounds-old_contents-0 c =
    let is_old : (is_image_by old_row_words c.args.old_contents.now c.args.old_bodies.now ≡ true) = sym c.is_old_image.ensures ∙ not-false _ c.if-not-is_old_image.false-raw in
    omega (arith, (holds_by old_row_words _ _ is_old).contents_long)

pub returns : goal.returns
returns c =
    let is_old : (is_image_by old_row_words c.args.old_contents.now c.args.old_bodies.now ≡ true) = sym c.is_old_image.ensures ∙ not-false _ c.if-not-is_old_image.false-raw in
    fronts _ _ _ _ is_old c.if-contents-lt-CONTENTS_WORDS.false c.if-bodies-lt-BODY_BYTES.false c.carry.ensures

pub returns-then-contents-lt-CONTENTS_WORDS : goal.returns-then-contents-lt-CONTENTS_WORDS
returns-then-contents-lt-CONTENTS_WORDS c =
    let is_old : (is_image_by old_row_words c.args.old_contents.now c.args.old_bodies.now ≡ true) = sym c.is_old_image.ensures ∙ not-false _ c.if-not-is_old_image.false-raw in
    short_contents _ _ _ _ is_old c.if-contents-lt-CONTENTS_WORDS.true

pub returns-then-bodies-lt-BODY_BYTES : goal.returns-then-bodies-lt-BODY_BYTES
returns-then-bodies-lt-BODY_BYTES c =
    let is_old : (is_image_by old_row_words c.args.old_contents.now c.args.old_bodies.now ≡ true) = sym c.is_old_image.ensures ∙ not-false _ c.if-not-is_old_image.false-raw in
    short_bodies _ _ _ _ is_old c.if-contents-lt-CONTENTS_WORDS.false c.if-bodies-lt-BODY_BYTES.true

pub slice_bounds-carry-end-2 : goal.slice_bounds-carry-end-2
slice_bounds-carry-end-2 c = sym (length-take-le contents_words c.args.contents.now c.if-contents-lt-CONTENTS_WORDS.false)

pub slice_bounds-carry-end-4 : goal.slice_bounds-carry-end-4
slice_bounds-carry-end-4 c = sym (length-take-le body_bytes c.args.bodies.now c.if-bodies-lt-BODY_BYTES.false)

pub overflow_cast-result : goal.overflow_cast-result
overflow_cast-result c = omega (arith, c.type_inv.old_contents 0)
