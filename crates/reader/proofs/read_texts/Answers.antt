-- `reader::read_texts` meets its contract: 1, 2, 3, 15, and then the fronts of the buffers. Assumes nothing.
use Rattle.std.proofs.lemmas.Result.{err_from_is_err_and}
use mathlib.Core.List.{map}
use mathlib.Core.Path.{sym, ◌∙◌}
use Rattle.reader.specs.Said.{left_by}
use Rattle.reader.proofs.Finishing.{front_left, short_contents, short_bodies, long_text, not_laid_out, too_deep, fronts}
use Rattle.reader.proofs.read_texts.Goals as goal

pub returns-in_default : goal.returns-in_default
returns-in_default c = short_contents c.args.depth (map (λ x. x.now) c.args.texts.now) c.args.archive.now c.args.contents.now c.args.bodies.now c.in_default.ensures.cases

pub returns-in_default-first_chunk_mut : goal.returns-in_default-first_chunk_mut
returns-in_default-first_chunk_mut c =
    rw (front_left _ _ _ c.in-Some.ensures.cases)
    (short_bodies c.args.depth (map (λ x. x.now) c.args.texts.now) c.args.archive.now c.args.contents.now c.args.bodies.now c.in-Some.ensures.cases.enough c.in_default-first_chunk_mut.ensures.cases)

pub returns-then-is_long : goal.returns-then-is_long
returns-then-is_long c =
    rw (front_left _ _ _ c.in-Some.ensures.cases, front_left _ _ _ c.in-Some-first_chunk_mut.ensures.cases)
    (long_text c.args.depth (map (λ x. x.now) c.args.texts.now) c.args.archive.now c.args.contents.now c.args.bodies.now c.in-Some.ensures.cases.enough c.in-Some-first_chunk_mut.ensures.cases.enough
    (sym c.is_long.ensures ∙ c.if-is_long.true))

pub returns-in_err-judged : goal.returns-in_err-judged
returns-in_err-judged c =
    let p = err_from_is_err_and c.from_residual.result c.from_residual.ensures.1 in
    rw (p.1, p.2, c.in_err-judged.ensures.0)
    (rw (front_left _ _ _ c.in-Some.ensures.cases, front_left _ _ _ c.in-Some-first_chunk_mut.ensures.cases)
    (not_laid_out c.args.depth (map (λ x. x.now) c.args.texts.now) c.args.archive.now c.args.contents.now c.args.bodies.now c.in-Some.ensures.cases.enough c.in-Some-first_chunk_mut.ensures.cases.enough
    (sym c.is_long.ensures ∙ c.if-is_long.false) c.in_err-judged.ensures.1))

pub returns-then-depth-gt-GREATEST_DEPTH : goal.returns-then-depth-gt-GREATEST_DEPTH
returns-then-depth-gt-GREATEST_DEPTH c =
    rw (front_left _ _ _ c.in-Some.ensures.cases, front_left _ _ _ c.in-Some-first_chunk_mut.ensures.cases)
    (too_deep c.args.depth (map (λ x. x.now) c.args.texts.now) c.args.archive.now c.args.contents.now c.args.bodies.now c.in-Some.ensures.cases.enough c.in-Some-first_chunk_mut.ensures.cases.enough
    (sym c.is_long.ensures ∙ c.if-is_long.false) c.in_ok-judged.ensures.1 c.if-depth-gt-GREATEST_DEPTH.true)

pub returns : goal.returns
returns c =
    fronts
    (record {
      words = c.in-Some.ensures.cases.enough;
      bytes = c.in-Some-first_chunk_mut.ensures.cases.enough;
      short = sym c.is_long.ensures ∙ c.if-is_long.false;
      laid = c.in_ok-judged.ensures.1;
      shallow = c.if-depth-gt-GREATEST_DEPTH.false;
    }) _ _ _
    (c.fill.ensures ∙ (λ i. left_by c.args.depth (map (λ x. x.now) c.args.texts.now) (c.in_ok-judged.ensures.0 i) (c.in-Some.ensures.cases.same i) (c.in-Some-first_chunk_mut.ensures.cases.same i)))
