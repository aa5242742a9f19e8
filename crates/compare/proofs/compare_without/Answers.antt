-- `compare::compare_without` meets its contract. Assumes nothing.
use Rattle.std.specs.Prelude.{Some, Ok, Err}
use Rattle.std.proofs.lemmas.Result.{err_from_is_err_and}
use mathlib.Core.Bool.{true}
use mathlib.Core.List.{map}
use mathlib.Core.Path.{◌≡◌, ◌∙◌}
use native.Mathlib.Omega.{arith}
use Rattle.definition.specs.Archive.{laid_out}
use Rattle.definition.specs.Reading.{outcome, reading}
use Rattle.definition.specs.ThirdTerm.{Case, with_file}
use Rattle.reader.specs.Said.{said}
use Rattle.compare.specs.Comparing.{asked}
use Rattle.compare.proofs.Comparing.{read_laid_out, short_struck, short_contents, short_bodies, Room, first_refused, no_file_lem, both_left, promised}
use Rattle.compare.proofs.compare_without.Goals as goal
use Rattle.compare.proofs.compare_without.Goals.{In_ok-read_texts, Else-bodies_without-lt-BODY_BYTES}

room : (c : Else-bodies_without-lt-BODY_BYTES) → Room (asked c.args.depth (map (λ x. x.now) c.args.texts.now) c.args.archive.now c.args.file c.args.name.now c.args.class.now c.args.contents.now c.args.bodies.now c.args.contents_without.now c.args.bodies_without.now) c.args.struck.now
room c = record { archive = c.if-struck-archive.false; contents = c.if-contents_without-lt-CONTENTS_WORDS.false; bodies = c.if-bodies_without-lt-BODY_BYTES.false }

read_with : (c : In_ok-read_texts) → outcome (said (Ok c.in_ok-read_texts.field-0)) c.read_texts.new.contents c.read_texts.new.bodies ≡ reading c.args.depth (map (λ x. x.now) c.args.texts.now) c.args.archive.now c.args.contents.now c.args.bodies.now
read_with c = rw c.in_ok-read_texts.was at c.read_texts.ensures

pub returns-then-struck-archive : goal.returns-then-struck-archive
returns-then-struck-archive c = promised _ _ _ (short_struck _ _ c.if-struck-archive.true)

pub returns-then-contents_without-lt-CONTENTS_WORDS : goal.returns-then-contents_without-lt-CONTENTS_WORDS
returns-then-contents_without-lt-CONTENTS_WORDS c = promised _ _ _ (short_contents _ _ c.if-struck-archive.false c.if-contents_without-lt-CONTENTS_WORDS.true)

pub returns-then-bodies_without-lt-BODY_BYTES : goal.returns-then-bodies_without-lt-BODY_BYTES
returns-then-bodies_without-lt-BODY_BYTES c = promised _ _ _ (short_bodies _ _ c.if-struck-archive.false c.if-contents_without-lt-CONTENTS_WORDS.false c.if-bodies_without-lt-BODY_BYTES.true)

pub returns-in_err-read_texts : goal.returns-in_err-read_texts
returns-in_err-read_texts c =
    let p = err_from_is_err_and c.from_residual.result c.from_residual.ensures.1 in
    rw (p.1, p.2) (promised _ _ _ (first_refused _ _ (room (goal.at.returns-in_err-read_texts c).Else-bodies_without-lt-BODY_BYTES) _ _ _ (rw c.in_err-read_texts.was at c.read_texts.ensures)))

pub invariant_of-judged : goal.invariant_of-judged
invariant_of-judged c = record { judged = read_laid_out _ _ _ _ _ _ _ _ _ (read_with (goal.at.invariant_of-judged c).In_ok-read_texts) }

pub returns-then-file-count : goal.returns-then-file-count
returns-then-file-count c =
    promised _ _ _ (no_file_lem _ _ (room (goal.at.returns-then-file-count c).Else-bodies_without-lt-BODY_BYTES) _ _ _ _ (read_with (goal.at.returns-then-file-count c).In_ok-read_texts) (omega (arith, c.if-file-count.true, c.count.ensures.0)))

pub read_without-second-requires : goal.read_without-second-requires
read_without-second-requires c = (omega (arith, c.if-file-count.false, c.count.ensures.0), c.if-struck-archive.false)

pub returns-in_err-both : goal.returns-in_err-both
returns-in_err-both c =
    let p = err_from_is_err_and c.from_residual-in_err-both.result c.from_residual-in_err-both.ensures.1 in
    rw (p.1, p.2)
    (promised _ _ _ (both_left _ _ (room (goal.at.returns-in_err-both c).Else-bodies_without-lt-BODY_BYTES) _ _ _ _ (read_with (goal.at.returns-in_err-both c).In_ok-read_texts)
    (omega (arith, c.if-file-count.false, c.count.ensures.0))
    (Err c.in_err-both.field-0.0) c.read_without-second.result _ _ _ c.read_without-second.ensures (rw c.in_err-both.was at c.look_up_both.ensures)))

pub returns : goal.returns
returns c =
    promised _ _ _ (both_left _ _ (room (goal.at.returns c).Else-bodies_without-lt-BODY_BYTES) _ _ _ _ (read_with (goal.at.returns c).In_ok-read_texts)
    (omega (arith, c.if-file-count.false, c.count.ensures.0))
    (Ok (Some c.in_ok-both.both)) c.read_without-second.result _ _ _ c.read_without-second.ensures (rw c.in_ok-both.was at c.look_up_both.ensures))
