-- `archive::fits` meets its contract. The invariant: the archive fits if the files from j on do. Assumes nothing.
use mathlib.Core.Path.{sym, ◌∙◌}
use native.Mathlib.Omega.{arith}
use borrow.Author.Rules.{rules}
use Rattle.archive.proofs.Walk.{fits_none, fits_few, fits_first, fits_over, fits_on, fits_end}
use Rattle.archive.proofs.fits.Goals as goal

pub returns-then-archive-lt2 : goal.returns-then-archive-lt2
returns-then-archive-lt2 c = sym (fits_none c.args.archive.now c.if-archive-lt2.true)

pub returns-then-archive-at : goal.returns-then-archive-at
returns-then-archive-at c = sym (fits_few c.args.archive.now c.file_count-count.result c.file_count-count.ensures.0 (omega (arith, c.lengths_at-at.ensures, c.if-archive-at.true)))

pub loop-j-init : goal.loop-j-init
loop-j-init c =
    rw c.lengths_at-at.ensures
    (search rules, fits_first c.args.archive.now c.file_count-count.result c.file_count-count.ensures.0 c.if-archive-lt2.false (omega (arith, c.lengths_at-at.ensures, c.if-archive-at.false)))

pub returns-then-archive-member : goal.returns-then-archive-member
returns-then-archive-member c = sym (c.loop-j.invariant.1 ∙ fits_over c.args.archive.now c.file_count-count.result c.loop-j.at c.loop-j.j c.loop-j-test.true _ c.member_at-member.ensures c.loop-j.invariant.0.at_most c.if-archive-member.true)

pub loop-j-preserved : goal.loop-j-preserved
loop-j-preserved c = (search rules, c.loop-j.invariant.1 ∙ fits_on c.args.archive.now c.file_count-count.result c.loop-j.at c.loop-j.j c.loop-j-test.true _ c.member_at-member.ensures c.loop-j.invariant.0.at_most c.if-archive-member.false)

pub returns : goal.returns
returns c = sym (c.loop-j.invariant.1 ∙ fits_end c.args.archive.now c.file_count-count.result c.loop-j.at c.loop-j.j c.loop-j-test.false c.loop-j.invariant.0.at_most)
