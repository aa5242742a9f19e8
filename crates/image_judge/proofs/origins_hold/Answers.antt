-- `image_judge::origins_hold` meets its contract. The invariant: the rows from row i on decide. Assumes nothing.
use mathlib.Core.Path.{sym}
use borrow.Author.Tests.{not-true, eqb-false}
use Rattle.image_judge.proofs.Rows.{standing_first, standing_done, standing_nowhere, standing_file, standing_unknown}
use Rattle.image_judge.proofs.origins_hold.Goals as goal
use Rattle.image_judge.proofs.origins_hold.Goals.{else-origin-gt-ARCHIVE_FILES-via-then-origin-gt-ARCHIVE_FILES+else-origin-ne-UNKNOWN_FILE, else-origin-gt-ARCHIVE_FILES-via-else-origin-gt-ARCHIVE_FILES}

pub returns-then-origin-ne-UNKNOWN_FILE : goal.returns-then-origin-ne-UNKNOWN_FILE
returns-then-origin-ne-UNKNOWN_FILE c = sym (standing_nowhere c.loop-i.invariant c.loop-i-test.true c.origin_at-origin.ensures c.if-origin-gt-ARCHIVE_FILES.true (eqb-false _ _ (not-true _ c.if-origin-ne-UNKNOWN_FILE.true-raw)))

pub loop-i-preserved : goal.loop-i-preserved
loop-i-preserved c = elim c.else-origin-gt-ARCHIVE_FILES.branch [
  | else-origin-gt-ARCHIVE_FILES-via-then-origin-gt-ARCHIVE_FILES+else-origin-ne-UNKNOWN_FILE w ↦ standing_unknown c.loop-i.invariant c.loop-i-test.true c.origin_at-origin.ensures w.if-origin-ne-UNKNOWN_FILE.false
  | else-origin-gt-ARCHIVE_FILES-via-else-origin-gt-ARCHIVE_FILES w ↦ standing_file c.loop-i.invariant c.loop-i-test.true c.origin_at-origin.ensures w.if-origin-gt-ARCHIVE_FILES.false
]

pub loop-i-init : goal.loop-i-init
loop-i-init c = standing_first _ _

pub returns : goal.returns
returns c = sym (standing_done c.loop-i.invariant c.loop-i-test.false)
