-- `missing::reach` meets its contract. Assumes nothing.
use mathlib.Core.Path.{refl}
use borrow.Author.Tests.{le-leb, lt-leb, eq-eqb, ne_eqb}
use Rattle.missing.specs.Reaching.{reaching}
use Rattle.missing.proofs.reach.Goals as goal

pub returns-then-number-ge-ARCHIVE_FILES : goal.returns-then-number-ge-ARCHIVE_FILES
unfolding reaching
returns-then-number-ge-ARCHIVE_FILES c = rw (le-leb _ _ c.if-number-ge-ARCHIVE_FILES.true) refl

pub returns-then-count-ge-ARCHIVE_FILES : goal.returns-then-count-ge-ARCHIVE_FILES
unfolding reaching
returns-then-count-ge-ARCHIVE_FILES c = rw (lt-leb _ _ c.if-number-ge-ARCHIVE_FILES.false, le-leb _ _ c.if-count-ge-ARCHIVE_FILES.true) refl

pub returns-then-reached-number-ne0 : goal.returns-then-reached-number-ne0
unfolding reaching
returns-then-reached-number-ne0 c = rw (lt-leb _ _ c.if-number-ge-ARCHIVE_FILES.false, lt-leb _ _ c.if-count-ge-ARCHIVE_FILES.false, ne_eqb _ _ c.if-reached-number-ne0.true) refl

pub returns : goal.returns
unfolding reaching
returns c = rw (lt-leb _ _ c.if-number-ge-ARCHIVE_FILES.false, lt-leb _ _ c.if-count-ge-ARCHIVE_FILES.false, eq-eqb _ _ c.if-reached-number-ne0.false) refl
