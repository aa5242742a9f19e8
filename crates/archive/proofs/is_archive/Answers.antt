-- `archive::is_archive` meets its contract: its tests together are those of the definition. Assumes nothing.
use mathlib.Core.Path.{sym, ◌∙◌}
use native.Mathlib.Omega.{arith}
use Rattle.archive.proofs.Walk.{fits_room}
use Rattle.archive.proofs.Judging.{bytes_all, laid_long, laid_unfit, laid_many, laid_few}
use Rattle.archive.proofs.is_archive.Goals as goal

pub returns-then-archive-gt-ARCHIVE_BYTES : goal.returns-then-archive-gt-ARCHIVE_BYTES
returns-then-archive-gt-ARCHIVE_BYTES c = sym (laid_long c.args.archive.now c.if-archive-gt-ARCHIVE_BYTES.true)

pub returns-then-not-fits : goal.returns-then-not-fits
returns-then-not-fits c = sym (laid_unfit c.args.archive.now (bytes_all c.args.archive.now c.type_inv.archive) (sym c.fits.ensures ∙ c.if-not-fits.true))

pub returns-then-file_count-gt-ARCHIVE_FILES : goal.returns-then-file_count-gt-ARCHIVE_FILES
returns-then-file_count-gt-ARCHIVE_FILES c = sym (laid_many c.args.archive.now (bytes_all c.args.archive.now c.type_inv.archive) c.if-archive-gt-ARCHIVE_BYTES.false (sym c.fits.ensures ∙ c.if-not-fits.false) c.file_count.result c.file_count.ensures.0 (omega arith))

pub names_rise-requires : goal.names_rise-requires
names_rise-requires c = sym c.fits.ensures ∙ c.if-not-fits.false

pub returns : goal.returns
returns c = c.names_rise.ensures ∙ sym (laid_few c.args.archive.now (bytes_all c.args.archive.now c.type_inv.archive) c.if-archive-gt-ARCHIVE_BYTES.false (sym c.fits.ensures ∙ c.if-not-fits.false) c.file_count.result c.file_count.ensures.0 (omega arith))

pub file_count-requires : goal.file_count-requires
file_count-requires c = omega (arith, fits_room c.args.archive.now (sym c.fits.ensures ∙ c.if-not-fits.false))
