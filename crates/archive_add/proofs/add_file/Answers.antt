-- `archive_add::add_file` meets its contract. Assumes nothing.
use mathlib.Core.Bool.{true, false}
use mathlib.Core.Path.{◌≡◌, sym, ◌∙◌}
use Prim.Native.Nat.{◌<◌}
use native.Mathlib.Omega.{arith}
use lib.ListN.{length}
use Rattle.definition.specs.Limits.{archive_files}
use Rattle.definition.specs.Archive.{files_of, is_file_name}
use Rattle.laws.proofs.Archive.{laid_out_says}
use Rattle.archive_slot.specs.Slots.{on_it}
use Rattle.archive_slot.proofs.Slots.{slot_ok, slot_err}
use Rattle.archive_add.specs.Adding.{file_of}
use Rattle.archive_add.proofs.Adding.{name_short, length_with, adding_name, adding_again, adding_many, adding_large, adding_short, adding_laid}
use Rattle.archive_add.proofs.add_file.Goals as goal
use Rattle.archive_add.proofs.add_file.Goals.{Else-not-is_file_name, In-Err, Else-count-ge-ARCHIVE_FILES}

-- ---- What the tests have shown

is_name : (c : Else-not-is_file_name) → is_file_name c.args.name.now ≡ true
is_name c = sym c.is_file_name.ensures ∙ c.if-not-is_file_name.false

is_new : (c : In-Err) → on_it c.args.name.now (files_of c.args.archive.bytes.now) ≡ false
is_new c = (slot_err c.args.name.now c.args.archive.bytes.now c.in-Err.ensures).0

are_few : (c : Else-count-ge-ARCHIVE_FILES) → length (files_of c.args.archive.bytes.now) < archive_files
are_few c = omega (arith, c.count.ensures)

-- ---- The answers

pub returns-then-not-is_file_name : goal.returns-then-not-is_file_name
returns-then-not-is_file_name c = adding_name c.args.archive.bytes.now c.args.archive.judged (file_of c.args.name.now c.args.body.now) c.args.out.now (sym c.is_file_name.ensures ∙ c.if-not-is_file_name.true)

pub returns-in_default : goal.returns-in_default
returns-in_default c =
    let at = goal.at.returns-in_default c in
    adding_again c.args.archive.bytes.now c.args.archive.judged (file_of c.args.name.now c.args.body.now) c.args.out.now (is_name at.Else-not-is_file_name)
    (slot_ok c.args.name.now c.args.archive.bytes.now (sym c.in_default.is ∙ c.slot_for.ensures)).0

pub returns-then-count-ge-ARCHIVE_FILES : goal.returns-then-count-ge-ARCHIVE_FILES
returns-then-count-ge-ARCHIVE_FILES c =
    let at = goal.at.returns-then-count-ge-ARCHIVE_FILES c in
    adding_many c.args.archive.bytes.now c.args.archive.judged (file_of c.args.name.now c.args.body.now) c.args.out.now (is_name at.Else-not-is_file_name) (is_new at.In-Err)
    (omega (arith, c.count.ensures, c.if-count-ge-ARCHIVE_FILES.true))

pub overflow_add-size-2 : goal.overflow_add-size-2
overflow_add-size-2 c = omega (arith, c.well_formed.1.1.0.1, (laid_out_says c.args.archive.bytes.now c.args.archive.judged).short, name_short c.args.archive.bytes.now c.args.archive.judged (file_of c.args.name.now c.args.body.now) (is_name (goal.at.overflow_add-size-2 c).Else-not-is_file_name))

pub overflow_add-size-3 : goal.overflow_add-size-3
overflow_add-size-3 c = omega (arith, c.well_formed.1.1.0.1, (laid_out_says c.args.archive.bytes.now c.args.archive.judged).short, name_short c.args.archive.bytes.now c.args.archive.judged (file_of c.args.name.now c.args.body.now) (is_name (goal.at.overflow_add-size-3 c).Else-not-is_file_name))

pub returns-then-size-gt-ARCHIVE_BYTES : goal.returns-then-size-gt-ARCHIVE_BYTES
returns-then-size-gt-ARCHIVE_BYTES c =
    let at = goal.at.returns-then-size-gt-ARCHIVE_BYTES c in
    adding_large c.args.archive.bytes.now c.args.archive.judged (file_of c.args.name.now c.args.body.now) c.args.out.now (is_name at.Else-not-is_file_name) (is_new at.In-Err) (are_few at.Else-count-ge-ARCHIVE_FILES)
    c.if-size-gt-ARCHIVE_BYTES.true

pub returns-then-out-size : goal.returns-then-out-size
returns-then-out-size c =
    let at = goal.at.returns-then-out-size c in
    adding_short c.args.archive.bytes.now c.args.archive.judged (file_of c.args.name.now c.args.body.now) c.args.out.now (is_name at.Else-not-is_file_name) (is_new at.In-Err) (are_few at.Else-count-ge-ARCHIVE_FILES)
    c.if-size-gt-ARCHIVE_BYTES.false c.if-out-size.true

pub returns : goal.returns
returns c =
    let at = goal.at.returns c in
    let n = length_with c.args.archive.bytes.now c.args.archive.judged (file_of c.args.name.now c.args.body.now) in
    adding_laid c.args.archive.bytes.now c.args.archive.judged (file_of c.args.name.now c.args.body.now) c.args.out.now (is_name at.Else-not-is_file_name) (is_new at.In-Err) (are_few at.Else-count-ge-ARCHIVE_FILES)
    c.if-size-gt-ARCHIVE_BYTES.false c.if-out-size.false _ _ (sym n) (rw n at c.insert.ensures)

pub insert-requires : goal.insert-requires
insert-requires c = ((slot_err c.args.name.now c.args.archive.bytes.now c.in-Err.ensures).1, c.if-size-gt-ARCHIVE_BYTES.false, c.if-out-size.false)
