-- `archive_add::insert` meets its contract: seven stretches, one after the other, are the archive with the file. Assumes nothing.
use mathlib.Core.Path.{ap, ◌∙◌}
use native.Mathlib.Omega.{arith}
use Prim.Native.Nat.{◌≤◌}
use lib.ListN.{length}
use lib.Seq.{paste}
use Rattle.archive.specs.Walk.{lengths_at}
use Rattle.archive_add.specs.Adding.{file_of, archive_with}
use Rattle.archive_add.proofs.Adding.{slot_most, insert_written}
use Rattle.archive_add.proofs.insert.Goals as goal
use Rattle.archive_add.proofs.insert.Goals.{After-count-count}

-- where the file goes in
placed : (c : After-count-count) → (c.args.slot.index ≤ c.count-count.result) × (lengths_at c.count-count.result ≤ c.args.slot.at) × (c.args.slot.at ≤ length c.args.archive.bytes.now)
placed c = slot_most c.args.archive.bytes.now c.args.archive.judged (file_of c.args.name.now c.args.body.now) c.args.slot c.requires.0 c.count-count.result c.count-count.ensures.0

pub returns : goal.returns
returns c =
    let f = file_of c.args.name.now c.args.body.now in
    let w = insert_written c.args.archive.bytes.now c.args.archive.judged f c.args.slot c.requires.0 c.count-count.result c.count-count.ensures.0 c.args.out.now _ _ _ _ _ _ _
    c.put_word.ensures (rw c.lengths_at-row.ensures at c.copy_part.ensures) (rw c.lengths_at-row.ensures at c.put_lengths.ensures) (rw c.lengths_at-row.ensures at c.copy_part-2.ensures) c.copy_in.ensures c.copy_in-2.ensures c.copy_part-3.ensures in
    w.1 ∙ ap (paste c.args.out.now 0 (archive_with f c.args.archive.bytes.now)) w.0

pub lengths_at-row-requires : goal.lengths_at-row-requires
lengths_at-row-requires c = omega (arith, placed (goal.at.lengths_at-row-requires c).After-count-count)

pub overflow_add-start : goal.overflow_add-start
overflow_add-start c = omega (arith, placed (goal.at.overflow_add-start c).After-count-count)

pub overflow_add-rest : goal.overflow_add-rest
overflow_add-rest c = omega (arith, placed (goal.at.overflow_add-rest c).After-count-count)

pub overflow_add-end : goal.overflow_add-end
overflow_add-end c = omega (arith, placed (goal.at.overflow_add-end c).After-count-count)

pub put_word-requires : goal.put_word-requires
put_word-requires c = omega (arith, placed (goal.at.put_word-requires c).After-count-count)

pub copy_part-requires : goal.copy_part-requires
copy_part-requires c = omega (arith, placed (goal.at.copy_part-requires c).After-count-count)

pub put_lengths-requires : goal.put_lengths-requires
put_lengths-requires c = omega (arith, placed (goal.at.put_lengths-requires c).After-count-count)

pub overflow_add-row : goal.overflow_add-row
overflow_add-row c = omega (arith, placed (goal.at.overflow_add-row c).After-count-count)

pub copy_part-requires-2 : goal.copy_part-requires-2
copy_part-requires-2 c = omega (arith, placed (goal.at.copy_part-requires-2 c).After-count-count)

pub copy_in-requires : goal.copy_in-requires
copy_in-requires c = omega (arith, placed (goal.at.copy_in-requires c).After-count-count)

pub copy_in-requires-2 : goal.copy_in-requires-2
copy_in-requires-2 c = omega (arith, placed (goal.at.copy_in-requires-2 c).After-count-count)

pub copy_part-requires-3 : goal.copy_part-requires-3
copy_part-requires-3 c = omega (arith, placed (goal.at.copy_part-requires-3 c).After-count-count)
