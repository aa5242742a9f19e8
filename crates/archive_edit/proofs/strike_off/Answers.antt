-- `archive_edit::strike_off` meets its contract: three stretches of the archive, one after the other, are the archive without the file. Assumes nothing.
use native.Mathlib.Omega.{arith}
use Rattle.archive_edit.proofs.Striking.{Numbers, member_numbers, member_written}
use Rattle.archive_edit.proofs.strike_off.Goals as goal
use Rattle.archive_edit.proofs.strike_off.Goals.{After-member-member}

-- how the numbers lie to each other, once the file is found
numbers : (c : After-member-member) → Numbers c.args.archive.bytes.now c.args.file c.count-count.result c.member-member.result.start c.member-member.result.end
numbers c = member_numbers c.args.archive.bytes.now c.args.file c.args.archive.judged c.requires.0 c.count-count.ensures c.member-member.ensures

pub returns : goal.returns
returns c =
    member_written c.args.archive.bytes.now c.args.file c.args.archive.judged c.requires.0 c.count-count.ensures c.member-member.ensures c.args.out.now _ _ _ _ c.lengths_at-row.ensures
    c.put_word.ensures c.copy_part.ensures c.copy_part-2.ensures c.copy_part-3.ensures

pub lengths_at-row-requires : goal.lengths_at-row-requires
lengths_at-row-requires c = omega arith

pub overflow_add-next : goal.overflow_add-next
overflow_add-next c = omega arith

pub overflow_sub-count : goal.overflow_sub-count
overflow_sub-count c = omega (arith, numbers (goal.at.overflow_sub-count c).After-member-member)

pub put_word-requires : goal.put_word-requires
put_word-requires c = omega (arith, numbers (goal.at.put_word-requires c).After-member-member)

pub copy_part-requires : goal.copy_part-requires
copy_part-requires c = omega (arith, numbers (goal.at.copy_part-requires c).After-member-member)

pub copy_part-requires-2 : goal.copy_part-requires-2
copy_part-requires-2 c = omega (arith, numbers (goal.at.copy_part-requires-2 c).After-member-member)

pub overflow_sub-at : goal.overflow_sub-at
overflow_sub-at c = omega (arith, numbers (goal.at.overflow_sub-at c).After-member-member)

pub copy_part-requires-3 : goal.copy_part-requires-3
copy_part-requires-3 c = omega (arith, numbers (goal.at.copy_part-requires-3 c).After-member-member)

pub overflow_sub-result : goal.overflow_sub-result
overflow_sub-result c = omega (arith, numbers (goal.at.overflow_sub-result c).After-member-member)

pub overflow_sub-result-2 : goal.overflow_sub-result-2
overflow_sub-result-2 c = omega (arith, numbers (goal.at.overflow_sub-result-2 c).After-member-member)

pub overflow_sub-result-3 : goal.overflow_sub-result-3
overflow_sub-result-3 c = omega (arith, numbers (goal.at.overflow_sub-result-3 c).After-member-member)
