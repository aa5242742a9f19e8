-- `archive_find::find` meets its contract. The invariants: the file is among those from j on, if any; from byte i on the row's name is the path. Assumes nothing.
use Prim.Native.Nat.{◌-◌}
use native.Mathlib.Omega.{arith}
use Rattle.archive.proofs.Walk.{counted}
use Rattle.archive_find.proofs.Comparing.{ending_first, ending_off, ending_on, ending_all}
use Rattle.archive_find.proofs.Finding.{row_length, row_same, searching_first, searching_none, searching_next, searching_found, file_in_lem}
use Rattle.archive_find.proofs.find.Goals as goal

pub rows-init : goal.rows-init
rows-init c =
    rw c.lengths_at-at.ensures
    (searching_first c.args.archive.bytes.now c.args.path.now c.count-count.result c.args.archive.judged (counted c.args.archive.bytes.now c.count-count.ensures))

pub member_at-member-requires : goal.member_at-member-requires
member_at-member-requires c = omega (arith, c.rows.invariant.walk.standing, c.rows-test.true)

pub rows-preserved-then-member-start : goal.rows-preserved-then-member-start
rows-preserved-then-member-start c =
    let stands = file_in_lem c.rows.invariant c.rows-test.true c.member_at-member.ensures in
    searching_next c.rows.invariant c.rows-test.true c.member_at-member.ensures
    (row_length c.args.archive.bytes.now c.args.path.now c.member_at-member.result.start (c.member_at-member.result.body - c.member_at-member.result.start) (omega (arith, stands)) c.if-member-start.true)

pub bytes-init : goal.bytes-init
bytes-init c =
    let stands = file_in_lem c.rows.invariant c.rows-test.true c.member_at-member.ensures in
    ending_first c.args.archive.bytes.now c.args.path.now c.member_at-member.result.start (omega (arith, stands, c.if-member-start.false))

pub rows-preserved : goal.rows-preserved
rows-preserved c =
    searching_next c.rows.invariant c.rows-test.true c.member_at-member.ensures
    (row_same c.args.archive.bytes.now c.args.path.now c.member_at-member.result.start (c.member_at-member.result.body - c.member_at-member.result.start) c.if-member-start.false
    (ending_off c.bytes.invariant (omega arith) c.if-bytes-start.true))

pub bytes-preserved : goal.bytes-preserved
bytes-preserved c = ending_on c.bytes.invariant (omega arith) c.if-bytes-start.false

pub returns-in-rows : goal.returns-in-rows
returns-in-rows c =
    searching_found c.rows.invariant c.rows-test.true c.member_at-member.ensures
    (row_same c.args.archive.bytes.now c.args.path.now c.member_at-member.result.start (c.member_at-member.result.body - c.member_at-member.result.start) c.if-member-start.false
    (ending_all c.bytes.invariant c.bytes-test.false))

pub overflow_sub-member : goal.overflow_sub-member
overflow_sub-member c = omega (arith, file_in_lem c.rows.invariant c.rows-test.true c.member_at-member.ensures)

pub returns : goal.returns
returns c = searching_none c.rows.invariant c.rows-test.false
