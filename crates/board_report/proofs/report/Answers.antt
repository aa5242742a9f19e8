-- `board_report::report` meets its contract. Assumes nothing.
use native.Mathlib.Omega.{arith}
use Rattle.std.proofs.lemmas.Result.{err_from_is_err_and}
use Rattle.definition.specs.Board.{leave, Lent, lent}
use Rattle.board_laws.proofs.Calls.{laid}
use Rattle.board_laws.proofs.Histories.{leave_passed}
use Rattle.board.proofs.Calling.{call_board}
use Rattle.board.proofs.Writing.{number_there, gone_inside}
use Rattle.board_report.proofs.Reporting.{report_away, report_given}
use Rattle.board_report.proofs.report.Goals as goal

pub returns-in_err-leave_reply : goal.returns-in_err-leave_reply
returns-in_err-leave_reply c =
    let l : Lent = lent c.args.words.now c.args.bytes.now in
    let p = err_from_is_err_and c.from_residual.result c.from_residual.ensures.1 in
    rw (p.1, p.2) (report_away l c.args.number _ c.in_err-leave_reply.ensures)

pub invariant_of-buffers : goal.invariant_of-buffers
invariant_of-buffers c =
    let l : Lent = lent c.args.words.now c.args.bytes.now in
    let h = laid l (call_board (leave _) l _ c.in_ok-leave_reply.ensures).0 in
    record { words_long = h.words_long; bytes_long = h.bytes_long }

pub invariant_of-board : goal.invariant_of-board
invariant_of-board c =
    let l : Lent = lent c.args.words.now c.args.bytes.now in
    record { is_one = (call_board (leave _) l _ c.in_ok-leave_reply.ensures).0 }

pub slots_before-i-requires : goal.slots_before-i-requires
slots_before-i-requires c =
    let l : Lent = lent c.args.words.now c.args.bytes.now in
    let b = call_board (leave _) l _ c.in_ok-leave_reply.ensures in
    let h = laid l b.0 in
    (omega (arith, c.pack_count-packs.ensures.0, h.packs_most), h.words_long)

pub bits_of-requires : goal.bits_of-requires
bits_of-requires c =
    let l : Lent = lent c.args.words.now c.args.bytes.now in
    let b = call_board (leave c.args.number) l _ c.in_ok-leave_reply.ensures in
    let h = laid l b.0 in
    let p = leave_passed l h c.args.number _ b.1 in
    (gone_inside l c.args.number h p _ (rw c.pack_count-packs.ensures.0 at c.slots_before-i.ensures), c.query_count-queries.ensures.0)

pub returns : goal.returns
returns c =
    let l : Lent = lent c.args.words.now c.args.bytes.now in
    let told = call_board (leave c.args.number) l _ c.in_ok-leave_reply.ensures in
    let p = leave_passed l (laid l told.0) c.args.number _ told.1 in
    let n = number_there l c.args.number p _ (rw c.pack_count-packs.ensures.0 at c.slots_before-i.ensures) in
    report_given l c.args.number told.0 _ _ told.1 (rw (n, c.query_count-queries.ensures.0) at c.bits_of.ensures)
