-- `board::watch` meets its contract. Assumes nothing.
use native.Mathlib.Omega.{arith}
use Rattle.std.proofs.lemmas.Result.{err_from_is_err_and}
use Rattle.definition.specs.Board.{Watched, Call, watch, Lent, lent}
use Rattle.board_laws.proofs.Calls.{laid}
use Rattle.board_laws.proofs.Histories.{watch_passed}
use Rattle.board.proofs.Calling.{call_refused, call_board, call_given}
use Rattle.board.proofs.watch.Goals as goal

pub returns-in_err-q : goal.returns-in_err-q
returns-in_err-q c =
    let call : Call = watch (record { name = c.args.name.now; class = c.args.class.now }) in
    let board : Lent = lent c.args.words.now c.args.bytes.now in
    let p = err_from_is_err_and c.from_residual.result c.from_residual.ensures.1 in
    rw (p.1, p.2) (call_refused call board _ c.in_err-q.ensures)

pub keep_query-requires : goal.keep_query-requires
keep_query-requires c =
    let w : Watched = record { name = c.args.name.now; class = c.args.class.now } in
    let board : Lent = lent c.args.words.now c.args.bytes.now in
    let b = call_board (watch w) board _ c.in_ok-q.ensures in
    let h = laid board b.0 in
    let p = watch_passed board h w _ b.1 in
    (record { words_long = h.words_long; bytes_long = h.bytes_long }, p.0, omega (arith, p.0, p.1), p.2, p.3)

pub returns : goal.returns
returns c =
    let call : Call = watch (record { name = c.args.name.now; class = c.args.class.now }) in
    let board : Lent = lent c.args.words.now c.args.bytes.now in
    call_given call board _ c.in_ok-q.ensures _ c.keep_query.ensures
