-- `board::arrive` meets its contract. Assumes nothing.
use mathlib.Core.Path.{refl}
use native.Mathlib.Omega.{arith}
use Rattle.std.proofs.lemmas.Result.{err_from_is_err_and}
use Rattle.definition.specs.Board.{arrive, Arrival, Lent, lent}
use Rattle.board_laws.proofs.Calls.{laid}
use Rattle.board_laws.proofs.Histories.{arrive_passed}
use Rattle.board.proofs.Calling.{call_refused, call_board, call_given}
use Rattle.board.proofs.arrive.Goals as goal

pub returns-in_err-n : goal.returns-in_err-n
returns-in_err-n c =
    let pack : Arrival = record { number = c.args.number; contents = c.args.contents.now; bodies = c.args.bodies.now } in
    let l : Lent = lent c.args.words.now c.args.bytes.now in
    let p = err_from_is_err_and c.from_residual.result c.from_residual.ensures.1 in
    rw (p.1, p.2) (call_refused (arrive pack) l _ c.in_err-n.ensures)

pub bounds-words-0 : goal.bounds-words-0
bounds-words-0 c =
    let pack : Arrival = record { number = c.args.number; contents = c.args.contents.now; bodies = c.args.bodies.now } in
    let l : Lent = lent c.args.words.now c.args.bytes.now in
    let b = call_board (arrive pack) l _ c.in_ok-n.ensures in
    omega (arith, (laid l b.0).words_long)

pub keep_pack-requires : goal.keep_pack-requires
keep_pack-requires c =
    let pack : Arrival = record { number = c.args.number; contents = c.args.contents.now; bodies = c.args.bodies.now } in
    let l : Lent = lent c.args.words.now c.args.bytes.now in
    let b = call_board (arrive pack) l _ c.in_ok-n.ensures in
    let h = laid l b.0 in
    let p = arrive_passed l h pack _ b.1 in
    (record { words_long = h.words_long; bytes_long = h.bytes_long }, refl, p.0, p.1)

pub returns : goal.returns
returns c =
    let pack : Arrival = record { number = c.args.number; contents = c.args.contents.now; bodies = c.args.bodies.now } in
    let l : Lent = lent c.args.words.now c.args.bytes.now in
    call_given (arrive pack) l _ c.in_ok-n.ensures _ c.keep_pack.ensures
