-- `board::watch_reply` meets its contract. Assumes nothing.
use mathlib.Core.Bool.{true}
use mathlib.Core.Path.{◌≡◌, ap, ◌∙◌}
use native.Mathlib.Omega.{arith}
use Rattle.std.proofs.lemmas.Result.{err_from_is_err_and}
use Rattle.definition.specs.Board.{Watched, watch, Lent, lent, query_count, is_board}
use Rattle.board_laws.proofs.Calls.{laid}
use Rattle.board_judge.proofs.Judging.{held}
use Rattle.board.proofs.Calling.{answer_away, answer_on, query_many, query_checked}
use Rattle.board.proofs.watch_reply.Goals as goal

pub returns-in_err-board : goal.returns-in_err-board
returns-in_err-board c =
    let l : Lent = lent c.args.words.now c.args.bytes.now in
    let w : Watched = record { name = c.args.name.now; class = c.args.class.now } in
    let p = err_from_is_err_and c.from_residual.result c.from_residual.ensures.1 in
    rw (p.1, p.2) (answer_away (watch w) l _ c.in_err-board.ensures)

pub returns-then-q-ge-MOST_QUERIES : goal.returns-then-q-ge-MOST_QUERIES
returns-then-q-ge-MOST_QUERIES c =
    let l : Lent = lent c.args.words.now c.args.bytes.now in
    let w : Watched = record { name = c.args.name.now; class = c.args.class.now } in
    let is : is_board l ≡ true = held c.in_ok-board.board l c.in_ok-board.ensures in
    let count : c.query_count-q.result ≡ query_count l = c.query_count-q.ensures.0 ∙ ap query_count c.in_ok-board.ensures in
    query_many l (laid l is) w (omega arith) ∙ answer_on (watch w) l is

pub returns : goal.returns
returns c =
    let l : Lent = lent c.args.words.now c.args.bytes.now in
    let w : Watched = record { name = c.args.name.now; class = c.args.class.now } in
    let is : is_board l ≡ true = held c.in_ok-board.board l c.in_ok-board.ensures in
    let count : c.query_count-q.result ≡ query_count l = c.query_count-q.ensures.0 ∙ ap query_count c.in_ok-board.ensures in
    rw count at c.check_query.ensures ∙ query_checked l (laid l is) w (omega arith) ∙ answer_on (watch w) l is
