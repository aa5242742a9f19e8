-- `board_answer::watched` meets its contract. Assumes nothing.
use mathlib.Core.Path.{ap, ◌∙◌}
use native.Mathlib.Omega.{arith}
use Rattle.definition.specs.Limits.{most_packs}
use Rattle.definition.specs.Board.{query_number, board_in}
use Rattle.board_layout.specs.Laid.{lent_of}
use Rattle.board_search.specs.Slots.{place_of}
use Rattle.board_search.proofs.Finding.{answer_is, spot_named}
use Rattle.board_answer.proofs.Answering.{watched_none}
use Rattle.board_answer.proofs.watched.Goals as goal

pub returns-then-queries-q : goal.returns-then-queries-q
returns-then-queries-q c = watched_none (lent_of c.args.board.buffers) c.args.q (omega (arith, c.query_count-queries.ensures.0))

pub find-requires : goal.find-requires
find-requires c = omega (arith, c.query_count-queries.ensures.0)

pub place_of-requires : goal.place_of-requires
place_of-requires c =
    let l = lent_of c.args.board.buffers in
    spot_named l c.args.board.is_one most_packs (query_number (board_in l).queries c.args.q) _ c.in_ok-number.ensures

pub returns-in_err-number : goal.returns-in_err-number
unfolding place_of
returns-in_err-number c =
    let l = lent_of c.args.board.buffers in
    rw c.from_residual.ensures (ap (place_of l) c.in_err-number.ensures ∙ answer_is l c.args.board.is_one c.args.q)

pub returns : goal.returns
returns c =
    let l = lent_of c.args.board.buffers in
    c.place_of.ensures ∙ ap (place_of l) c.in_ok-number.ensures ∙ answer_is l c.args.board.is_one c.args.q
