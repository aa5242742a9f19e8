-- `board::arrive_reply` meets its contract. Assumes nothing.
use mathlib.Core.Bool.{true}
use mathlib.Core.Path.{◌≡◌, ap, ◌∙◌}
use native.Mathlib.Omega.{arith}
use Rattle.std.proofs.lemmas.Result.{err_from_is_err_and}
use Rattle.definition.specs.Image.{is_image}
use Rattle.definition.specs.Board.{Arrival, arrive, Lent, lent, pack_count, is_board}
use Rattle.board_laws.proofs.Calls.{laid}
use Rattle.board_judge.proofs.Judging.{held}
use Rattle.board.proofs.Calling.{answer_away, answer_on, number_found, arrive_no_image, arrive_many, arrive_zero, arrive_present, arrive_done}
use Rattle.board.proofs.arrive_reply.Goals as goal
use Rattle.board.proofs.arrive_reply.Goals.{then-number-eq0-via-then-number-eq0, then-number-eq0-via-else-number-eq0+then-has_number}

pub returns-in_err-board : goal.returns-in_err-board
returns-in_err-board c =
    let pack : Arrival = record { number = c.args.number; contents = c.args.contents.now; bodies = c.args.bodies.now } in
    let l : Lent = lent c.args.words.now c.args.bytes.now in
    let p = err_from_is_err_and c.from_residual.result c.from_residual.ensures.1 in
    rw (p.1, p.2) (answer_away (arrive pack) l _ c.in_err-board.ensures)

pub returns-in_err-new : goal.returns-in_err-new
returns-in_err-new c =
    let pack : Arrival = record { number = c.args.number; contents = c.args.contents.now; bodies = c.args.bodies.now } in
    let l : Lent = lent c.args.words.now c.args.bytes.now in
    let is : is_board l ≡ true = held c.in_ok-board.board l c.in_ok-board.ensures in
    let p = err_from_is_err_and c.from_residual-in_err-new.result c.from_residual-in_err-new.ensures.1 in
    rw (p.1, p.2) (rw c.in_err-new.ensures.0 (arrive_no_image l (laid l is) pack c.in_err-new.ensures.1 ∙ answer_on (arrive pack) l is))

pub returns-then-packs-ge-MOST_PACKS : goal.returns-then-packs-ge-MOST_PACKS
returns-then-packs-ge-MOST_PACKS c =
    let pack : Arrival = record { number = c.args.number; contents = c.args.contents.now; bodies = c.args.bodies.now } in
    let l : Lent = lent c.args.words.now c.args.bytes.now in
    let is : is_board l ≡ true = held c.in_ok-board.board l c.in_ok-board.ensures in
    let image : is_image c.args.contents.now c.args.bodies.now ≡ true = c.in_ok-new.ensures.2 in
    let count : c.pack_count-packs.result ≡ pack_count l = c.pack_count-packs.ensures.0 ∙ ap pack_count c.in_ok-board.ensures in
    arrive_many l (laid l is) pack image (omega arith) ∙ answer_on (arrive pack) l is

pub returns-then-number-eq0 : goal.returns-then-number-eq0
returns-then-number-eq0 c =
    let pack : Arrival = record { number = c.args.number; contents = c.args.contents.now; bodies = c.args.bodies.now } in
    let l : Lent = lent c.args.words.now c.args.bytes.now in
    let is : is_board l ≡ true = held c.in_ok-board.board l c.in_ok-board.ensures in
    let image : is_image c.args.contents.now c.args.bodies.now ≡ true = c.in_ok-new.ensures.2 in
    let count : c.pack_count-packs.result ≡ pack_count l = c.pack_count-packs.ensures.0 ∙ ap pack_count c.in_ok-board.ensures in
    elim c.then-number-eq0.branch [
      | then-number-eq0-via-then-number-eq0 w ↦ arrive_zero l (laid l is) pack image (omega arith) w.if-number-eq0.true ∙ answer_on (arrive pack) l is
      | then-number-eq0-via-else-number-eq0+then-has_number w ↦
          arrive_present l (laid l is) pack image (omega arith) (number_found l c.in_ok-board.board.buffers c.args.number _ c.in_ok-board.ensures count w.has_number.ensures ∙ w.if-has_number.true)
          ∙ answer_on (arrive pack) l is
    ]

pub returns : goal.returns
returns c =
    let pack : Arrival = record { number = c.args.number; contents = c.args.contents.now; bodies = c.args.bodies.now } in
    let l : Lent = lent c.args.words.now c.args.bytes.now in
    let is : is_board l ≡ true = held c.in_ok-board.board l c.in_ok-board.ensures in
    let image : is_image c.args.contents.now c.args.bodies.now ≡ true = c.in_ok-new.ensures.2 in
    let count : c.pack_count-packs.result ≡ pack_count l = c.pack_count-packs.ensures.0 ∙ ap pack_count c.in_ok-board.ensures in
    arrive_done l (laid l is) pack image (omega arith) c.if-number-eq0.false (number_found l c.in_ok-board.board.buffers c.args.number _ c.in_ok-board.ensures count c.has_number.ensures ∙ c.if-has_number.false)
    ∙ answer_on (arrive pack) l is
