-- `board_judge::holds_board` meets its contract. Assumes nothing.
use mathlib.Core.Bool.{false, true}
use mathlib.Core.Path.{◌≡◌, sym, ◌∙◌}
use native.Mathlib.Omega.{arith}
use Rattle.definition.specs.Board.{slots_in, are_slots}
use Rattle.board_layout.specs.Laid.{lent_of}
use Rattle.board_judge.proofs.Judging.{buffers_long, board_packs, board_queries, board_slots, board_rooms}
use Rattle.board_judge.proofs.holds_board.Goals as goal

pub returns-then-packs-gt-MOST_PACKS : goal.returns-then-packs-gt-MOST_PACKS
returns-then-packs-gt-MOST_PACKS c = sym (board_packs (lent_of c.args.buffers) (buffers_long c.args.buffers) (omega arith))

pub returns-then-queries-gt-MOST_QUERIES : goal.returns-then-queries-gt-MOST_QUERIES
returns-then-queries-gt-MOST_QUERIES c = sym (board_queries (lent_of c.args.buffers) (buffers_long c.args.buffers) (omega arith) (omega arith))

pub returns-then-not-are_slots : goal.returns-then-not-are_slots
returns-then-not-are_slots c =
    let no : are_slots (slots_in (lent_of c.args.buffers)) ≡ false = cc in
    sym (board_slots (lent_of c.args.buffers) (buffers_long c.args.buffers) (omega arith) (omega arith) no)

pub returns : goal.returns
returns c =
    let slots : are_slots (slots_in (lent_of c.args.buffers)) ≡ true = cc in
    sym (board_rooms (lent_of c.args.buffers) (buffers_long c.args.buffers) (omega arith) (omega arith) slots ∙ cc)
