-- `board_judge::is_board` meets its contract. Assumes nothing.
use mathlib.Core.Path.{sym, ◌∙◌}
use Rattle.definition.specs.Board.{lent}
use Rattle.board_judge.proofs.Judging.{board_short}
use Rattle.board_judge.proofs.is_board.Goals as goal

pub returns-else-not-is_short : goal.returns-else-not-is_short
returns-else-not-is_short c =
    let short = c.if-not-is_short.false in
    rw short (sym (board_short (lent c.args.words.now c.args.bytes.now) (sym c.is_short.ensures ∙ short)))
