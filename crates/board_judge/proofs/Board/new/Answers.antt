-- `board_judge::Board::new` meets its contract. Assumes nothing.
use mathlib.Core.Path.{refl, sym, ◌∙◌}
use Rattle.definition.specs.Board.{lent}
use Rattle.board_judge.proofs.Judging.{board_short}
use Rattle.board_judge.proofs.Board.new.Goals as goal

pub returns-then-is_short : goal.returns-then-is_short
returns-then-is_short c =
    let short = sym c.is_short.ensures ∙ c.if-is_short.true in
    (rw short refl, board_short (lent c.args.words.now c.args.bytes.now) short)
