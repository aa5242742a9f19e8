-- `board::keep_query` meets its contract. Assumes nothing.
use native.Mathlib.Omega.{arith}
use Rattle.definition.specs.Board.{lent, lengths_start, text_start}
use Rattle.board.proofs.Writing.{query_written}
use Rattle.board.proofs.keep_query.Goals as goal

pub returns : goal.returns
unfolding lengths_start text_start
returns c =
    query_written (lent c.args.words.now c.args.bytes.now) (record { name = c.args.name.now; class = c.args.class.now }) c.args.q _ _ c.requires.1 c.lengths_start-at.ensures
    c.text_start-first.ensures (omega (arith, c.lengths_start-at.ensures)) (omega (arith, c.lengths_start-at.ensures, c.requires.0.words_long))
    (omega (arith, c.text_start-first.ensures, c.requires.0.bytes_long)) _ _ c.copy_in.ensures c.copy_in-2.ensures
