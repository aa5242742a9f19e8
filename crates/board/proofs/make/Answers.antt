-- `board::make` meets its contract. Assumes nothing.
use mathlib.Core.Path.{sym, ◌∙◌}
use native.Mathlib.Omega.{arith}
use lib.ListN.{length-set}
use Rattle.definition.specs.Board.{lent}
use Rattle.board_laws.proofs.Calls.{long_board}
use Rattle.board.proofs.Writing.{made_short, made_is}
use Rattle.board.proofs.make.Goals as goal

pub returns-then-is_short : goal.returns-then-is_short
returns-then-is_short c = made_short (lent c.args.words.now c.args.bytes.now) (sym c.is_short.ensures ∙ c.if-is_short.true)

pub bounds-words-0 : goal.bounds-words-0
bounds-words-0 c = omega (arith, (long_board (lent c.args.words.now c.args.bytes.now) (sym c.is_short.ensures ∙ c.if-is_short.false)).0)

pub bounds-words-1 : goal.bounds-words-1
bounds-words-1 c = simp length-set (omega (arith, (long_board (lent c.args.words.now c.args.bytes.now) (sym c.is_short.ensures ∙ c.if-is_short.false)).0))

pub returns : goal.returns
returns c =
    let long = sym c.is_short.ensures ∙ c.if-is_short.false in
    made_is (lent c.args.words.now c.args.bytes.now) long (omega (arith, (long_board (lent c.args.words.now c.args.bytes.now) long).0))
