-- `board::drop_slot` meets its contract. Assumes nothing.
use native.Mathlib.Omega.{arith}
use Rattle.definition.specs.Board.{lent}
use Rattle.board.proofs.Writing.{slot_dropped}
use Rattle.board.proofs.drop_slot.Goals as goal

pub returns : goal.returns
returns c =
    slot_dropped (lent c.args.words.now c.args.bytes.now) c.args.i c.args.count _ _ _ _ _ _ c.slot_start-at.ensures c.slot_start-next.ensures
    c.slot_start-end.ensures c.body_start-body.ensures c.body_start-behind.ensures c.body_start-last.ensures
    _ _ c.move_words.ensures (omega (arith, c.move_words.auto.words, c.requires.0.words_long)) c.move_bytes.ensures
