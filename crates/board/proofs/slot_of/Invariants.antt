-- `board::slot_of` meets its contract. The invariant: all slots before i have another number. Assumes nothing.
use Rattle.board.proofs.Writing.{Before}
use Rattle.board.proofs.slot_of.Given as goal

abbrev pub invariant-loop-i : goal.invariant-loop-i
invariant-loop-i l = Before l.words l.number l.count l.i
