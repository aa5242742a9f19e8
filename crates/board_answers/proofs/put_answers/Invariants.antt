-- `board_answers::put_answers` meets its contract. The invariant is `Put`. Assumes nothing.
use Rattle.board_layout.specs.Laid.{lent_of}
use Rattle.board_answers.proofs.Answers.{Put}
use Rattle.board_answers.proofs.put_answers.Given as goal

abbrev pub invariant-loop-q : goal.invariant-loop-q
invariant-loop-q l = Put (lent_of l.board.buffers) l.initial.answers l.initial.packs l.answers l.packs l.q
