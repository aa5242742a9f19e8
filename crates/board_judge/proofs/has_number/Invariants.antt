-- `board_judge::has_number` meets its contract. The invariant: the slots from i on decide. Assumes nothing.
use mathlib.Core.Path.{◌≡◌}
use Rattle.board_judge.specs.Slots.{has_number_from}
use Rattle.board_judge.proofs.has_number.Given as goal

abbrev pub invariant-loop-i : goal.invariant-loop-i
invariant-loop-i l = has_number_from l.buffers.words.now l.number l.i l.last ≡ has_number_from l.buffers.words.now l.number l.from l.last
