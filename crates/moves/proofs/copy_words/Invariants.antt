-- `moves::copy_words` meets its contract. Assumes nothing.
use mathlib.Core.Path.{◌≡◌}
use lib.ListN.{length}
use Rattle.moves.proofs.Moving.{Stored}
use Rattle.moves.proofs.copy_words.Given as goal

abbrev pub invariant-loop-i : goal.invariant-loop-i
invariant-loop-i l = Stored l.initial.store l.at l.source l.store l.i × (length l.store ≡ length l.initial.store)
