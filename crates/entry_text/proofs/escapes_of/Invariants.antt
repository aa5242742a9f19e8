-- `entry_text::escapes_of` meets its contract. Assumes nothing.
use lib.ListN.{drop}
use Rattle.entry_text.proofs.Texts.{Counted}
use Rattle.entry_text.proofs.escapes_of.Given as goal

abbrev pub invariant-loop-c : goal.invariant-loop-c
invariant-loop-c l = Counted l.part (drop l.c-index l.part) l.n
