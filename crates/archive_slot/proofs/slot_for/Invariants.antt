-- `archive_slot::slot_for` meets its contract. The invariant: the place of the name is that among the files from file j on, after those passed. Assumes nothing.
use Rattle.archive_slot.proofs.Slots.{Seeking}
use Rattle.archive_slot.proofs.slot_for.Given as goal

abbrev pub invariant-loop-j : goal.invariant-loop-j
invariant-loop-j l = Seeking l.bytes l.name l.count l.at l.j
