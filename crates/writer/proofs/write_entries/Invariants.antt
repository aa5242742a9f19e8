-- `writer::write_entries` meets its contract. The invariant is `Writing`. Assumes nothing.
use Rattle.writer.proofs.Texts.{Writing}
use Rattle.writer.proofs.write_entries.Given as goal

abbrev pub invariant-loop-i : goal.invariant-loop-i
invariant-loop-i l = Writing l.image.contents.now l.image.bodies.now l.initial.text l.text l.size l.i
