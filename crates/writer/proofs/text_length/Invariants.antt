-- `writer::text_length` meets its contract. The invariant is `Measuring`. Assumes nothing.
use Rattle.writer.proofs.Texts.{Measuring}
use Rattle.writer.proofs.text_length.Given as goal

abbrev pub invariant-loop-i : goal.invariant-loop-i
invariant-loop-i l = Measuring l.image.contents.now l.image.bodies.now l.size l.i
