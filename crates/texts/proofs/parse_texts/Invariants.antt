-- `texts::parse_texts` meets its contract. Assumes nothing.
use Rattle.texts.proofs.Texts.{Reading}
use Rattle.texts.proofs.parse_texts.Given as goal

abbrev pub invariant-loop-text : goal.invariant-loop-text
invariant-loop-text l = Reading (λ x. x.now) l.depth l.archive.bytes.now l.texts l.initial.words l.initial.store l.s l.words l.store l.text-index
