-- `entry_text::begins_blank` meets its contract. Assumes nothing.
use Rattle.entry_text.proofs.Texts.{nothing_begins, first_begins}
use Rattle.entry_text.proofs.begins_blank.Goals as goal

pub returns-then-value-eq0 : goal.returns-then-value-eq0
returns-then-value-eq0 c = nothing_begins _ c.if-value-eq0.true

pub returns : goal.returns
returns c = first_begins _ c.if-value-eq0.false
