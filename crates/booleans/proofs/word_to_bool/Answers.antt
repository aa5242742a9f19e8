use mathlib.Core.Path.{sym, ◌∙◌}
use Rattle.booleans.proofs.Words.{word_yes, word_no, word_neither}
use Rattle.booleans.proofs.word_to_bool.Goals as goal

pub returns-then-is_one_of : goal.returns-then-is_one_of
returns-then-is_one_of c = word_yes _ (sym c.is_one_of.ensures ∙ c.if-is_one_of.true)

pub returns-then-is_one_of-2 : goal.returns-then-is_one_of-2
returns-then-is_one_of-2 c = word_no _ (sym c.is_one_of.ensures ∙ c.if-is_one_of.false) (sym c.is_one_of-2.ensures ∙ c.if-is_one_of-2.true)

pub returns : goal.returns
returns c = word_neither _ (sym c.is_one_of.ensures ∙ c.if-is_one_of.false) (sym c.is_one_of-2.ensures ∙ c.if-is_one_of-2.false)
