-- `argument_words::format_of` meets its contract. Assumes nothing.
use Rattle.std.proofs.Common.{ap, sym, ◌∙◌, refl}
use Rattle.definition.specs.Lists.{ascii, same}
use Rattle.argument_words.specs.Words.{format_of}
use Rattle.argument_words.proofs.Words.{other_word, no_text}
use Rattle.argument_words.proofs.format_of.Goals as goal

pub returns-in-text : goal.returns-in-text
unfolding format_of same
returns-in-text c = ap format_of (sym c.in-text.is ∙ c.in-Ok.ensures.cases.0)

pub returns-in-text-2 : goal.returns-in-text-2
unfolding format_of same
returns-in-text-2 c = ap format_of (sym c.in-text-2.is ∙ c.in-Ok.ensures.cases.0)

pub returns-in-text-3 : goal.returns-in-text-3
unfolding format_of same
returns-in-text-3 c = ap format_of (sym c.in-text-3.is ∙ c.in-Ok.ensures.cases.0)

pub returns-in_default-word : goal.returns-in_default-word
unfolding format_of
returns-in_default-word c =
    rw (← c.in-Ok.ensures.cases.0, other_word _ (ascii "8") c.in_default-word.not-text, other_word _ (ascii "16") c.in_default-word.not-text-2, other_word _ (ascii "32") c.in_default-word.not-text-3) refl

pub returns-in_default : goal.returns-in_default
unfolding format_of
returns-in_default c =
    let n = c.in_default.ensures.cases.0 in
    rw (no_text _ (ascii "8") n refl, no_text _ (ascii "16") n refl, no_text _ (ascii "32") n refl) refl
