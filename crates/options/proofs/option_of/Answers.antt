-- `options::option_of` meets its contract. Assumes nothing.
use Rattle.std.proofs.Common.{ap, sym, ◌∙◌, refl}
use Rattle.definition.specs.Lists.{ascii, same}
use Rattle.argument_words.proofs.Words.{other_word, no_text}
use Rattle.options.specs.Options.{chain_option, option_of}
use Rattle.options.proofs.option_of.Goals as goal

pub returns-in-text : goal.returns-in-text
unfolding option_of chain_option same
returns-in-text c = ap option_of (sym c.in-text.is ∙ c.in-Ok.ensures.cases.0)

pub returns-in-text-2 : goal.returns-in-text-2
unfolding option_of chain_option same
returns-in-text-2 c = ap option_of (sym c.in-text-2.is ∙ c.in-Ok.ensures.cases.0)

pub returns-in-text-3 : goal.returns-in-text-3
unfolding option_of chain_option same
returns-in-text-3 c = ap option_of (sym c.in-text-3.is ∙ c.in-Ok.ensures.cases.0)

pub returns-in-text-4 : goal.returns-in-text-4
unfolding option_of chain_option same
returns-in-text-4 c = ap option_of (sym c.in-text-4.is ∙ c.in-Ok.ensures.cases.0)

pub returns-in-text-5 : goal.returns-in-text-5
unfolding option_of chain_option same
returns-in-text-5 c = ap option_of (sym c.in-text-5.is ∙ c.in-Ok.ensures.cases.0)

pub returns-in-text-6 : goal.returns-in-text-6
unfolding option_of chain_option same
returns-in-text-6 c = ap option_of (sym c.in-text-6.is ∙ c.in-Ok.ensures.cases.0)

pub returns-in-text-7 : goal.returns-in-text-7
unfolding option_of chain_option same
returns-in-text-7 c = ap option_of (sym c.in-text-7.is ∙ c.in-Ok.ensures.cases.0)

pub returns-in-text-8 : goal.returns-in-text-8
unfolding option_of chain_option same
returns-in-text-8 c = ap option_of (sym c.in-text-8.is ∙ c.in-Ok.ensures.cases.0)

pub returns-in-text-9 : goal.returns-in-text-9
unfolding option_of chain_option same
returns-in-text-9 c = ap option_of (sym c.in-text-9.is ∙ c.in-Ok.ensures.cases.0)

pub returns-in-text-10 : goal.returns-in-text-10
unfolding option_of chain_option same
returns-in-text-10 c = ap option_of (sym c.in-text-10.is ∙ c.in-Ok.ensures.cases.0)

pub returns-in-text-11 : goal.returns-in-text-11
unfolding option_of chain_option same
returns-in-text-11 c = ap option_of (sym c.in-text-11.is ∙ c.in-Ok.ensures.cases.0)

pub returns-in-text-12 : goal.returns-in-text-12
unfolding option_of chain_option same
returns-in-text-12 c = ap option_of (sym c.in-text-12.is ∙ c.in-Ok.ensures.cases.0)

pub returns-in-text-13 : goal.returns-in-text-13
unfolding option_of chain_option same
returns-in-text-13 c = ap option_of (sym c.in-text-13.is ∙ c.in-Ok.ensures.cases.0)

pub returns-in-text-14 : goal.returns-in-text-14
unfolding option_of chain_option same
returns-in-text-14 c = ap option_of (sym c.in-text-14.is ∙ c.in-Ok.ensures.cases.0)

pub returns-in-text-15 : goal.returns-in-text-15
unfolding option_of chain_option same
returns-in-text-15 c = ap option_of (sym c.in-text-15.is ∙ c.in-Ok.ensures.cases.0)

pub returns-in-text-16 : goal.returns-in-text-16
unfolding option_of chain_option same
returns-in-text-16 c = ap option_of (sym c.in-text-16.is ∙ c.in-Ok.ensures.cases.0)

pub returns-in-text-17 : goal.returns-in-text-17
unfolding option_of chain_option same
returns-in-text-17 c = ap option_of (sym c.in-text-17.is ∙ c.in-Ok.ensures.cases.0)

pub returns-in_default-word : goal.returns-in_default-word
unfolding option_of chain_option
returns-in_default-word c =
    let n = c.in_default-word in
    rw (
      ← c.in-Ok.ensures.cases.0,
      other_word _ (ascii "--file") n.not-text,
      other_word _ (ascii "--without") n.not-text-2,
      other_word _ (ascii "--status-fd") n.not-text-3,
      other_word _ (ascii "--help") n.not-text-4,
      other_word _ (ascii "--") n.not-text-5,
      other_word _ (ascii "--missing") n.not-text-6,
      other_word _ (ascii "--write") n.not-text-7,
      other_word _ (ascii "--list") n.not-text-8,
      other_word _ (ascii "--shared") n.not-text-9,
      other_word _ (ascii "--depth") n.not-text-10,
      other_word _ (ascii "--default") n.not-text-11,
      other_word _ (ascii "--property") n.not-text-12,
      other_word _ (ascii "--property-format") n.not-text-13,
      other_word _ (ascii "--xresources") n.not-text-14,
      other_word _ (ascii "--xdefaults") n.not-text-15,
      other_word _ (ascii "--xenvironment") n.not-text-16,
      other_word _ (ascii "--host") n.not-text-17,
    )
    refl

pub returns-in_default : goal.returns-in_default
unfolding option_of chain_option
returns-in_default c =
    let n = c.in_default.ensures.cases.0 in
    rw (
      no_text _ (ascii "--file") n refl,
      no_text _ (ascii "--without") n refl,
      no_text _ (ascii "--status-fd") n refl,
      no_text _ (ascii "--help") n refl,
      no_text _ (ascii "--") n refl,
      no_text _ (ascii "--missing") n refl,
      no_text _ (ascii "--write") n refl,
      no_text _ (ascii "--list") n refl,
      no_text _ (ascii "--shared") n refl,
      no_text _ (ascii "--depth") n refl,
      no_text _ (ascii "--default") n refl,
      no_text _ (ascii "--property") n refl,
      no_text _ (ascii "--property-format") n refl,
      no_text _ (ascii "--xresources") n refl,
      no_text _ (ascii "--xdefaults") n refl,
      no_text _ (ascii "--xenvironment") n refl,
      no_text _ (ascii "--host") n refl,
    )
    refl
