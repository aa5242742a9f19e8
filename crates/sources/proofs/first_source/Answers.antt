-- `sources::first_source` meets its contract. Assumes nothing.
use mathlib.Core.Path.{refl, sym, ◌∙◌}
use Rattle.sources.specs.Lending.{first_source}
use Rattle.sources.proofs.first_source.Goals as goal

pub returns-then-is_text : goal.returns-then-is_text
unfolding first_source
returns-then-is_text c = rw (sym c.is_text.ensures ∙ c.if-is_text.true) refl

pub returns-then-xresources_read : goal.returns-then-xresources_read
unfolding first_source
returns-then-xresources_read c = rw (sym c.is_text.ensures ∙ c.if-is_text.false, c.if-xresources_read.true) refl

pub returns : goal.returns
unfolding first_source
returns c = rw (sym c.is_text.ensures ∙ c.if-is_text.false, c.if-xresources_read.false) refl
