-- `sources::StartUp::first_read` meets its contract. Assumes nothing.
use mathlib.Core.Path.{refl, sym, ◌∙◌}
use Rattle.sources.specs.declared.FirstSource.TheVariants.{Property, Xresources, Xdefaults}
use Rattle.sources.proofs.Choosing.{first_from}
use Rattle.sources.proofs.StartUp.first_read.Goals as goal

pub returns-in-Property : goal.returns-in-Property
returns-in-Property c =
    let e = sym c.in-Property.is ∙ c.first_source.ensures ∙ rw c.is_some.ensures refl in
    (rw (← e) refl, first_from c.args.self Property e)

pub returns-in-Xresources : goal.returns-in-Xresources
returns-in-Xresources c =
    let e = sym c.in-Xresources.is ∙ c.first_source.ensures ∙ rw c.is_some.ensures refl in
    (rw (← e) refl, first_from c.args.self Xresources e)

pub returns-in-Xdefaults : goal.returns-in-Xdefaults
returns-in-Xdefaults c =
    let e = sym c.in-Xdefaults.is ∙ c.first_source.ensures ∙ rw c.is_some.ensures refl in
    (rw (← e) refl, first_from c.args.self Xdefaults e)
