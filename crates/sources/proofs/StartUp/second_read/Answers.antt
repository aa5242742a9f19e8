-- `sources::StartUp::second_read` meets its contract. Assumes nothing.
use mathlib.Core.Path.{refl, sym, ◌∙◌}
use Rattle.sources.specs.declared.SecondSource.TheVariants.{Xenvironment, Host}
use Rattle.sources.proofs.Choosing.{second_from}
use Rattle.sources.proofs.StartUp.second_read.Goals as goal

pub returns-in-Xenvironment : goal.returns-in-Xenvironment
returns-in-Xenvironment c =
    let e = sym c.in-Xenvironment.is ∙ c.second_source.ensures in
    (rw (← e) refl, second_from c.args.self Xenvironment e)

pub returns-in-Host : goal.returns-in-Host
returns-in-Host c =
    let e = sym c.in-Host.is ∙ c.second_source.ensures in
    (rw (← e) refl, second_from c.args.self Host e)
