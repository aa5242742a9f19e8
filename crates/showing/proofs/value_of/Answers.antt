-- `showing::value_of` meets its contract. Assumes nothing.
use mathlib.Core.Path.{◌≡◌, ap, ◌∙◌}
use Rattle.std.specs.Prelude.{Ok, Some}
use Rattle.showing.proofs.Lines.{found_value}
use Rattle.showing.proofs.value_of.Goals as goal

pub returns : goal.returns
returns c =
    let is : c.args.found ≡ Ok (Some c.in-Some.place) = c.in_ok-place.was ∙ ap Ok c.in-Some.is in
    rw is (found_value c.args.bodies.now c.in-Some.place (rw is at c.requires))
