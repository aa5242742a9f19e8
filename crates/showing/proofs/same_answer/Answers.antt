-- `showing::same_answer` meets its contract. Assumes nothing.
use mathlib.Core.Path.{◌≡◌, ◌∙◌}
use Rattle.std.specs.Prelude.{Ok, Some}
use Rattle.scan.proofs.Bridges.{same_pointwise}
use Rattle.showing.specs.Showing.{same_shown}
use Rattle.showing.proofs.same_answer.Goals as goal

pub returns-in-Ok-Some-Ok-Some : goal.returns-in-Ok-Some-Ok-Some
unfolding same_shown
returns-in-Ok-Some-Ok-Some c =
    let is : c.args.a ≡ Ok (Some c.in-Ok-Some-Ok-Some.v) = cc in
    let other : c.args.b ≡ Ok (Some c.in-Ok-Some-Ok-Some.w) = cc in
    rw (is, other) (c.eq.ensures ∙ same_pointwise c.in-Ok-Some-Ok-Some.v.now c.in-Ok-Some-Ok-Some.w.now)
