-- `reports::tell` meets its contract. Assumes nothing.
use mathlib.Core.Path.{◌≡◌, refl}
use Rattle.std.specs.Prelude.{Ok, Some, None}
use Rattle.printing.proofs.Pieces.{then_piece}
use Rattle.reports.specs.Telling.{told}
use Rattle.reports.proofs.tell.Goals as goal

pub returns-in-Ok-Some : goal.returns-in-Ok-Some
unfolding told
returns-in-Ok-Some c =
    let inner = rw c.in-Ok-Some.is at c.in-Ok-Some.field-0-is in
    let is : c.args.answer ≡ Ok (Some c.in-Ok-Some.value) = cc in
    rw is (record { puts = then_piece c.put.ensures c.put-in-Ok-Some.ensures; status = refl; wrong = refl })

pub returns-in-Ok-None : goal.returns-in-Ok-None
unfolding told
returns-in-Ok-None c =
    let inner = rw c.in-Ok-None.is at c.in-Ok-None.field-0-is in
    let is : c.args.answer ≡ Ok None = cc in
    rw is (record { puts = c.put-in-Ok-None.ensures; status = refl; wrong = refl })
