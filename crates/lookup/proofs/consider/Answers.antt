-- `lookup::consider` meets its contract. Assumes nothing.
use mathlib.Core.Path.{sym, ◌∙◌}
use Rattle.lookup.proofs.Looking.{takes, keeps}
use Rattle.lookup.proofs.consider.Goals as goal

pub returns-then-wins : goal.returns-then-wins
returns-then-wins c =
    let won = rw c.match_key-marks.ensures at c.wins.ensures in
    (sym c.if-wins.true ∙ won, c.match_key-marks.ensures ∙ takes _ c.args.held.now _ won c.if-wins.true)

pub returns : goal.returns
returns c =
    let won = rw c.match_key-marks.ensures at c.wins.ensures in
    (sym c.if-wins.false ∙ won, keeps _ c.args.held.now _ won c.if-wins.false)
