-- `adding::add` meets its contract: 8, 2, 12, and then the only entry. Assumes nothing.
use mathlib.Core.Path.{sym, ◌∙◌}
use borrow.Author.Tests.{not-false}
use Rattle.laws.proofs.Lists.{part_rest}
use Rattle.adding.proofs.Appending.{one_added}
use Rattle.adding.proofs.add.Goals as goal

pub returns : goal.returns
returns c =
    let is = sym c.is_image.ensures ∙ not-false _ c.if-not-is_image.false-raw in
    one_added _ _ _ is c.if-text-gt-TEXT_BYTES.false c.in-Some.ensures.0
    (rw (part_rest c.args.text.now c.in-Some.only.at) at c.add_entry.ensures)
