-- `shared_keys::next_shared` meets its contract: the entry's key, and then the loop. Assumes nothing.
use mathlib.Core.Path.{◌∙◌}
use Rattle.shared_keys.proofs.Sharing.{of_entry}
use Rattle.shared_keys.proofs.next_shared.Goals as goal

pub returns : goal.returns
returns c =
    (rw c.key.ensures.0 at c.next_with.ensures)
    ∙ of_entry c.args.image.now.contents.now c.args.image.now.bodies.now c.args.i c.args.other.now.contents.now c.args.other.now.bodies.now c.args.next
    c.args.image.now.judged c.requires
