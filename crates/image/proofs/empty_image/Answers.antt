-- `image::empty_image` meets its contract. Assumes nothing.
use borrow.Author.Rules.{rules}
use Rattle.image.proofs.Clearing.{filled}
use Rattle.image.proofs.empty_image.Goals as goal

pub returns : goal.returns
returns c = (filled _ (c.fill.ensures.after (search rules)), filled _ (c.fill-2.ensures.after (search rules)))
