-- `image::close_image` meets its contract. Assumes nothing.
use borrow.Author.Rules.{rules}
use Rattle.image.proofs.Clearing.{cleared, closed_words_lem}
use Rattle.image.proofs.close_image.Goals as goal

pub returns : goal.returns
returns c = (
  closed_words_lem c.args.totals c.args.words.now c.row_start.ensures (cleared _ _ (c.fill.ensures.after (search rules))),
  cleared _ _ (c.fill-2.ensures.after (search rules)),
)
