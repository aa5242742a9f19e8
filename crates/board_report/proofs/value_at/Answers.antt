-- `board_report::value_at` meets its contract. Assumes nothing.
use Rattle.board_report.proofs.value_at.Goals as goal

pub image-image-requires : goal.image-image-requires
image-image-requires c = c.requires.slot

pub value-requires : goal.value-requires
value-requires c = rw c.image-image.ensures.0 c.requires.row

pub returns : goal.returns
returns c = rw (c.image-image.ensures.0, c.image-image.ensures.1) at c.value.ensures
