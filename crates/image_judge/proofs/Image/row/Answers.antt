-- `image_judge::Image::row` meets its contract. Assumes nothing.
use Rattle.image_judge.proofs.Parts.{rows_inside}
use Rattle.image_judge.proofs.Image.row.Goals as goal

pub row_at-requires : goal.row_at-requires
row_at-requires c = rows_inside c.args.self.now.contents.now c.args.self.now.bodies.now c.args.i c.args.self.now.judged c.requires
