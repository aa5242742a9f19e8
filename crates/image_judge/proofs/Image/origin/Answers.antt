-- `image_judge::Image::origin` meets its contract. Assumes nothing.
use Rattle.image_judge.proofs.Parts.{rows_inside}
use Rattle.image_judge.proofs.Image.origin.Goals as goal

pub origin_at-requires : goal.origin_at-requires
origin_at-requires c = rows_inside c.args.self.now.contents.now c.args.self.now.bodies.now c.args.i c.args.self.now.judged c.requires
