-- `image_judge::Image::value` meets its contract. Assumes nothing.
use Rattle.image_judge.proofs.Parts.{value_part_lem, row_within}
use Rattle.image_judge.proofs.Image.value.Goals as goal

pub slice_bounds-result-end : goal.slice_bounds-result-end
slice_bounds-result-end c = row_within _ _ _ _ c.row-row.ensures c.args.self.now.judged c.requires

pub returns : goal.returns
returns c = value_part_lem _ c.args.self.now.bodies.now _ _ c.row-row.ensures
