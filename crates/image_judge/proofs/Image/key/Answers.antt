-- `image_judge::Image::key` meets its contract. Assumes nothing.
use Rattle.image_judge.proofs.Parts.{key_part_lem, key_within, key_is, key_short}
use Rattle.image_judge.proofs.Image.key.Goals as goal

pub slice_bounds-result-end : goal.slice_bounds-result-end
slice_bounds-result-end c = key_within _ _ _ _ c.row-row.ensures c.args.self.now.judged c.requires

pub returns : goal.returns
returns c = (
  key_part_lem _ _ _ _ c.row-row.ensures,
  key_is _ _ _ _ c.row-row.ensures c.args.self.now.judged c.requires,
  key_short _ _ _ _ c.row-row.ensures c.args.self.now.judged c.requires,
)
