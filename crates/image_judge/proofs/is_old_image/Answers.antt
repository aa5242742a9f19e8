-- `image_judge::is_old_image` meets its contract. Assumes nothing.
use mathlib.Core.Path.{sym, ◌∙◌}
use Rattle.image_judge.proofs.Judged.{old_packed}
use Rattle.image_judge.proofs.is_old_image.Goals as goal

pub returns : goal.returns
returns c = c.is_packed.ensures ∙ sym (old_packed _ _)
