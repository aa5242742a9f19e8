-- `image::origin_at` meets its contract. Assumes nothing.
use mathlib.Core.Path.{ap, ◌∙◌}
use Prim.Native.Nat.{ℕ, ◌+◌}
use lib.ListN.{get_or}
use Rattle.image.proofs.origin_at.Goals as goal

pub returns : goal.returns
returns c = c.number_at.ensures.0 ∙ ap (λ (n : ℕ). get_or c.args.words.now (n + 3) 0) c.row_start.ensures
