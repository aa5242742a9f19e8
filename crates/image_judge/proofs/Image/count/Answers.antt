-- `image_judge::Image::count` meets its contract. Assumes nothing.
use mathlib.Core.Path.{refl}
use native.Mathlib.Omega.{arith}
use Rattle.image_judge.proofs.Judged.{judged}
use Rattle.image_judge.proofs.Image.count.Goals as goal

pub bounds-self-0 : goal.bounds-self-0
bounds-self-0 c = omega (arith, (judged _ _ c.args.self.now.judged).contents_long)

pub returns : goal.returns
returns c = (refl, (judged _ _ c.args.self.now.judged).count_most)
