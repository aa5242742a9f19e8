-- `copies::copy_in` meets its contract: each step leaves less than its size. Assumes nothing.
use native.Mathlib.Omega.{arith}
use Rattle.copies.proofs.Copying.{copied_to, copied_step, copied_all, step_left}
use Rattle.copies.proofs.copy_in.Goals as goal

pub copy_step-k-requires : goal.copy_step-k-requires
copy_step-k-requires c =
    let one = copied_to _ _ _ c.requires _ _ c.copy_blocks-n.ensures.1 c.copy_blocks-n.ensures.0 in
    let two = copied_step _ _ _ c.requires one _ _ _ c.copy_step-m.ensures.0 c.copy_step-m.ensures.1 in
    (omega arith, two.inside, omega (arith, two.long))

pub copy_step-requires : goal.copy_step-requires
copy_step-requires c =
    let one = copied_to _ _ _ c.requires _ _ c.copy_blocks-n.ensures.1 c.copy_blocks-n.ensures.0 in
    let two = copied_step _ _ _ c.requires one _ _ _ c.copy_step-m.ensures.0 c.copy_step-m.ensures.1 in
    let three = copied_step _ _ _ c.requires two _ _ _ c.copy_step-k.ensures.0 c.copy_step-k.ensures.1 in
    (omega arith, three.inside, omega (arith, three.long))

pub returns : goal.returns
returns c =
    let one = copied_to _ _ _ c.requires _ _ c.copy_blocks-n.ensures.1 c.copy_blocks-n.ensures.0 in
    let two = copied_step _ _ _ c.requires one _ _ _ c.copy_step-m.ensures.0 c.copy_step-m.ensures.1 in
    let three = copied_step _ _ _ c.requires two _ _ _ c.copy_step-k.ensures.0 c.copy_step-k.ensures.1 in
    let four = copied_step _ _ _ c.requires three _ _ _ c.copy_step.ensures.0 c.copy_step.ensures.1 in
    let left-3 = step_left _ _ _ _ c.copy_step-m.ensures.0 c.copy_blocks-n.ensures.2 in
    let left-1 = step_left _ _ _ _ c.copy_step-k.ensures.0 left-3 in
    copied_all _ _ _ c.requires four (omega (arith, step_left _ _ _ _ c.copy_step.ensures.0 left-1))
