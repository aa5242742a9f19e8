-- `archive_write::copy_part` meets its contract. Assumes nothing.
use mathlib.Core.Path.{ap, ◌∙◌}
use Prim.Native.Nat.{◌-◌}
use lib.ListN.{take, drop}
use lib.Seq.{paste}
use Rattle.archive.proofs.Walk.{part_size}
use Rattle.archive_write.proofs.copy_part.Goals as goal

pub returns : goal.returns
returns c =
    c.copy_in.ensures
    ∙ ap (paste c.args.out.now c.args.at (take (c.args.to - c.args.from) (drop c.args.from c.args.archive.now))) (part_size c.args.archive.now c.args.from c.args.to c.requires.1)
