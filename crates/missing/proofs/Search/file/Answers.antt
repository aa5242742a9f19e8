-- `missing::Search::file` meets its contract: what is reached stands in the archive. Assumes nothing.
use mathlib.Core.Path.{refl}
use Rattle.laws.proofs.Archive.{laid_out_says}
use Rattle.missing.proofs.Reaching.{waiting_in}
use Rattle.missing.proofs.Search.file.Goals as goal

pub returns : goal.returns
returns c =
    let s = c.args.self.now in
    (refl, waiting_in _ s.reached c.args.i s.waiting c.requires, (laid_out_says s.archive.bytes.now s.archive.judged).short)
