-- `compare_default::compare_default_without` meets its contract. Assumes nothing.
use Rattle.sources.specs.Lending.{as_lent}
use Rattle.compare_default.proofs.Started.{started}
use Rattle.compare_default.proofs.compare_default_without.Goals as goal

pub returns : goal.returns
returns c =
    started c.args.depth c.args.archive.now c.args.file c.args.name.now c.args.class.now c.args.contents.now c.args.bodies.now c.args.contents_without.now c.args.bodies_without.now c.args.struck.now
    (as_lent c.args.start) _ c.texts-texts.ensures.0 _ c.compare_without.ensures
