-- `reader::fill` meets its contract. Assumes nothing.
use mathlib.Core.List.{map}
use native.Mathlib.Omega.{arith}
use mathlib.Core.Path.{◌∙◌}
use Rattle.reader.proofs.Finishing.{ready, finished_is}
use Rattle.reader.proofs.fill.Goals as goal

pub finish-requires : goal.finish-requires
finish-requires c = ready c.args.depth (map (λ x. x.now) c.args.texts.now) c.args.archive.bytes.now c.args.words.now c.args.store.now (omega arith) (omega arith) _ _ _ c.parse_texts-read.ensures (omega arith) (omega arith)

pub returns : goal.returns
returns c =
    c.finish.ensures
    ∙ finished_is c.args.depth (map (λ x. x.now) c.args.texts.now) c.args.archive.bytes.now c.args.words.now c.args.store.now (omega arith) (omega arith) _ _ _ c.parse_texts-read.ensures
