use borrow.Author.Rules.{rules}
use Rattle.std.proofs.Common.{tests}
use Rattle.std.proofs.lemmas.Iterator.{YieldsList-from_slice}
use Rattle.std.proofs.lemmas.Iterator.Search.{all_from_yields_List}
use Rattle.definition.specs.Bytes.{within}
use Rattle.utf8.proofs.Characters.{after_trails}
use lib.ListN.{take}
use Rattle.utf8.proofs.trails.Goals as goal

pub returns : goal.returns
returns c =
    let all = all_from_yields_List (within 0x80 0xBF) _ _ c.all.result c.all.ensures.ran (YieldsList-from_slice (take c.args.n c.args.text.now) cc) (λ x b q k. search (rules, tests)) in
    rw all (after_trails c.args.n c.args.text.now c.requires)
