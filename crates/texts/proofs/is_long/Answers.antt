-- `texts::is_long` meets its contract. Assumes nothing.
use Rattle.std.proofs.Common.{rules, tests, ◌≡◌, ◌∙◌}
use Rattle.std.proofs.lemmas.Iterator.{YieldsList-from_slice}
use Rattle.std.proofs.lemmas.Iterator.Search.{any_from_yields_List}
use Rattle.std.specs.List.{list_any}
use Rattle.definition.specs.Reading.{too_long}
use Rattle.texts.proofs.Texts.{some_long}
use Rattle.texts.proofs.is_long.Goals as goal

pub returns : goal.returns
returns c =
    let found : c.any.result ≡ list_any (λ x. too_long x.now) c.args.texts.now = any_from_yields_List (λ x. too_long x.now) _ _ c.any.result c.any.ensures.ran (YieldsList-from_slice _ c.iter.ensures.rest) (λ x b q k. search (rules, tests)) in
    found ∙ some_long (λ x. x.now) c.args.texts.now
