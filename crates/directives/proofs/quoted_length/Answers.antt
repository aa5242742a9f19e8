-- `directives::quoted_length` meets its contract. Assumes nothing.
use Rattle.std.proofs.Common.{rules, tests, ◌≡◌, ◌∙◌}
use Rattle.std.proofs.lemmas.Iterator.{YieldsList-from_slice}
use Rattle.std.proofs.lemmas.Iterator.Search.{position_from_yields_List}
use Rattle.std.specs.List.{position}
use Rattle.definition.specs.Text.{in_quotes}
use Rattle.scan.proofs.Bridges.{position_run_by}
use Rattle.directives.proofs.Quotes.{ends_quoted, quoted}
use Rattle.directives.proofs.quoted_length.Goals as goal

pub returns : goal.returns
returns c =
    let found : c.position.result ≡ position ends_quoted c.args.text.now = position_from_yields_List ends_quoted _ _ c.position.result c.position.ensures.ran (YieldsList-from_slice _ c.iter.ensures.rest) (λ x b q k. search (rules, tests)) in
    c.unwrap_or.ensures ∙ position_run_by in_quotes ends_quoted quoted c.args.text.now found
