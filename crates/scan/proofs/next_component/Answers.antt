-- `scan::next_component` meets its contract. Assumes nothing.
use Rattle.std.proofs.Common.{rules, tests, ◌≡◌, ◌∙◌, not}
use Rattle.std.proofs.lemmas.Iterator.{YieldsList-from_slice}
use Rattle.std.proofs.lemmas.Iterator.Search.{position_from_yields_List}
use Rattle.std.specs.List.{position}
use Rattle.definition.specs.Bytes.{is_name}
use Rattle.scan.proofs.Bridges.{position_run}
use Rattle.scan.proofs.next_component.Goals as goal

pub returns : goal.returns
returns c =
    let found : c.position.result ≡ position (λ x. not (is_name x)) c.args.text.now = position_from_yields_List (λ x. not (is_name x)) _ _ c.position.result c.position.ensures.ran (YieldsList-from_slice _ c.iter.ensures.rest) (λ x b q k. search (rules, tests)) in
    c.unwrap_or.ensures ∙ position_run is_name c.args.text.now found
