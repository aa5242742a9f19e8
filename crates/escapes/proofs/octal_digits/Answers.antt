-- `escapes::octal_digits` meets its contract. Assumes nothing.
use Rattle.std.proofs.Common.{rules, tests, ◌≡◌, ◌∙◌, ap, List, ℕ, length, take, not}
use Rattle.std.proofs.lemmas.Iterator.{YieldsList-from_slice}
use Rattle.std.proofs.lemmas.Iterator.Search.{position_from_yields_List}
use Rattle.std.specs.List.{position}
use Rattle.definition.specs.Lists.{take_while}
use Rattle.definition.specs.Bytes.{is_octal}
use Rattle.scan.proofs.Bridges.{position_run}
use Rattle.escapes.proofs.Escapes.{three_most}
use Rattle.escapes.proofs.octal_digits.Goals as goal

pub returns : goal.returns
returns c =
    let first : List ℕ = take c.min.result c.args.text.now in
    let found : c.position.result ≡ position (λ x. not (is_octal x)) first = position_from_yields_List (λ x. not (is_octal x)) _ _ c.position.result c.position.ensures.ran (YieldsList-from_slice _ c.iter.ensures.rest) (λ x b q k. search (rules, tests)) in
    c.unwrap_or.ensures ∙ position_run is_octal first found ∙ ap (λ (t : List ℕ). length (take_while is_octal t)) (rw c.min.ensures (three_most c.args.text.now))
