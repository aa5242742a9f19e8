-- `arguments::name_end` meets its contract. Assumes nothing.
use Rattle.std.proofs.Common.{rules, tests, ◌≡◌, ◌≤◌, ◌∙◌, ℕ, Bool, length, nat_eq, refl, sym, arith, length-take-le}
use Rattle.std.proofs.lemmas.Iterator.{YieldsList-from_slice}
use Rattle.std.proofs.lemmas.Iterator.Search.{position_from_yields_List}
use Rattle.std.specs.List.{position}
use Rattle.definition.specs.Lists.{take_while}
use Rattle.laws.proofs.Lists.{length_take_while_le}
use Rattle.scan.proofs.Bridges.{position_run_by}
use Rattle.arguments.specs.Planning.{not_equals}
use Rattle.arguments.proofs.name_end.Goals as goal

abbrev equals : ℕ → Bool
equals x = nat_eq x 61

pub returns : goal.returns
unfolding not_equals
returns c =
    let a = c.args.argument.now in
    let found : c.position.result ≡ position equals a = position_from_yields_List equals _ _ c.position.result c.position.ensures.ran (YieldsList-from_slice _ c.iter.ensures.rest) (λ x b q k. search (rules, tests)) in
    let is : c.unwrap_or.result ≡ length (take_while not_equals a) = c.unwrap_or.ensures ∙ position_run_by not_equals equals (λ x. refl) a found in
    let inside : c.unwrap_or.result ≤ length a = omega (arith, is, length_take_while_le not_equals a) in
    record { is = is; counts = (inside, sym (length-take-le _ _ inside)) }
