use borrow.Author.Rules.{rules}
use mathlib.Core.Path.{refl, sym, ◌∙◌}
use Prim.Native.Nat.{◌<◌}
use native.Mathlib.Omega.{arith}
use lib.ListN.{length}
use Rattle.std.proofs.lemmas.Bool.Decides.{nat_tests}
use Rattle.laws.proofs.Lists.{length_part_rest}
use Rattle.utf8.proofs.Characters.{utf8_more, utf8_stop, utf8_end}
use Rattle.utf8.proofs.is_utf8.Goals as goal

pub loop-rest-init : goal.loop-rest-init
loop-rest-init c = refl

pub returns-in_default : goal.returns-in_default
returns-in_default c = sym (c.loop-rest.invariant ∙ utf8_stop c.loop-rest.rest.now (search rules) c.in_default.ensures)

pub loop-rest-smaller : goal.loop-rest-smaller
loop-rest-smaller c =
    let h : 0 < length c.loop-rest.rest.now = search rules in
    omega (arith, length_part_rest c.loop-rest.rest.now c.in-Some.n, c.in-Some.ensures.some_byte)

pub loop-rest-preserved : goal.loop-rest-preserved
loop-rest-preserved c = c.loop-rest.invariant ∙ utf8_more c.loop-rest.rest.now c.in-Some.n c.in-Some.ensures

pub returns : goal.returns
returns c = sym (c.loop-rest.invariant ∙ utf8_end c.loop-rest.rest.now (grind (arith, nat_tests)))
