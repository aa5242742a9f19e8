-- `answers_without::compare_file` meets its contract. Assumes nothing.
use mathlib.Core.List.{map}
use native.Mathlib.Omega.{arith}
use Rattle.definition.specs.Lists.{zeroes}
use Rattle.answers_without.proofs.Twice.{both_inside, both_told_lem, none_told, refused_told}
use Rattle.answers_without.proofs.compare_file.Goals as goal

pub value_of-a-requires : goal.value_of-a-requires
value_of-a-requires c = (both_inside _ _ _ _ _ _ _ c.in-Some.both (rw (c.in-Ok.is, c.in-Some.is) at c.compare_without-compared.ensures.equals)).0

pub value_of-b-requires : goal.value_of-b-requires
value_of-b-requires c = (both_inside _ _ _ _ _ _ _ c.in-Some.both (rw (c.in-Ok.is, c.in-Some.is) at c.compare_without-compared.ensures.equals)).1

pub tell_both-requires : goal.tell_both-requires
tell_both-requires c =
    (c.requires.0, omega (arith, c.compare_without-compared.auto.bodies, c.value_of-a.ensures.1), omega (arith, c.compare_without-compared.auto.bodies_without, c.value_of-b.ensures.1), c.requires.1)

pub returns-in-Some : goal.returns-in-Some
unfolding zeroes
returns-in-Some c =
    both_told_lem c.args.depth (map (λ c. c.now) c.args.texts.now) c.args.archive.now c.args.number c.args.file.now c.args.name.now c.args.class.now c.in-Some.both
    (rw (c.in-Ok.is, c.in-Some.is) at c.compare_without-compared.ensures.equals) c.value_of-a.ensures.0 c.value_of-b.ensures.0 c.tell_both.ensures

pub returns-in-None : goal.returns-in-None
unfolding zeroes
returns-in-None c = none_told c.args.depth (map (λ c. c.now) c.args.texts.now) c.args.archive.now c.args.number c.args.file.now c.args.name.now c.args.class.now (rw (c.in-Ok.is, c.in-None.is) at c.compare_without-compared.ensures.equals) c.no_file.ensures

pub returns-in-Err : goal.returns-in-Err
unfolding zeroes
returns-in-Err c = refused_told c.args.depth (map (λ c. c.now) c.args.texts.now) c.args.archive.now c.args.number c.args.file.now c.args.name.now c.args.class.now _ (rw c.in-Err.is at c.compare_without-compared.ensures.equals) c.refuse.ensures
