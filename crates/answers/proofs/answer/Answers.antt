-- `answers::answer` meets its contract. Assumes nothing.
use mathlib.Core.List.{map}
use native.Mathlib.Omega.{arith}
use Rattle.definition.specs.Lists.{zeroes}
use Rattle.definition.specs.Limits.{contents_words, body_bytes}
use Rattle.answers.proofs.Showing.{looked}
use Rattle.answers.proofs.Telling.{answer_told_lem}
use Rattle.answers.proofs.answer.Goals as goal

pub value_of-requires : goal.value_of-requires
unfolding zeroes
value_of-requires c = (looked c.args.depth (map (λ x. x.now) c.args.texts.now) c.args.archive.now c.args.name.now c.args.class.now (zeroes contents_words) (zeroes body_bytes) _ _ _ c.look_up-found.ensures).1

pub tell-requires : goal.tell-requires
tell-requires c = (omega (arith, c.look_up-found.auto.bodies, c.value_of.ensures.1), c.requires)

pub returns : goal.returns
unfolding zeroes
returns c = answer_told_lem c.args.depth (map (λ x. x.now) c.args.texts.now) c.args.archive.now c.args.name.now c.args.class.now c.look_up-found.ensures c.value_of.ensures.0 c.tell.ensures
