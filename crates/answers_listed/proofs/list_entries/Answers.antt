-- `answers_listed::list_entries` meets its contract. Assumes nothing.
use mathlib.Core.List.{map}
use Rattle.definition.specs.Lists.{zeroes}
use Rattle.answers_listed.proofs.Telling.{read_image, list_told_lem, refused_told}
use Rattle.answers_listed.proofs.list_entries.Goals as goal

pub invariant_of-image : goal.invariant_of-image
unfolding zeroes
invariant_of-image c = record { judged = (read_image c.args.depth (map (λ c. c.now) c.args.texts.now) c.args.archive.now c.args.name.now c.args.class.now _ _ c.in-Ok.ensures).0 }

pub invariant_of-judged : goal.invariant_of-judged
unfolding zeroes
invariant_of-judged c = record { judged = (read_image c.args.depth (map (λ c. c.now) c.args.texts.now) c.args.archive.now c.args.name.now c.args.class.now _ _ c.in-Ok.ensures).1 }

pub returns-in-Ok : goal.returns-in-Ok
unfolding zeroes
returns-in-Ok c = list_told_lem c.args.depth (map (λ c. c.now) c.args.texts.now) c.args.archive.now c.args.name.now c.args.class.now _ _ c.in-Ok.ensures c.list_image.ensures

pub returns-in-Err : goal.returns-in-Err
unfolding zeroes
returns-in-Err c = refused_told c.args.depth (map (λ c. c.now) c.args.texts.now) c.args.archive.now c.args.name.now c.args.class.now _ c.in-Err.ensures c.refuse.ensures
