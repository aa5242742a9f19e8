-- `answers_listed::list_image` meets its contract. Assumes nothing.
use mathlib.Core.Path.{sym, ap, ◌∙◌}
use native.Mathlib.Omega.{arith}
use lib.ListN.{length}
use Rattle.answers_listed.proofs.Telling.{lines_room, told_none, told_some, told_refused}
use Rattle.answers_listed.proofs.list_image.Goals as goal

pub put_walk-requires : goal.put_walk-requires
put_walk-requires c = (sym c.in-Ok.ensures, lines_room _ _ _ _ _ _ c.in-Ok.ensures _ c.args.archive.judged c.requires)

pub returns-then-written-before : goal.returns-then-written-before
returns-then-written-before c =
    told_none _ _ _ _ _ _ c.in-Ok.ensures c.put_walk.ensures
    (omega (arith, c.if-written-before.true, ap length c.written.ensures, ap length c.written-before.ensures)) c.put.ensures

pub returns-else-written-before : goal.returns-else-written-before
returns-else-written-before c =
    told_some _ _ _ _ _ _ c.in-Ok.ensures c.put_walk.ensures
    (λ e. c.if-written-before.false (ap length c.written.ensures ∙ e ∙ sym (ap length c.written-before.ensures)))

pub returns-in-Err : goal.returns-in-Err
returns-in-Err c = told_refused c.args.image.now.contents.now c.args.image.now.bodies.now c.args.archive.bytes.now c.args.name.now c.args.class.now c.args.image.now.judged _ c.in-Err.ensures c.refuse.ensures
