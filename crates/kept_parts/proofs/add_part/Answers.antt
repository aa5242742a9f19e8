-- `kept_parts::add_part` meets its contract. Assumes nothing.
use mathlib.Core.Path.{sym, ap, ◌∙◌}
use native.Mathlib.Omega.{arith}
use lib.ListN.{length}
use Rattle.kept_parts.specs.Keeping.{kept}
use Rattle.kept_parts.proofs.Storing.{room_most, added_room, added_over}
use Rattle.kept_parts.proofs.add_part.Goals as goal

pub put_below-requires : goal.put_below-requires
put_below-requires c = omega (arith, c.requires, room_most c.args.kept (length c.args.part.now) (sym c.has_room.ensures ∙ c.if-has_room.true))

pub returns-then-has_room : goal.returns-then-has_room
returns-then-has_room c =
    let added = added_room c.args.part.now c.args.kept c.args.path.now (sym c.has_room.ensures ∙ c.if-has_room.true) in
    (ap (λ n. kept n 0 _) c.end_below.ensures ∙ added.0, c.put_below.ensures ∙ added.1)

pub returns : goal.returns
returns c = added_over c.args.part.now c.args.kept c.args.path.now (sym c.has_room.ensures ∙ c.if-has_room.false)
