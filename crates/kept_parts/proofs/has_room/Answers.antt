-- `kept_parts::has_room` meets its contract. Assumes nothing.
use Rattle.kept_parts.proofs.Storing.{no_room, room_is}
use Rattle.kept_parts.proofs.has_room.Goals as goal

pub returns : goal.returns
returns c = room_is _ _ c.if-kept-gt0.false c.end_below.ensures

pub returns-then-kept-gt0 : goal.returns-then-kept-gt0
returns-then-kept-gt0 c = no_room _ _ c.if-kept-gt0.true
