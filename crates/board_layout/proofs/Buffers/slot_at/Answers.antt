-- `board_layout::Buffers::slot_at` meets its contract. Assumes nothing.
use Rattle.board_layout.specs.Laid.{lent_of}
use Rattle.board_layout.proofs.Parts.{contents_part, bodies_part}
use Rattle.board_layout.proofs.Buffers.slot_at.Goals as goal

pub returns-clause-contents : goal.returns-clause-contents
returns-clause-contents c = contents_part (lent_of c.args.self) _ _ _ c.slot_start-at.ensures c.slot_start-next.ensures

pub returns-clause-bodies : goal.returns-clause-bodies
returns-clause-bodies c = bodies_part (lent_of c.args.self) _ _ _ c.body_start-first.ensures c.body_start-end.ensures
