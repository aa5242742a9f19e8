-- `board_judge::Board::image` meets its contract. Assumes nothing.
use native.Mathlib.Omega.{arith}
use Rattle.board_laws.proofs.Calls.{laid}
use Rattle.board_layout.specs.Laid.{lent_of}
use Rattle.board_judge.proofs.Images.{slot_image}
use Rattle.board_judge.proofs.Board.image.Goals as goal

pub slot_at-slot-requires : goal.slot_at-slot-requires
slot_at-slot-requires c = omega (arith, c.requires, (laid (lent_of c.args.self.buffers) c.args.self.is_one).packs_most)

pub invariant_of-result : goal.invariant_of-result
invariant_of-result c = record { judged = rw (c.slot_at-slot.ensures.contents, c.slot_at-slot.ensures.bodies) (slot_image (lent_of c.args.self.buffers) c.args.self.is_one c.args.i c.requires) }
