-- `board_answer::place_of` meets its contract. Assumes nothing.
use native.Mathlib.Omega.{arith}
use Rattle.board_laws.proofs.Calls.{laid}
use Rattle.board_layout.specs.Laid.{lent_of}
use Rattle.board_answer.proofs.Answering.{place_is}
use Rattle.board_answer.proofs.place_of.Goals as goal

pub image-requires : goal.image-requires
image-requires c = c.requires.slot

pub row-row-requires : goal.row-row-requires
row-row-requires c = rw c.image.ensures.0 c.requires.row

pub slot_at-requires : goal.slot_at-requires
slot_at-requires c = omega (arith, c.requires.slot, (laid (lent_of c.args.board.buffers) c.args.board.is_one).packs_most)

pub returns : goal.returns
returns c = place_is (lent_of c.args.board.buffers) c.args.number c.row-row.result (rw c.image.ensures.0 at c.row-row.ensures) _ c.slot_at.ensures.number
