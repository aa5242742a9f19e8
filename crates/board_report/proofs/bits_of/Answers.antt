-- `board_report::bits_of` meets its contract: the bits of the queries from q on. Assumes nothing.
use native.Mathlib.Omega.{arith}
use Rattle.board_laws.proofs.Calls.{laid}
use Rattle.board_layout.specs.Laid.{lent_of}
use Rattle.board_report.proofs.Reporting.{bits_first, bits_more, bits_fit, bits_end}
use Rattle.board_report.proofs.bits_of.Goals as goal

pub loop-q-init : goal.loop-q-init
loop-q-init c = bits_first _ _

pub changes-requires : goal.changes-requires
changes-requires c = (c.requires.0, omega (arith, c.requires.1, c.loop-q.invariant.most, c.loop-q-test.true))

pub with_bit-bits-requires : goal.with_bit-bits-requires
with_bit-bits-requires c =
    bits_fit _ _ _ _ c.loop-q.invariant (omega arith) (omega (arith, c.requires.1, (laid (lent_of c.args.board.buffers) c.args.board.is_one).queries_most))

pub loop-q-preserved : goal.loop-q-preserved
loop-q-preserved c = bits_more _ _ _ _ c.loop-q.invariant (omega arith) _ (rw c.changes.ensures at c.with_bit-bits.ensures)

pub returns : goal.returns
returns c = bits_end _ _ _ _ c.loop-q.invariant (omega arith)
