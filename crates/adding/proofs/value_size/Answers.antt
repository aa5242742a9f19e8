-- `adding::value_size` meets its contract. The invariant: the bytes so far and those that the text from here on gives. Assumes nothing.
use mathlib.Core.Path.{sym}
use native.Mathlib.Omega.{arith}
use lib.ListN.{drop}
use Rattle.values.proofs.Pieces.{IsPiece}
use Rattle.values.proofs.Decoding.{escape_there}
use Rattle.adding.proofs.Sizes.{measuring_first, measured_all, measured_line, piece_inside, measuring_piece, measuring_none, measuring_plain}
use Rattle.adding.proofs.value_size.Goals as goal
use Rattle.adding.proofs.value_size.Goals.{After-parse_escape-piece}

-- the piece is the one that stands here
there : (c : After-parse_escape-piece) → IsPiece (drop c.loop-i.i c.args.text.now) c.parse_escape-piece.result
there c = escape_there _ _ c.loop-i-test.true c.if-c-ne92.false c.parse_escape-piece.ensures

pub loop-i-init : goal.loop-i-init
loop-i-init c = measuring_first _

pub returns-then-c-eq10 : goal.returns-then-c-eq10
returns-then-c-eq10 c = measured_line c.loop-i.invariant c.loop-i-test.true c.if-c-eq10.true

pub loop-i-preserved-then-c-ne92 : goal.loop-i-preserved-then-c-ne92
loop-i-preserved-then-c-ne92 c = measuring_plain c.loop-i.invariant c.loop-i-test.true c.if-c-eq10.false c.if-c-ne92.true

pub overflow_add-i-in-loop-i-2 : goal.overflow_add-i-in-loop-i-2
overflow_add-i-in-loop-i-2 c =
    let piece = there (goal.at.overflow_add-i-in-loop-i-2 c).After-parse_escape-piece in
    omega (arith, piece_inside c.loop-i.invariant piece.0)

pub loop-i-smaller-then-is_some : goal.loop-i-smaller-then-is_some
loop-i-smaller-then-is_some c =
    let piece = there (goal.at.loop-i-smaller-then-is_some c).After-parse_escape-piece in
    omega (arith, c.loop-i-test.true, piece.1)

pub loop-i-preserved-then-is_some : goal.loop-i-preserved-then-is_some
loop-i-preserved-then-is_some c =
    let piece = there (goal.at.loop-i-preserved-then-is_some c).After-parse_escape-piece in
    measuring_piece c.loop-i.invariant _ piece (sym c.if-is_some.ensures)

pub loop-i-smaller : goal.loop-i-smaller
loop-i-smaller c =
    let piece = there (goal.at.loop-i-smaller c).After-parse_escape-piece in
    omega (arith, c.loop-i-test.true, piece.1)

pub loop-i-preserved : goal.loop-i-preserved
loop-i-preserved c =
    let piece = there (goal.at.loop-i-preserved c).After-parse_escape-piece in
    measuring_none c.loop-i.invariant _ piece (sym c.if-is_some.ensures)

pub returns : goal.returns
returns c = measured_all c.loop-i.invariant c.loop-i-test.false
