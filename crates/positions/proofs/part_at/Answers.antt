-- `positions::part_at` meets its contract. Assumes nothing.
use Prim.Native.Nat.{◌+◌, ◌≤◌}
use native.Mathlib.Omega.{arith}
use lib.ListN.{length, get_or}
use Rattle.positions.proofs.Positions.{part_between, part_past}
use Rattle.positions.proofs.part_at.Goals as goal

pub returns-then-i-starts : goal.returns-then-i-starts
returns-then-i-starts c = part_between c.args.names.now.text.now c.args.names.now.starts.now c.args.names.now.lengths.now c.args.i c.if-i-starts.true

pub returns : goal.returns
returns c = part_past c.args.names.now.text.now c.args.names.now.starts.now c.args.names.now.lengths.now c.args.i c.if-i-starts.false

pub overflow_cast-start : goal.overflow_cast-start
overflow_cast-start c = omega (arith, c.args.names.now.inside.within c.args.i c.if-i-starts.true)

pub overflow_cast-end : goal.overflow_cast-end
overflow_cast-end c = omega (arith, c.args.names.now.inside.within c.args.i c.if-i-starts.true)

pub overflow_add-end : goal.overflow_add-end
overflow_add-end c = omega (arith, c.args.names.now.inside.within c.args.i c.if-i-starts.true)

pub slice_bounds-result-end : goal.slice_bounds-result-end
slice_bounds-result-end c =
    let part_end : get_or c.args.names.now.starts.now c.args.i 0 + get_or c.args.names.now.lengths.now c.args.i 0 ≤ length c.args.names.now.text.now = c.args.names.now.inside.within c.args.i c.if-i-starts.true in
    omega (arith, part_end)
