-- `key::split_key` meets its contract. The invariant is `Bounding`. Assumes nothing.
use Prim.Native.Nat.{◌≤◌, ◌<◌}
use native.Mathlib.Omega.{arith}
use lib.ListN.{length}
use Rattle.definition.specs.Limits.{most_parts}
use Rattle.laws.proofs.Keys.{parts_of}
use Rattle.key.proofs.Bounding.{begun, room, next_inside, more, ended}
use Rattle.key.proofs.split_key.Goals as goal
use Rattle.key.proofs.split_key.Goals.{After-part_end-at}

-- there is room for one more part, which ends in the key
next_fits : (c : After-part_end-at) → (c.loop-at.count < most_parts) × (c.part_end-at.result ≤ length c.args.key.now)
next_fits c =
    let K = parts_of _ c.requires.0 in
    let f = room K c.loop-at.invariant c.loop-at-test.true in
    let g = next_inside K c.loop-at.invariant c.loop-at-test.true in
    (omega (arith, K.few), omega (arith, c.part_end-at.ensures))

pub loop-at-init : goal.loop-at-init
loop-at-init c = begun (parts_of _ c.requires.0) _ c.requires.2

pub loop-at-preserved : goal.loop-at-preserved
loop-at-preserved c =
    more (parts_of _ c.requires.0) c.loop-at.invariant c.loop-at-test.true c.part_end-at.result
    c.part_end-at.ensures

pub overflow_add-count : goal.overflow_add-count
overflow_add-count c = omega (arith, next_fits (goal.at.overflow_add-count c).After-part_end-at)

pub overflow_cast-bounds : goal.overflow_cast-bounds
overflow_cast-bounds c = omega (arith, next_fits (goal.at.overflow_cast-bounds c).After-part_end-at, c.requires.1)

pub offset_bounds-bounds-count : goal.offset_bounds-bounds-count
offset_bounds-bounds-count c = omega (arith, next_fits (goal.at.offset_bounds-bounds-count c).After-part_end-at)

pub bounds-bounds-count : goal.bounds-bounds-count
bounds-bounds-count c = omega (arith, next_fits (goal.at.bounds-bounds-count c).After-part_end-at)

pub loop-at-smaller : goal.loop-at-smaller
loop-at-smaller c = omega (arith, next_fits (goal.at.loop-at-smaller c).After-part_end-at)

pub returns : goal.returns
returns c = ended (parts_of _ c.requires.0) c.loop-at.invariant c.loop-at-test.false
