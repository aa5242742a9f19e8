-- `matcher::match_key` meets its contract: more parts than positions, or the row of the last part at the last position. The outer invariant
-- is `Passing`, the inner one `Turning`. Assumes nothing.
use mathlib.Core.Path.{◌≡◌, refl, sym, ap, ◌∙◌}
use Prim.Native.Nat.{◌+◌, ◌-◌, ◌<◌, max}
use native.Mathlib.Omega.{arith}
use lib.ListN.{length}
use Rattle.definition.specs.Limits.{query_parts}
use Rattle.laws.proofs.Ranks.{rank_short}
use Rattle.key.specs.Keys.{Bounded}
use Rattle.key.proofs.Bounds.{bounded}
use Rattle.positions.specs.Parts.{position_of, positions_in}
use Rattle.positions.proofs.Positions.{length_queried, queried_at, queried_last}
use Rattle.marks.specs.Rows.{marks_of}
use Rattle.marks.proofs.Rows.{mark_digit}
use Rattle.matcher.proofs.Walking.{key_some, passing_first, bounds_at, rows_roomy, turning_next, first_roomy, passing_next, last_bounds, last_roomy, passing_last}
use Rattle.matcher.proofs.match_key.Goals as goal
use Rattle.matcher.proofs.match_key.Goals.{After-split_key-count, Else-len-count}

-- the key's parts stand between its bounds
key_bounds : (c : After-split_key-count) → Bounded c.args.key.now c.split_key-count.new.bounds c.split_key-count.result
key_bounds c = bounded _ _ _ _ c.requires.0 refl c.split_key-count.ensures.0 c.split_key-count.ensures.1

-- how many positions the query has
long : (c : After-split_key-count) → length (positions_in c.args.name.now c.args.class.now) ≡ max (length c.args.name.now.starts.now) (length c.args.class.now.starts.now)
long c = length_queried _ _ _ _ _ _

-- the last one is theirs, and a mark can stand there
last_is : (c : Else-len-count) → c.count_positions-len.result - 1 + 1 ≡ max (length c.args.name.now.starts.now) (length c.args.class.now.starts.now)
last_is c = omega (arith, c.count_positions-len.ensures, c.if-len-count.false, key_some c.args.key.now c.requires.0)

last_small : (c : Else-len-count) → c.count_positions-len.result - 1 < query_parts
last_small c = omega (arith, last_is c, c.args.name.now.inside.few, c.args.class.now.inside.few)

pub returns-then-len-count : goal.returns-then-len-count
returns-then-len-count c =
    let at = (goal.at.returns-then-len-count c).After-split_key-count in
    c.no_row.ensures ∙ ap marks_of (sym (rank_short _ _ (omega (arith, long at, c.count_positions-len.ensures, c.if-len-count.true, c.split_key-count.ensures.0))))

pub bounds-key-0 : goal.bounds-key-0
bounds-key-0 c =
    let B = key_bounds (goal.at.bounds-key-0 c).After-split_key-count in
    omega (arith, B.rises 0 B.some, B.inside 1 B.some)

pub overflow_cast-last_b : goal.overflow_cast-last_b
overflow_cast-last_b c =
    let b = last_bounds _ _ _ (key_bounds (goal.at.overflow_cast-last_b c).After-split_key-count) in
    omega (arith, b.0, b.1, c.requires.1)

pub overflow_cast-last_e : goal.overflow_cast-last_e
overflow_cast-last_e c =
    let b = last_bounds _ _ _ (key_bounds (goal.at.overflow_cast-last_e c).After-split_key-count) in
    omega (arith, b.1, c.requires.1)

pub mark-m-requires : goal.mark-m-requires
mark-m-requires c = last_bounds _ _ _ (key_bounds (goal.at.mark-m-requires c).After-split_key-count)

pub positions-init : goal.positions-init
positions-init c =
    (omega arith, passing_first _ _ _ (key_bounds (goal.at.positions-init c).After-split_key-count) _ _ _ c.no_row-blank.ensures c.first_row-first.ensures)

pub next_row-r-requires : goal.next_row-r-requires
next_row-r-requires c =
    let at = goal.at.next_row-r-requires c in
    let B = key_bounds at.After-split_key-count in
    let room : c.positions.p < query_parts = omega (arith, c.positions.invariant.0, last_small at.Else-len-count) in
    let b = bounds_at _ _ _ B _ _ _ _ c.parts.i c.parts.invariant c.parts-test.true in
    let r = rows_roomy _ _ _ B _ _ _ _ c.parts.i c.parts.invariant c.parts-test.true room c.positions.invariant.1.stands in
    (b.0, b.1, r.0, r.1)

pub parts-preserved : goal.parts-preserved
parts-preserved c =
    turning_next _ _ _ (key_bounds (goal.at.parts-preserved c).After-split_key-count) _ _ _ _ c.parts.i c.parts.invariant c.parts-test.true c.positions.invariant.1.stands _ c.next_row-r.ensures

pub skip_loose-r-requires : goal.skip_loose-r-requires
skip_loose-r-requires c =
    let at = goal.at.skip_loose-r-requires c in
    let room : c.positions.p < query_parts = omega (arith, c.positions.invariant.0, last_small at.Else-len-count) in
    first_roomy _ _ _ (key_bounds at.After-split_key-count) _ _ _ _ _ _ room c.positions.invariant.1 c.parts.invariant

pub positions-preserved : goal.positions-preserved
positions-preserved c =
    let at = goal.at.positions-preserved c in
    let last = last_is at.Else-len-count in (
      omega (arith, c.positions-test.true),
      passing_next c.args.key.now _ _ (key_bounds at.After-split_key-count) _ _ _ _ _ _ c.positions.invariant.1 c.parts.invariant c.parts-test.false
          (queried_at _ _ _ _ _ _ c.args.name.now.inside c.args.class.now.inside c.positions.p (omega (arith, last, c.positions-test.true)) _ _ c.part_at-n.ensures c.part_at-c.ensures)
          (omega (arith, last, c.positions-test.true, long at.After-split_key-count)) _ c.skip_loose-r.ensures,
    )

pub step-requires : goal.step-requires
step-requires c =
    let at = goal.at.step-requires c in
    let at_last : c.positions.p ≡ c.count_positions-len.result - 1 = omega (arith, c.positions.invariant.0, c.positions-test.false) in
    (last_roomy c.args.key.now _ _ (key_bounds at.After-split_key-count) _ _ _ (last_small at.Else-len-count) (rw at_last at c.positions.invariant.1), mark_digit _ _ _ c.mark-m.ensures)

pub returns : goal.returns
returns c =
    let at = goal.at.returns c in
    let at_last : c.positions.p ≡ c.count_positions-len.result - 1 = omega (arith, c.positions.invariant.0, c.positions-test.false) in
    passing_last c.args.key.now _ _ (key_bounds at.After-split_key-count) _ _ c.positions.rows (position_of c.part_at-last_n.result.now c.part_at-last_c.result.now) _ _
    (rw at_last at c.positions.invariant.1)
    (queried_last _ _ _ _ _ _ c.args.name.now.inside c.args.class.now.inside _ (last_is at.Else-len-count) _ _ c.part_at-last_n.ensures c.part_at-last_c.ensures)
    c.mark-m.ensures c.step.ensures
