-- `query::split_names` meets its contract. The invariant is `Splitting`. Assumes nothing.
use mathlib.Core.Path.{◌≡◌, sym, ◌∙◌}
use Prim.Native.Nat.{◌+◌, ◌-◌, ◌≤◌}
use native.Mathlib.Omega.{arith}
use lib.ListN.{length}
use Rattle.definition.specs.Limits.{query_bytes}
use Rattle.definition.specs.Bytes.{is_name}
use Rattle.laws.proofs.Lists.{length_take_while_le}
use Rattle.query.proofs.Splitting.{begun, as_long, lengths_as_long, shorter, past, more}
use Rattle.query.proofs.Queries.{parsed_long, kept_none, lengths_none, kept_found, lengths_found, parsed_malformed, parsed_many, parsed_good}
use Rattle.query.proofs.split_names.Goals as goal
use Rattle.query.proofs.split_names.Goals.{then-count-starts, else-count-starts}

pub returns-then-text-most : goal.returns-then-text-most
returns-then-text-most c = (
  parsed_long c.args.most c.args.text.now c.args.starts.now c.if-text-most.true,
  kept_none c.args.most c.args.text.now c.args.starts.now c.if-text-most.true,
  lengths_none c.args.most c.args.text.now c.args.lengths.now c.if-text-most.true,
)

pub loop-n-smaller : goal.loop-n-smaller
loop-n-smaller c = omega (arith, c.if-n-eq0.false, shorter c.loop-n.invariant c.next_component-n.ensures c.if-n-eq0.false c.skip_byte-rest.ensures.0)

pub loop-n-preserved : goal.loop-n-preserved
loop-n-preserved c =
    elim c.if-count-starts.branch [
      | then-count-starts o ↦ rw (o.starts-is, o.lengths-is) (more c.loop-n.invariant c.next_component-n.ensures c.if-n-eq0.false c.skip_byte-rest.ensures.0 c.requires.1 (omega (arith, o.if-count-starts.true, as_long c.loop-n.invariant)))
      | else-count-starts o ↦ rw (o.starts-is, o.lengths-is) (past c.loop-n.invariant c.next_component-n.ensures c.if-n-eq0.false c.skip_byte-rest.ensures.0 c.requires.1 (omega (arith, o.if-count-starts.false, as_long c.loop-n.invariant)))
    ]

pub returns-then-rest-gt0 : goal.returns-then-rest-gt0
returns-then-rest-gt0 c =
    let z = sym c.next_component-n.ensures ∙ c.if-n-eq0.true in (
      parsed_malformed _ c.loop-n.invariant c.if-text-most.false c.if-rest-gt0.true z,
      kept_found _ c.loop-n.invariant c.if-text-most.false z,
      lengths_found _ c.loop-n.invariant c.if-text-most.false z,
    )

pub returns-then-starts-count : goal.returns-then-starts-count
returns-then-starts-count c =
    let z = sym c.next_component-n.ensures ∙ c.if-n-eq0.true in (
      parsed_many _ c.loop-n.invariant c.if-text-most.false (omega arith) (omega (arith, c.if-starts-count.true, as_long c.loop-n.invariant)),
      kept_found _ c.loop-n.invariant c.if-text-most.false z,
      lengths_found _ c.loop-n.invariant c.if-text-most.false z,
    )

pub returns : goal.returns
returns c =
    let z = sym c.next_component-n.ensures ∙ c.if-n-eq0.true in (
      parsed_good _ c.loop-n.invariant c.if-text-most.false c.if-rest-gt0.false (omega (arith, c.if-starts-count.false, as_long c.loop-n.invariant)),
      kept_found _ c.loop-n.invariant c.if-text-most.false z,
      lengths_found _ c.loop-n.invariant c.if-text-most.false z,
    )

pub loop-n-init : goal.loop-n-init
loop-n-init c = begun _ _ _

pub overflow_sub-starts : goal.overflow_sub-starts
overflow_sub-starts c =
    let run_in : c.next_component-n.result ≤ length c.loop-n.rest.now = omega (arith, c.next_component-n.ensures, length_take_while_le is_name c.loop-n.rest.now) in
    let part_in : length c.args.text.now - length c.loop-n.rest.now + c.next_component-n.result ≤ query_bytes = omega (arith, run_in, c.loop-n.invariant.parts_found.suffix.most, c.if-text-most.false, c.requires.0) in
    omega (arith, part_in)

pub overflow_cast-starts : goal.overflow_cast-starts
overflow_cast-starts c =
    let run_in : c.next_component-n.result ≤ length c.loop-n.rest.now = omega (arith, c.next_component-n.ensures, length_take_while_le is_name c.loop-n.rest.now) in
    let part_in : length c.args.text.now - length c.loop-n.rest.now + c.next_component-n.result ≤ query_bytes = omega (arith, run_in, c.loop-n.invariant.parts_found.suffix.most, c.if-text-most.false, c.requires.0) in
    omega (arith, part_in)

pub overflow_cast-lengths : goal.overflow_cast-lengths
overflow_cast-lengths c =
    let run_in : c.next_component-n.result ≤ length c.loop-n.rest.now = omega (arith, c.next_component-n.ensures, length_take_while_le is_name c.loop-n.rest.now) in
    let part_in : length c.args.text.now - length c.loop-n.rest.now + c.next_component-n.result ≤ query_bytes = omega (arith, run_in, c.loop-n.invariant.parts_found.suffix.most, c.if-text-most.false, c.requires.0) in
    omega (arith, part_in)

pub offset_bounds-lengths-count : goal.offset_bounds-lengths-count
offset_bounds-lengths-count c =
    let room : length c.loop-n.lengths ≡ length c.loop-n.starts = omega (arith, as_long c.loop-n.invariant, lengths_as_long c.loop-n.invariant, c.requires.1) in
    omega (arith, room)

pub bounds-lengths-count : goal.bounds-lengths-count
bounds-lengths-count c =
    let room : length c.loop-n.lengths ≡ length c.loop-n.starts = omega (arith, as_long c.loop-n.invariant, lengths_as_long c.loop-n.invariant, c.requires.1) in
    omega (arith, room)

pub slice_bounds-skip_byte-count : goal.slice_bounds-skip_byte-count
slice_bounds-skip_byte-count c =
    let run_in : c.next_component-n.result ≤ length c.loop-n.rest.now = omega (arith, c.next_component-n.ensures, length_take_while_le is_name c.loop-n.rest.now) in
    omega (arith, run_in)

pub slice_bounds-skip_byte-start : goal.slice_bounds-skip_byte-start
slice_bounds-skip_byte-start c =
    let run_in : c.next_component-n.result ≤ length c.loop-n.rest.now = omega (arith, c.next_component-n.ensures, length_take_while_le is_name c.loop-n.rest.now) in
    omega (arith, run_in)

pub slice_bounds-skip_byte-end : goal.slice_bounds-skip_byte-end
slice_bounds-skip_byte-end c =
    let run_in : c.next_component-n.result ≤ length c.loop-n.rest.now = omega (arith, c.next_component-n.ensures, length_take_while_le is_name c.loop-n.rest.now) in
    omega (arith, run_in)

pub shape_of-starts-then-rest-gt0 : goal.shape_of-starts-then-rest-gt0
shape_of-starts-then-rest-gt0 c = as_long c.loop-n.invariant

pub shape_of-lengths-then-rest-gt0 : goal.shape_of-lengths-then-rest-gt0
shape_of-lengths-then-rest-gt0 c = lengths_as_long c.loop-n.invariant

pub shape_of-starts-then-starts-count : goal.shape_of-starts-then-starts-count
shape_of-starts-then-starts-count c = as_long c.loop-n.invariant

pub shape_of-lengths-then-starts-count : goal.shape_of-lengths-then-starts-count
shape_of-lengths-then-starts-count c = lengths_as_long c.loop-n.invariant

pub shape_of-starts : goal.shape_of-starts
shape_of-starts c = as_long c.loop-n.invariant

pub shape_of-lengths : goal.shape_of-lengths
shape_of-lengths c = lengths_as_long c.loop-n.invariant
