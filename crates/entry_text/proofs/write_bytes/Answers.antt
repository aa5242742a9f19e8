-- `entry_text::write_bytes` meets its contract. The invariant is `Writing`, and it holds behind each run too. Assumes nothing.
use native.Mathlib.Omega.{arith}
use Rattle.entry_text.proofs.Texts.{writing_first, run_room, run_written, run_stopped, escape_room, escape_written, all_written}
use Rattle.entry_text.proofs.write_bytes.Goals as goal

pub write_escape-end-requires : goal.write_escape-end-requires
write_escape-end-requires c =
    let run = run_written c.loop-i.invariant c.requires _ _ c.copy_plain-n.ensures.0 c.copy_plain-n.ensures.1 in
    (run_stopped c.loop-i.invariant c.requires _ _ c.copy_plain-n.ensures.0 c.copy_plain-n.ensures.1 c.if-i-value.false, escape_room run c.requires c.if-i-value.false)

pub loop-i-preserved : goal.loop-i-preserved
loop-i-preserved c =
    let run = run_written c.loop-i.invariant c.requires _ _ c.copy_plain-n.ensures.0 c.copy_plain-n.ensures.1 in
    escape_written run c.requires c.if-i-value.false c.write_escape-end.ensures

pub loop-i-init : goal.loop-i-init
loop-i-init c = writing_first _ _ _

pub slice_bounds-copy_plain-count : goal.slice_bounds-copy_plain-count
slice_bounds-copy_plain-count c = c.loop-i.invariant.inside

pub copy_plain-n-requires : goal.copy_plain-n-requires
copy_plain-n-requires c = run_room c.loop-i.invariant c.requires

pub overflow_add-end : goal.overflow_add-end
overflow_add-end c =
    let run = run_written c.loop-i.invariant c.requires _ _ c.copy_plain-n.ensures.0 c.copy_plain-n.ensures.1 in
    omega (arith, run.walk.place, c.requires)

pub overflow_add-i : goal.overflow_add-i
overflow_add-i c =
    let run = run_written c.loop-i.invariant c.requires _ _ c.copy_plain-n.ensures.0 c.copy_plain-n.ensures.1 in
    omega (arith, run.inside)

pub shape_of-text-then-i-value : goal.shape_of-text-then-i-value
shape_of-text-then-i-value c =
    let run = run_written c.loop-i.invariant c.requires _ _ c.copy_plain-n.ensures.0 c.copy_plain-n.ensures.1 in
    run.walk.same_length

pub returns-then-i-value : goal.returns-then-i-value
returns-then-i-value c =
    let run = run_written c.loop-i.invariant c.requires _ _ c.copy_plain-n.ensures.0 c.copy_plain-n.ensures.1 in
    all_written run c.requires c.if-i-value.true

pub overflow_add-i-in-loop-i : goal.overflow_add-i-in-loop-i
overflow_add-i-in-loop-i c = omega (arith, c.if-i-value.false)

pub loop-i-smaller : goal.loop-i-smaller
loop-i-smaller c = omega (arith, c.if-i-value.false)
