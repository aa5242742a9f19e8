-- `values::parse_value` meets its contract. The invariant is `Decoding`, and it holds behind each run too. Assumes nothing.
use native.Mathlib.Omega.{arith}
use Rattle.values.proofs.Decoding.{over, ended, decoded, run_more, run_full, escape_fits, escape_nothing, escape_full, escape_byte}
use Rattle.values.proofs.parse_value.Goals as goal
use Rattle.values.proofs.parse_value.Goals.{then-i-text-via-then-i-text, then-i-text-via-else-i-text+then-text-i-eq10, in-Some+else-end-store, in_default}

pub overflow_add-end : goal.overflow_add-end
overflow_add-end c =
    let run = run_more c.loop-i.invariant c.min-most.ensures c.copy_plain-n.ensures in
    omega (arith, run.in_store, run.kept, c.well_formed.1.1.0.0)

pub overflow_add-i-in-loop-i : goal.overflow_add-i-in-loop-i
overflow_add-i-in-loop-i c =
    omega (arith, (run_more c.loop-i.invariant c.min-most.ensures c.copy_plain-n.ensures).in_text, c.well_formed.1.0.0)

pub returns-then-i-text : goal.returns-then-i-text
returns-then-i-text c =
    let run = run_more c.loop-i.invariant c.min-most.ensures c.copy_plain-n.ensures in
    elim c.then-i-text.branch [
      | then-i-text-via-then-i-text w ↦ decoded run (over _ _ w.if-i-text.true)
      | then-i-text-via-else-i-text+then-text-i-eq10 w ↦ decoded run (ended _ _ w.if-i-text.false w.if-text-i-eq10.true)
    ]

pub returns-then-text-i-ne92 : goal.returns-then-text-i-ne92
returns-then-text-i-ne92 c = run_full c.loop-i.invariant c.min-most.ensures c.copy_plain-n.ensures c.if-i-text.false c.if-text-i-eq10.false c.if-text-i-ne92.true

pub returns-then-end-store : goal.returns-then-end-store
returns-then-end-store c =
    escape_full c.loop-i.invariant c.min-most.ensures c.copy_plain-n.ensures c.if-i-text.false c.if-text-i-ne92.false c.parse_escape-piece.ensures c.in-Some.is c.if-end-store.true

pub overflow_add-i-in-loop-i-3 : goal.overflow_add-i-in-loop-i-3
overflow_add-i-in-loop-i-3 c =
    omega (arith, escape_fits c.loop-i.invariant c.min-most.ensures c.copy_plain-n.ensures c.if-i-text.false c.if-text-i-ne92.false c.parse_escape-piece.ensures, c.well_formed.1.0.0)

pub loop-i-smaller : goal.loop-i-smaller
loop-i-smaller c =
    omega (arith, escape_fits c.loop-i.invariant c.min-most.ensures c.copy_plain-n.ensures c.if-i-text.false c.if-text-i-ne92.false c.parse_escape-piece.ensures)

pub loop-i-preserved : goal.loop-i-preserved
loop-i-preserved c =
    elim c.match-piece.branch [
      | in-Some+else-end-store w ↦ rw (w.store-is, w.end-is) (escape_byte c.loop-i.invariant c.min-most.ensures c.copy_plain-n.ensures c.if-i-text.false c.if-text-i-ne92.false c.parse_escape-piece.ensures w.in-Some.is w.if-end-store.false)
      | in_default w ↦ rw (w.store-is, w.end-is) (escape_nothing c.loop-i.invariant c.min-most.ensures c.copy_plain-n.ensures c.if-i-text.false c.if-text-i-ne92.false c.parse_escape-piece.ensures w.in_default.is)
    ]
