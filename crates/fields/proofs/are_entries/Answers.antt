-- `fields::are_entries` meets its contract. Assumes nothing.
use native.Mathlib.Omega.{arith}
use Rattle.fields.proofs.Rows.{walk_begun, walk_ended, key_differs, value_differs, walk_next}
use Rattle.fields.proofs.are_entries.Goals as goal

pub loop-i-init : goal.loop-i-init
loop-i-init c = walk_begun _ _ _

pub returns-in_default : goal.returns-in_default
returns-in_default c =
    let p = rw c.in_default.is at c.pass_bytes.ensures in
    key_differs _ _ _ c.loop-i.invariant (omega (arith, c.loop-i-test.true, c.count-i-end.ensures.0)) _ c.key.ensures.0 p.0

pub returns-in_default-pass_bytes : goal.returns-in_default-pass_bytes
returns-in_default-pass_bytes c =
    let p = rw c.in-Some.is at c.pass_bytes.ensures in
    let q = rw c.in_default-pass_bytes.is at c.pass_bytes-in-loop-i.ensures in
    value_differs _ _ _ c.loop-i.invariant (omega (arith, c.loop-i-test.true, c.count-i-end.ensures.0)) _ c.key.ensures.0 _ p.0 _ c.value.ensures q.0

pub loop-i-preserved : goal.loop-i-preserved
loop-i-preserved c =
    let p = rw c.in-Some.is at c.pass_bytes.ensures in
    let q = rw c.in-Some-pass_bytes.is at c.pass_bytes-in-loop-i.ensures in
    walk_next _ _ _ c.loop-i.invariant (omega (arith, c.loop-i-test.true, c.count-i-end.ensures.0)) _ c.key.ensures.0 _ p.0 _ c.value.ensures _ q.0

pub returns : goal.returns
returns c = walk_ended _ _ _ c.loop-i.invariant (omega (arith, c.loop-i-test.false, c.count-i-end.ensures.0))
