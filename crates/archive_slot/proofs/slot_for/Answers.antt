-- `archive_slot::slot_for` meets its contract. The invariant: the place of the name is that among the files from file j on, after those passed. Assumes nothing.
use mathlib.Core.Path.{sym, ◌∙◌}
use native.Mathlib.Omega.{arith}
use Rattle.archive.proofs.Walk.{counted, walking_in}
use Rattle.archive_slot.proofs.Slots.{seeking_first, seeking_next, seeking_here, seeking_taken, seeking_done}
use Rattle.archive_slot.proofs.slot_for.Goals as goal

pub loop-j-init : goal.loop-j-init
loop-j-init c = rw c.lengths_at-at.ensures (seeking_first c.args.archive.bytes.now c.args.name.now c.count-count.result (counted c.args.archive.bytes.now c.count-count.ensures) c.args.archive.judged)

pub returns-then-lower : goal.returns-then-lower
returns-then-lower c = seeking_here c.loop-j.invariant c.loop-j-test.true c.member_at-member.ensures (sym c.lower.ensures ∙ c.if-not-lower.true) (sym c.lower-then-not-lower.ensures ∙ c.if-lower.true)

pub returns-then-not-lower : goal.returns-then-not-lower
returns-then-not-lower c = seeking_taken c.loop-j.invariant c.loop-j-test.true c.member_at-member.ensures (sym c.lower.ensures ∙ c.if-not-lower.true) (sym c.lower-then-not-lower.ensures ∙ c.if-lower.false)

pub loop-j-preserved : goal.loop-j-preserved
loop-j-preserved c = seeking_next c.loop-j.invariant c.loop-j-test.true c.member_at-member.ensures (sym c.lower.ensures ∙ c.if-not-lower.false)

pub returns : goal.returns
returns c = seeking_done c.loop-j.invariant c.loop-j-test.false

pub slice_bounds-here-count : goal.slice_bounds-here-count
slice_bounds-here-count c = omega (arith, walking_in c.loop-j.invariant.walk c.loop-j-test.true c.member_at-member.ensures)

pub slice_bounds-here-start : goal.slice_bounds-here-start
slice_bounds-here-start c = omega (arith, walking_in c.loop-j.invariant.walk c.loop-j-test.true c.member_at-member.ensures)

pub slice_bounds-here-end : goal.slice_bounds-here-end
slice_bounds-here-end c = omega (arith, walking_in c.loop-j.invariant.walk c.loop-j-test.true c.member_at-member.ensures)
