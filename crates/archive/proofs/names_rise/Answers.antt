-- `archive::names_rise` meets its contract. The invariant: the names rise if those from file j on do, above the last one. Assumes nothing.
use mathlib.Core.Path.{sym, ◌∙◌, refl}
use native.Mathlib.Omega.{arith}
use Rattle.archive.proofs.Walk.{fits_room, walking_first, walking_in, walking_next}
use Rattle.archive.proofs.Judging.{rising_bad, rising_low, rising_next, rising_end}
use Rattle.archive.proofs.names_rise.Goals as goal

pub loop-j-init : goal.loop-j-init
loop-j-init c = rw c.lengths_at-at.ensures (walking_first c.args.archive.now c.file_count-count.result c.file_count-count.ensures c.requires, refl)

pub returns-then-not-is_file_name : goal.returns-then-not-is_file_name
returns-then-not-is_file_name c = sym (c.loop-j.invariant.1 ∙ rising_bad c.loop-j.last.now c.loop-j.invariant.0 c.loop-j-test.true c.member_at-member.ensures (sym c.is_file_name.ensures ∙ c.if-not-is_file_name.true))

pub returns-then-not-lower : goal.returns-then-not-lower
returns-then-not-lower c =
    sym (c.loop-j.invariant.1 ∙ rising_low c.loop-j.last.now c.loop-j.invariant.0 c.loop-j-test.true c.member_at-member.ensures (sym c.is_file_name.ensures ∙ c.if-not-is_file_name.false)
    (sym c.lower.ensures ∙ c.if-not-lower.true))

pub loop-j-preserved : goal.loop-j-preserved
loop-j-preserved c = (
  walking_next c.loop-j.invariant.0 c.loop-j-test.true c.member_at-member.ensures,
  c.loop-j.invariant.1 ∙ rising_next c.loop-j.last.now c.loop-j.invariant.0 c.loop-j-test.true c.member_at-member.ensures (sym c.is_file_name.ensures ∙ c.if-not-is_file_name.false)
      (sym c.lower.ensures ∙ c.if-not-lower.false),
)

pub returns : goal.returns
returns c = sym (c.loop-j.invariant.1 ∙ rising_end c.loop-j.last.now c.loop-j.invariant.0 c.loop-j-test.false)

pub file_count-count-requires : goal.file_count-count-requires
file_count-count-requires c = omega (arith, fits_room c.args.archive.now c.requires)

pub slice_bounds-name-count : goal.slice_bounds-name-count
slice_bounds-name-count c = omega (arith, walking_in c.loop-j.invariant.0 c.loop-j-test.true c.member_at-member.ensures)

pub slice_bounds-name-start : goal.slice_bounds-name-start
slice_bounds-name-start c = omega (arith, walking_in c.loop-j.invariant.0 c.loop-j-test.true c.member_at-member.ensures)

pub slice_bounds-name-end : goal.slice_bounds-name-end
slice_bounds-name-end c = omega (arith, walking_in c.loop-j.invariant.0 c.loop-j-test.true c.member_at-member.ensures)
