-- `image_judge::rows_hold` meets its contract. The invariant: the rows hold if those from row i on do, packed from `at`. Assumes nothing.
use mathlib.Core.Path.{◌≡◌, sym, ◌∙◌}
use Prim.Native.Nat.{◌+◌, ◌^◌, ◌<◌}
use native.Mathlib.Omega.{arith}
use borrow.Author.Tests.{not-true, not-false}
use Rattle.image_judge.proofs.Rows.{row_room, judging_first, judging_done, RowHere, judging_apart, judging_past, judging_no_key, judging_next}
use Rattle.image_judge.proofs.rows_hold.Goals as goal
use Rattle.image_judge.proofs.rows_hold.Goals.{After-row_by-row, Else-start-at}

-- row i, as the invariant has it, begins where the rows so far end, and its end is a number of the machine
row_in : (c : After-row_by-row) → RowHere c.args.width c.args.contents.now c.args.bodies.now c.args.count c.args.used c.loop-i.at c.loop-i.i c.row_by-row.result
row_in c = record { judging = c.loop-i.invariant; more = c.loop-i-test.true; is = c.row_by-row.ensures.is }

starts_in : (c : Else-start-at) → c.row_by-row.result.start ≡ c.loop-i.at
starts_in c = omega (arith, c.if-start-at.false)

end_in : (c : After-row_by-row) → c.loop-i.at + c.row_by-row.result.key + c.row_by-row.result.value < 2 ^ 64
end_in c = omega (arith, c.well_formed.1.0, c.requires.2, c.loop-i.invariant.most, c.row_by-row.ensures.small)

pub row_by-row-requires : goal.row_by-row-requires
row_by-row-requires c = row_room _ _ _ _ c.requires.0 c.loop-i-test.true c.requires.1

pub returns-then-not-is_key : goal.returns-then-not-is_key
returns-then-not-is_key c =
    let at = goal.at.returns-then-not-is_key c in
    sym (judging_no_key (row_in at.After-row_by-row) (starts_in at.Else-start-at) (sym c.is_key.ensures ∙ not-true _ c.if-not-is_key.true-raw))

pub loop-i-preserved : goal.loop-i-preserved
loop-i-preserved c =
    let at = goal.at.loop-i-preserved c in
    judging_next (row_in at.After-row_by-row) (starts_in at.Else-start-at) (sym c.is_key.ensures ∙ not-false _ c.if-not-is_key.false-raw) c.if-used-value_end.false

pub loop-i-init : goal.loop-i-init
loop-i-init c = judging_first _ _ _ _ _

pub returns-then-start-at : goal.returns-then-start-at
returns-then-start-at c =
    let at = goal.at.returns-then-start-at c in
    sym (judging_apart (row_in at.After-row_by-row) (λ e. omega (arith, c.if-start-at.true)))

pub overflow_add-key_end : goal.overflow_add-key_end
overflow_add-key_end c = omega (arith, end_in (goal.at.overflow_add-key_end c).After-row_by-row)

pub overflow_add-value_end : goal.overflow_add-value_end
overflow_add-value_end c = omega (arith, end_in (goal.at.overflow_add-value_end c).After-row_by-row)

pub returns-then-used-value_end : goal.returns-then-used-value_end
returns-then-used-value_end c =
    let at = goal.at.returns-then-used-value_end c in
    sym (judging_past (row_in at.After-row_by-row) (starts_in at.Else-start-at) c.if-used-value_end.true)

pub returns : goal.returns
returns c = sym (judging_done c.loop-i.invariant c.loop-i-test.false)
