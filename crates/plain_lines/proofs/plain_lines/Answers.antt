-- `plain_lines::plain_lines` meets its contract. Assumes nothing.
use Prim.Native.Nat.{◌+◌, ◌≤◌, ◌<◌}
use native.Mathlib.Omega.{arith}
use lib.ListN.{length}
use borrow.Author.Tests.{ne_eqb}
use Rattle.definition.specs.Limits.{body_bytes}
use Rattle.plain_lines.proofs.Lining.{lining_end, lining_full, lining_other, passed_inside, passed_some, lining_over, next_some, next_inside, next_room, lining_next, unread_empty, unread_long, unread_open, lining_first}
use Rattle.plain_lines.proofs.plain_lines.Goals as goal
use Rattle.plain_lines.proofs.plain_lines.Goals.{In-Some, In-Some-passed_over, then-n-eq0-via-then-n-eq0, then-n-eq0-via-else-n-eq0+then-n-store, then-n-eq0-via-else-n-eq0+else-n-store+then-text-n-ne10}

-- a line of the common form has a byte, is in the text, and there is room for its key and value
line_fits : (c : In-Some) → (0 < c.in-Some.line.taken) × (c.loop-taken.taken + c.in-Some.line.taken ≤ length c.args.text.now) × (c.loop-taken.used + (c.in-Some.line.key + c.in-Some.line.value) ≤ body_bytes)
line_fits c =
    let l = c.loop-taken.invariant in
    let h = c.loop-taken-test.true in
    let less = c.if-entries-lt-MOST_ENTRIES.true in
    let o = c.plain_line.ensures in
    (next_some l h less o.0 o.1 c.in-Some.is, next_inside l h less o.0 o.1 c.in-Some.is, next_room l h less o.0 o.1 c.in-Some.is)

-- one that is passed over has a byte and is in the text
over_fits : (c : In-Some-passed_over) → (0 < c.in-Some-passed_over.over) × (c.loop-taken.taken + c.in-Some-passed_over.over ≤ length c.args.text.now)
over_fits c =
    let l = c.loop-taken.invariant in
    let h = c.loop-taken-test.true in
    let less = c.if-entries-lt-MOST_ENTRIES.true in
    let o = c.plain_line.ensures in
    (passed_some l h less o.0 o.1 c.in_default.is c.passed_over.ensures c.in-Some-passed_over.is, passed_inside l h less o.0 o.1 c.in_default.is c.passed_over.ensures c.in-Some-passed_over.is)

-- the text is not read so
pub returns-then-n-eq0 : goal.returns-then-n-eq0
returns-then-n-eq0 c =
    elim c.then-n-eq0.branch [
      | then-n-eq0-via-then-n-eq0 w ↦ unread_empty _ _ _ _ _ _ w.if-n-eq0.true
      | then-n-eq0-via-else-n-eq0+then-n-store w ↦ unread_long _ _ _ _ _ _ w.if-n-store.true
      | then-n-eq0-via-else-n-eq0+else-n-store+then-text-n-ne10 w ↦ unread_open _ _ _ _ _ _ (ne_eqb _ _ w.if-text-n-ne10.true)
    ]

pub loop-taken-init : goal.loop-taken-init
loop-taken-init c =
    lining_first _ _ c.args.totals _ _ c.requires (record { some = omega (arith, c.if-n-eq0.false); last = c.if-text-n-ne10.false }) c.if-n-store.false

pub loop-taken-preserved : goal.loop-taken-preserved
loop-taken-preserved c =
    lining_next c.loop-taken.invariant c.loop-taken-test.true c.if-entries-lt-MOST_ENTRIES.true c.plain_line.ensures.0 c.plain_line.ensures.1 c.in-Some.is c.write_row.ensures
    c.write_row.auto.words c.plain_line.auto.store

pub loop-taken-preserved-in_default : goal.loop-taken-preserved-in_default
loop-taken-preserved-in_default c =
    lining_over c.loop-taken.invariant c.loop-taken-test.true c.if-entries-lt-MOST_ENTRIES.true c.plain_line.ensures.0 c.plain_line.ensures.1 c.in_default.is c.passed_over.ensures c.in-Some-passed_over.is

pub returns-in_default-passed_over : goal.returns-in_default-passed_over
returns-in_default-passed_over c =
    lining_other c.loop-taken.invariant c.loop-taken-test.true c.if-entries-lt-MOST_ENTRIES.true c.plain_line.ensures.0 c.plain_line.ensures.1 c.in_default.is c.passed_over.ensures c.in_default-passed_over.is

pub overflow_add-taken : goal.overflow_add-taken
overflow_add-taken c = let over = over_fits (goal.at.overflow_add-taken c).In-Some-passed_over in omega arith

pub loop-taken-smaller-in_default : goal.loop-taken-smaller-in_default
loop-taken-smaller-in_default c = let over = over_fits (goal.at.loop-taken-smaller-in_default c).In-Some-passed_over in omega arith

pub write_row-requires : goal.write_row-requires
write_row-requires c =
    let fits = line_fits (goal.at.write_row-requires c).In-Some in
    (omega (arith, c.loop-taken.invariant.stands.words_long, c.if-entries-lt-MOST_ENTRIES.true), record { start_word = omega arith; key_word = omega arith; value_word = omega arith })

pub overflow_add-used : goal.overflow_add-used
overflow_add-used c = let fits = line_fits (goal.at.overflow_add-used c).In-Some in omega arith

pub overflow_add-used-in-loop-taken : goal.overflow_add-used-in-loop-taken
overflow_add-used-in-loop-taken c = let fits = line_fits (goal.at.overflow_add-used-in-loop-taken c).In-Some in omega arith

pub overflow_add-taken-in-loop-taken : goal.overflow_add-taken-in-loop-taken
overflow_add-taken-in-loop-taken c = let fits = line_fits (goal.at.overflow_add-taken-in-loop-taken c).In-Some in omega arith

pub loop-taken-smaller : goal.loop-taken-smaller
loop-taken-smaller c = let fits = line_fits (goal.at.loop-taken-smaller c).In-Some in omega arith

pub returns-else-entries-lt-MOST_ENTRIES : goal.returns-else-entries-lt-MOST_ENTRIES
returns-else-entries-lt-MOST_ENTRIES c = lining_full c.loop-taken.invariant c.if-entries-lt-MOST_ENTRIES.false

pub returns-after-loop-taken : goal.returns-after-loop-taken
returns-after-loop-taken c = lining_end c.loop-taken.invariant c.loop-taken-test.false
