-- `parser::parse_entry` meets its contract: the limits in order, then the key, the value and the row. Assumes nothing.
use Prim.Native.Nat.{◌+◌}
use native.Mathlib.Omega.{arith}
use Rattle.values.proofs.Values.{Fits, decoded_fits}
use Rattle.parser.proofs.Entries.{many_parts, many_entries, long_key, Keyed, text_inside, long_value, value_after, ends_inside, passed_inside, done_next, done_last}
use Rattle.parser.proofs.parse_entry.Goals as goal
use Rattle.parser.proofs.parse_entry.Goals.{After-skip_blanks-rest, In-Some}

-- the key is written, and what follows it is the value's text
keyed : (c : After-skip_blanks-rest) → Keyed c.args.text.now c.args.resource c.args.totals c.args.words.now c.args.store.now c.write_key.new.store c.skip_blanks-rest.result.now
keyed c = record {
  asked = c.requires;
  few = c.if-resource-gt-MOST_PARTS.false;
  less = c.if-entries-ge-MOST_ENTRIES.false;
  fits = c.if-size-store.false;
  written = c.write_key.ensures;
  long = c.write_key.auto.store;
  is = c.skip_blanks-rest.ensures.0;
}

-- the value is stored behind the key
valued : (c : In-Some) → Fits c.skip_blanks-rest.result.now c.write_key.new.store (c.args.totals.used + c.args.resource.size) c.parse_value.new.store c.in-Some.stored.end c.in-Some.stored.taken
valued c = decoded_fits (rw c.in-Some.is at c.parse_value.ensures)

pub returns-in_default : goal.returns-in_default
returns-in_default c = long_value (keyed (goal.at.returns-in_default c).After-skip_blanks-rest) _ (rw c.in_default.is at c.parse_value.ensures)

pub overflow_sub-row : goal.overflow_sub-row
overflow_sub-row c =
    let at = goal.at.overflow_sub-row c in
    value_after (keyed at.After-skip_blanks-rest) (valued at.In-Some)

pub write_row-requires : goal.write_row-requires
write_row-requires c =
    let at = goal.at.write_row-requires c in
    let k = keyed at.After-skip_blanks-rest in
    let end = ends_inside k (valued at.In-Some) in
    let after = value_after k (valued at.In-Some) in
    let r = k.asked.room in
    (omega (arith, r.words_long, k.less), record { start_word = omega (arith, r.used_most); key_word = omega arith; value_word = omega arith })

pub overflow_sub-passed : goal.overflow_sub-passed
overflow_sub-passed c = text_inside (keyed (goal.at.overflow_sub-passed c).After-skip_blanks-rest)

pub overflow_add-passed : goal.overflow_add-passed
overflow_add-passed c =
    let at = goal.at.overflow_add-passed c in
    omega (arith, c.well_formed.1.0.0, passed_inside (keyed at.After-skip_blanks-rest) (valued at.In-Some))

pub returns-then-passed-text : goal.returns-then-passed-text
returns-then-passed-text c =
    let at = goal.at.returns-then-passed-text c in
    done_next (keyed at.After-skip_blanks-rest) (valued at.In-Some) _ c.write_row.ensures c.if-passed-text.true

pub returns-else-passed-text : goal.returns-else-passed-text
returns-else-passed-text c =
    let at = goal.at.returns-else-passed-text c in
    done_last (keyed at.After-skip_blanks-rest) (valued at.In-Some) _ c.write_row.ensures c.if-passed-text.false

pub returns-then-resource-gt-MOST_PARTS : goal.returns-then-resource-gt-MOST_PARTS
returns-then-resource-gt-MOST_PARTS c = many_parts _ c.requires c.if-resource-gt-MOST_PARTS.true

pub returns-then-entries-ge-MOST_ENTRIES : goal.returns-then-entries-ge-MOST_ENTRIES
returns-then-entries-ge-MOST_ENTRIES c = many_entries _ c.requires c.if-resource-gt-MOST_PARTS.false c.if-entries-ge-MOST_ENTRIES.true

pub returns-then-size-store : goal.returns-then-size-store
returns-then-size-store c = long_key _ c.requires c.if-resource-gt-MOST_PARTS.false c.if-entries-ge-MOST_ENTRIES.false c.if-size-store.true
