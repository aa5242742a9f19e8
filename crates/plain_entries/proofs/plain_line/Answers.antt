-- `plain_entries::plain_line` meets its contract. Assumes nothing.
use mathlib.Core.Path.{◌≡◌, sym, ap, ◌∙◌}
use Prim.Native.Nat.{◌+◌, ◌<◌}
use native.Mathlib.Omega.{arith}
use lib.ListN.{length, length-set}
use Rattle.definition.specs.Bytes.{is_blank}
use Rattle.plain_keys.specs.Ended.{Ended}
use Rattle.plain_keys.proofs.Keys.{KeyIs}
use Rattle.plain_keys.proofs.Ends.{ended_rest, rest_first}
use Rattle.plain_values.proofs.Values.{from_on}
use Rattle.plain_entries.proofs.Entries.{end_length, colon_on, colon_inside, key_room, value_room, answers, stores, key_is, keyless, long_key}
use Rattle.plain_entries.proofs.plain_line.Goals as goal
use Rattle.plain_entries.proofs.plain_line.Goals.{In_ok-key}

-- the key, its colon with a byte behind it, and how the text ends there
key_here : (c : In_ok-key) → KeyIs c.args.text.now c.in_ok-key.key.end c.in_ok-key.key.count c.in_ok-key.key.extra
key_here c = key_is c.requires.0 c.plain_key.ensures c.in_ok-key.was

colon_here : (c : In_ok-key) → c.in_ok-key.key.end + 1 < length c.args.text.now
colon_here c = colon_inside (key_here c) c.requires.0

behind_colon : (c : In_ok-key) → Ended (from_on c.args.text.now (c.in_ok-key.key.end + 1))
behind_colon c = colon_on (key_here c) (colon_here c) c.requires.0

pub returns-in_err-key : goal.returns-in_err-key
returns-in_err-key c = rw c.from_residual.ensures (keyless _ _ _ (sym c.plain_key.ensures ∙ c.in_err-key.was))

pub returns-then-key-gt-MOST_PARTS : goal.returns-then-key-gt-MOST_PARTS
returns-then-key-gt-MOST_PARTS c = long_key _ _ _ _ (sym c.plain_key.ensures ∙ c.in_ok-key.was) c.if-key-gt-MOST_PARTS.true

pub overflow_add-size : goal.overflow_add-size
overflow_add-size c =
    let key = key_here (goal.at.overflow_add-size c).In_ok-key in
    omega (arith, key.inside, key.extra_most, c.well_formed.1.0.0)

pub slice_bounds-copy_in-end : goal.slice_bounds-copy_in-end
slice_bounds-copy_in-end c = sym (end_length (key_here (goal.at.slice_bounds-copy_in-end c).In_ok-key))

pub overflow_add-used : goal.overflow_add-used
overflow_add-used c =
    let key = key_here (goal.at.overflow_add-used c).In_ok-key in
    omega (arith, key.inside, key.extra_most, c.requires.1, c.well_formed.1.1.0.0)

pub copy_in-requires : goal.copy_in-requires
copy_in-requires c = key_room (key_here (goal.at.copy_in-requires c).In_ok-key) c.args.store.now c.args.used c.requires.1

pub overflow_add-after : goal.overflow_add-after
overflow_add-after c = omega (arith, colon_here (goal.at.overflow_add-after c).In_ok-key, c.well_formed.1.0.0)

pub slice_bounds-after-count : goal.slice_bounds-after-count
slice_bounds-after-count c = omega (arith, colon_here (goal.at.slice_bounds-after-count c).In_ok-key)

pub slice_bounds-after-start : goal.slice_bounds-after-start
slice_bounds-after-start c = omega (arith, colon_here (goal.at.slice_bounds-after-start c).In_ok-key)

pub blanks-from-requires : goal.blanks-from-requires
blanks-from-requires c = behind_colon (goal.at.blanks-from-requires c).In_ok-key

pub overflow_add-used-2 : goal.overflow_add-used-2
overflow_add-used-2 c =
    let key = key_here (goal.at.overflow_add-used-2 c).In_ok-key in
    omega (arith, key.inside, key.extra_most, c.requires.1, c.well_formed.1.1.0.0)

pub plain_value-value-requires : goal.plain_value-value-requires
plain_value-value-requires c =
    let at = goal.at.plain_value-value-requires c in
    let kept : length c.copy_in.new.store ≡ length c.args.store.now = c.copy_in.auto.store ∙ simp length-set in (
      ended_rest (behind_colon at.In_ok-key) c.blanks-from.result c.blanks-from.ensures.inside,
      ap is_blank (rest_first (from_on c.args.text.now (c.in_ok-key.key.end + 1)) c.blanks-from.result) ∙ c.blanks-from.ensures.stop,
      omega (arith, value_room (key_here at.In_ok-key) c.args.store.now c.args.used c.requires.1 c.blanks-from.result c.blanks-from.ensures, kept),
    )

pub returns : goal.returns
returns c =
    let key = key_here (goal.at.returns c).In_ok-key in
    let is = sym c.plain_key.ensures ∙ c.in_ok-key.was in (
      answers key c.args.store.now c.args.used c.requires.1 c.blanks-from.result c.blanks-from.ensures c.plain_value-value.ensures c.if-key-gt-MOST_PARTS.false is,
      stores key c.args.store.now c.args.used c.requires.1 c.blanks-from.result c.blanks-from.ensures c.plain_value-value.ensures c.if-key-gt-MOST_PARTS.false is c.copy_in.ensures,
    )
