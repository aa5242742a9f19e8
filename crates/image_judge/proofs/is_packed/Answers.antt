-- `image_judge::is_packed` meets its contract. Assumes nothing.
use mathlib.Core.Path.{sym, ◌∙◌}
use native.Mathlib.Omega.{arith}
use Rattle.image_judge.proofs.Judged.{contents_short, bodies_short, too_many, too_much, by_rows, rows_room}
use Rattle.image_judge.proofs.is_packed.Goals as goal

pub rows_hold-requires : goal.rows_hold-requires
rows_hold-requires c = (c.requires.0, rows_room _ c.args.contents.now c.if-contents-width.false c.if-count-gt-MOST_ENTRIES.false, omega (arith, c.if-bodies-lt-BODY_BYTES.false, c.if-used-gt-BODY_BYTES.false))

pub returns : goal.returns
returns c = c.rows_hold.ensures ∙ sym (by_rows _ _ _ c.if-contents-width.false c.if-bodies-lt-BODY_BYTES.false c.if-count-gt-MOST_ENTRIES.false c.if-used-gt-BODY_BYTES.false)

pub returns-then-contents-width : goal.returns-then-contents-width
returns-then-contents-width c = sym (contents_short _ _ _ c.if-contents-width.true)

pub returns-then-bodies-lt-BODY_BYTES : goal.returns-then-bodies-lt-BODY_BYTES
returns-then-bodies-lt-BODY_BYTES c = sym (bodies_short _ _ _ c.if-bodies-lt-BODY_BYTES.true)

pub overflow_cast-count : goal.overflow_cast-count
overflow_cast-count c = omega (arith, c.type_inv.contents 0)

pub returns-then-count-gt-MOST_ENTRIES : goal.returns-then-count-gt-MOST_ENTRIES
returns-then-count-gt-MOST_ENTRIES c = sym (too_many _ _ _ c.if-count-gt-MOST_ENTRIES.true)

pub overflow_cast-used : goal.overflow_cast-used
overflow_cast-used c = omega (arith, c.type_inv.contents 1)

pub returns-then-used-gt-BODY_BYTES : goal.returns-then-used-gt-BODY_BYTES
returns-then-used-gt-BODY_BYTES c = sym (too_much _ _ _ c.if-used-gt-BODY_BYTES.true)
