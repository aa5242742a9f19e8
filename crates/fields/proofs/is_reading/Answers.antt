-- `fields::is_reading` meets its contract. Assumes nothing.
use mathlib.Core.Path.{◌∙◌}
use Rattle.fields.proofs.Rows.{no_image, other_opens, other_entries, has_rows}
use Rattle.fields.proofs.is_reading.Goals as goal

pub returns-in_default : goal.returns-in_default
returns-in_default c = no_image _ _ _ _ _ c.in_default.ensures.1

pub returns-in_default-pass_number : goal.returns-in_default-pass_number
returns-in_default-pass_number c =
    let p = rw c.in_default-pass_number.is at c.pass_number.ensures in
    other_opens _ _ _ _ _ c.in-Ok.ensures.2 p.0

pub returns-in_default-pass_number-2 : goal.returns-in_default-pass_number-2
returns-in_default-pass_number-2 c =
    let p = rw c.in-Some.is at c.pass_number.ensures in
    let q = rw c.in_default-pass_number-2.is at c.pass_number-2.ensures in
    other_entries _ _ _ _ _ c.in-Ok.ensures.2 _ p.0 q.0

pub returns : goal.returns
returns c =
    let p = rw c.in-Some.is at c.pass_number.ensures in
    let q = rw c.in-Some-pass_number.is at c.pass_number-2.ensures in
    let e = rw (c.in-Ok.ensures.0, c.in-Ok.ensures.1) at c.are_entries.ensures in
    e ∙ has_rows _ _ _ _ _ c.in-Ok.ensures.2 _ p.0 _ q.0
