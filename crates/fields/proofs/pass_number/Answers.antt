-- `fields::pass_number` meets its contract. Assumes nothing.
use Rattle.std.specs.Prelude.{Some}
use mathlib.Core.Bool.{true}
use mathlib.Core.Path.{◌≡◌, sym, ap, ◌∙◌}
use Prim.Native.Nat.{ℕ, ◌+◌, ◌≤◌}
use native.Mathlib.Omega.{arith}
use lib.ListN.{length, take}
use borrow.Author.Tests.{not-true, not-false}
use Rattle.laws.proofs.Lists.{length_part_rest}
use Rattle.scan.specs.Scanned.{starts_with}
use Rattle.scan.proofs.Beginnings.{starts_yes}
use Rattle.printing.specs.Putting.{decimal}
use Rattle.printing.proofs.Numbers.{decimal_is}
use Rattle.fields.proofs.Passing.{before_no, digits_no, digits_yes}
use Rattle.fields.proofs.pass_number.Goals as goal
use Rattle.fields.proofs.pass_number.Goals.{Else-not-starts_with, After-decimal-k, Else-not-starts_with-2}

-- the lead stands there and is in the rest, and the number's digits are written
lead_in : (c : Else-not-starts_with) → starts_with c.args.lead.now c.args.rest.now ≡ true
lead_in c = sym c.starts_with.ensures ∙ not-false _ c.if-not-starts_with.false-raw

lead_inside : (c : Else-not-starts_with) → length c.args.lead.now ≤ length c.args.rest.now
lead_inside c = (starts_yes _ _ _ c.starts_with.ensures (not-false _ c.if-not-starts_with.false-raw)).1

digits_are : (c : After-decimal-k) → take c.decimal-k.result c.decimal-k.new.out ≡ decimal c.args.n
digits_are c = decimal_is c.args.n _ _ c.ranges.n.fits c.decimal-k.ensures.digits c.decimal-k.ensures.len

-- both are in the rest
both_inside : (c : Else-not-starts_with-2) → length c.args.lead.now ≤ length c.args.rest.now → length c.args.lead.now + c.decimal-k.result ≤ length c.args.rest.now
both_inside c lead =
    let d = (starts_yes _ _ _ c.starts_with-2.ensures (not-false _ c.if-not-starts_with-2.false-raw)).1 in
    omega (arith, d, c.decimal-k.ensures.in_bounds.1, lead, length_part_rest c.args.rest.now (length c.args.lead.now))

pub returns-then-not-starts_with : goal.returns-then-not-starts_with
returns-then-not-starts_with c = (before_no _ _ _ (sym c.starts_with.ensures ∙ not-true _ c.if-not-starts_with.true-raw), tt)

pub returns-then-not-starts_with-2 : goal.returns-then-not-starts_with-2
returns-then-not-starts_with-2 c =
    let at = goal.at.returns-then-not-starts_with-2 c in
    (digits_no _ _ _ (lead_in at.Else-not-starts_with) (sym (rw (digits_are at.After-decimal-k) at c.starts_with-2.ensures) ∙ not-true _ c.if-not-starts_with-2.true-raw), tt)

pub returns : goal.returns
returns c =
    let at = goal.at.returns c in
    let n : c.decimal-k.result ≡ length (decimal c.args.n) = c.decimal-k.ensures.in_bounds.1 ∙ ap length (digits_are at.After-decimal-k) in
    (ap (λ (k : ℕ). Some (length c.args.lead.now + k)) n ∙ digits_yes _ _ _ (lead_in at.Else-not-starts_with) (sym (rw (digits_are at.After-decimal-k) at c.starts_with-2.ensures) ∙ not-false _ c.if-not-starts_with-2.false-raw), both_inside at.Else-not-starts_with-2 (lead_inside at.Else-not-starts_with))

pub slice_bounds-starts_with-count : goal.slice_bounds-starts_with-count
slice_bounds-starts_with-count c = lead_inside (goal.at.slice_bounds-starts_with-count c).Else-not-starts_with

pub slice_bounds-starts_with-start : goal.slice_bounds-starts_with-start
slice_bounds-starts_with-start c = lead_inside (goal.at.slice_bounds-starts_with-start c).Else-not-starts_with

pub overflow_add-result : goal.overflow_add-result
overflow_add-result c =
    let at = goal.at.overflow_add-result c in
    omega (arith, both_inside at.Else-not-starts_with-2 (lead_inside at.Else-not-starts_with))
