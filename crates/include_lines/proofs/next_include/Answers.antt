-- `include_lines::next_include` meets its contract. The invariant: the includes from `from` on are those from here on. Assumes nothing.
use mathlib.Core.Path.{sym, ◌∙◌}
use native.Mathlib.Omega.{arith}
use Rattle.include_lines.proofs.Passing.{looking_done, skip_inside, skip_less, looking_skip, value_in, entry_inside, entry_less, looking_entry, name_inside, include_inside, include_after, looking_found}
use Rattle.std.specs.Prelude.{Some, None}
use Rattle.include_lines.proofs.Named.{names_next}
use Rattle.include_lines.proofs.next_include.Goals as goal

pub overflow_add-at : goal.overflow_add-at
overflow_add-at c = omega (arith, skip_inside c.loop-at.invariant c.loop-at-test.true (sym c.in-Skip.is ∙ c.parse_line.ensures), c.well_formed.1.0.0)

pub loop-at-smaller-in-Skip : goal.loop-at-smaller-in-Skip
loop-at-smaller-in-Skip c =
    let e = sym c.in-Skip.is ∙ c.parse_line.ensures in
    omega (arith, skip_inside c.loop-at.invariant c.loop-at-test.true e, skip_less c.loop-at.invariant c.loop-at-test.true e)

pub loop-at-preserved-in-Skip : goal.loop-at-preserved-in-Skip
loop-at-preserved-in-Skip c = looking_skip c.loop-at.invariant c.loop-at-test.true (sym c.in-Skip.is ∙ c.parse_line.ensures)

pub overflow_add-result : goal.overflow_add-result
overflow_add-result c = omega (arith, name_inside c.loop-at.invariant c.loop-at-test.true (sym c.in-Include.is ∙ c.parse_line.ensures), c.well_formed.1.0.0)

pub overflow_add-result-in-Include : goal.overflow_add-result-in-Include
overflow_add-result-in-Include c = omega (arith, include_inside c.loop-at.invariant c.loop-at-test.true (sym c.in-Include.is ∙ c.parse_line.ensures), c.well_formed.1.0.0)

pub returns-in-Include : goal.returns-in-Include
returns-in-Include c =
    let e = sym c.in-Include.is ∙ c.parse_line.ensures in
    (looking_found c.loop-at.invariant c.loop-at-test.true e, names_next _ _ (Some _) (looking_found c.loop-at.invariant c.loop-at-test.true e), (name_inside c.loop-at.invariant c.loop-at-test.true e, include_after c.loop-at.invariant c.loop-at-test.true e, include_inside c.loop-at.invariant c.loop-at-test.true e))

pub line_after-at-requires : goal.line_after-at-requires
line_after-at-requires c = value_in c.loop-at.invariant c.loop-at-test.true (sym c.in-Entry.is ∙ c.parse_line.ensures)

pub loop-at-smaller : goal.loop-at-smaller
loop-at-smaller c =
    let e = sym c.in-Entry.is ∙ c.parse_line.ensures in
    omega (arith, entry_inside c.loop-at.invariant c.loop-at-test.true e c.line_after-at.ensures, entry_less c.loop-at.invariant c.loop-at-test.true e c.line_after-at.ensures)

pub loop-at-preserved : goal.loop-at-preserved
loop-at-preserved c = looking_entry c.loop-at.invariant c.loop-at-test.true (sym c.in-Entry.is ∙ c.parse_line.ensures) c.line_after-at.ensures

pub returns : goal.returns
returns c =
    let e = looking_done c.loop-at.invariant c.loop-at-test.false in
    (e, names_next _ _ None e, tt)
