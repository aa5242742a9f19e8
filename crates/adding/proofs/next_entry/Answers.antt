-- `adding::next_entry` meets its contract. The invariant: the entries from `from` on are those from here on. Assumes nothing.
use native.Mathlib.Omega.{arith}
use Rattle.adding.proofs.Lines.{skip_inside, skip_less, include_inside, include_less, value_in, stands, seeking_found}
use Rattle.adding.proofs.next_entry.Goals as goal

pub overflow_add-at : goal.overflow_add-at
overflow_add-at c = omega (arith, skip_inside c.loop-at.invariant c.loop-at-test.true c.in-Skip.ensures)

pub loop-at-smaller-in-Skip : goal.loop-at-smaller-in-Skip
loop-at-smaller-in-Skip c =
    omega (arith, skip_inside c.loop-at.invariant c.loop-at-test.true c.in-Skip.ensures, skip_less c.loop-at.invariant c.loop-at-test.true c.in-Skip.ensures)

pub overflow_add-at-in-Include : goal.overflow_add-at-in-Include
overflow_add-at-in-Include c = omega (arith, include_inside c.loop-at.invariant c.loop-at-test.true c.in-Include.ensures)

pub loop-at-smaller : goal.loop-at-smaller
loop-at-smaller c =
    omega (
      arith,
      include_inside c.loop-at.invariant c.loop-at-test.true c.in-Include.ensures,
      include_less c.loop-at.invariant c.loop-at-test.true c.in-Include.ensures,
    )

pub line_after-requires : goal.line_after-requires
line_after-requires c = value_in c.loop-at.invariant c.loop-at-test.true c.in-Entry.ensures

pub returns-in-Entry : goal.returns-in-Entry
returns-in-Entry c =
    (seeking_found c.loop-at.invariant c.loop-at-test.true c.in-Entry.ensures c.line_after.ensures, stands c.loop-at.invariant c.loop-at-test.true c.in-Entry.ensures)
