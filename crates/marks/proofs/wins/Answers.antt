-- `marks::wins` meets its contract. Assumes nothing.
use mathlib.Core.Path.{refl}
use native.Mathlib.Omega.{arith}
use Rattle.std.proofs.lemmas.Grind.{common_steps}
use Rattle.std.proofs.lemmas.Bool.Decides.{nat_tests}
use borrow.Author.Tests.{lt-ltb, le-ltb}
use Rattle.marks.specs.Rows.{lower_row, wins_over}
use Rattle.marks.proofs.wins.Goals as goal

pub returns-then-best-eq0 : goal.returns-then-best-eq0
unfolding wins_over
returns-then-best-eq0 c = rw (lt-ltb _ _ c.if-r-gt0.true, c.if-best-eq0.true) refl

pub returns-else-best-eq0 : goal.returns-else-best-eq0
unfolding wins_over lower_row
returns-else-best-eq0 c = grind (arith, common_steps, nat_tests, c.le.ensures, lt-ltb 0 c.args.r.low c.if-r-gt0.true)

pub returns-else-r-gt0 : goal.returns-else-r-gt0
unfolding wins_over
returns-else-r-gt0 c = rw (le-ltb _ _ c.if-r-gt0.false) refl
