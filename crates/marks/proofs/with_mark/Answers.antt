-- `marks::with_mark` meets its contract. Assumes nothing.
use mathlib.Core.Path.{refl}
use native.Mathlib.Omega.{arith}
use borrow.Author.Tests.{lt-ltb, le-ltb}
use Rattle.marks.specs.Rows.{marked}
use Rattle.marks.proofs.with_mark.Goals as goal

pub returns-then-p-lt-FIRST : goal.returns-then-p-lt-FIRST
unfolding marked
returns-then-p-lt-FIRST c = rw (lt-ltb _ _ c.if-p-lt-FIRST.true) refl

pub returns-then-p-lt-FIRST_TWO : goal.returns-then-p-lt-FIRST_TWO
unfolding marked
returns-then-p-lt-FIRST_TWO c = rw (le-ltb _ _ c.if-p-lt-FIRST.false, lt-ltb _ _ c.if-p-lt-FIRST_TWO.true) refl

pub returns : goal.returns
unfolding marked
returns c = rw (le-ltb _ _ c.if-p-lt-FIRST.false, le-ltb _ _ c.if-p-lt-FIRST_TWO.false) refl

pub overflow_mul-result : goal.overflow_mul-result
overflow_mul-result c = omega (arith, c.requires.0.high c.if-p-lt-FIRST.true)

pub overflow_add-result : goal.overflow_add-result
overflow_add-result c = omega (arith, c.requires.0.high c.if-p-lt-FIRST.true)

pub overflow_mul-result-then-p-lt-FIRST_TWO : goal.overflow_mul-result-then-p-lt-FIRST_TWO
overflow_mul-result-then-p-lt-FIRST_TWO c = omega (arith, c.requires.0.middle c.if-p-lt-FIRST_TWO.true)

pub overflow_add-result-then-p-lt-FIRST_TWO : goal.overflow_add-result-then-p-lt-FIRST_TWO
overflow_add-result-then-p-lt-FIRST_TWO c = omega (arith, c.requires.0.middle c.if-p-lt-FIRST_TWO.true)
