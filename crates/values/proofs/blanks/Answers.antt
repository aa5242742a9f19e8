-- `values::blanks` meets its contract. The invariant: what follows the blanks is the same of what is left. Assumes nothing.
use mathlib.Core.Path.{sym, ◌∙◌}
use native.Mathlib.Omega.{arith}
use borrow.Author.Tests.{ltb-true, ltb-false}
use Rattle.values.proofs.Skipping.{left_none, left_blank, left_other, left_last, left_kept, left_joined}
use Rattle.values.proofs.blanks.Goals as goal
use Rattle.values.proofs.blanks.Goals.{in_default-via-then-rest-lt1, in_default-via-in-len1-up+else-is_blank+then-rest-lt2, in_default-via-in-len1-up+else-is_blank+else-rest-lt2+in-92+in_default-1, in_default-via-in-len1-up+else-is_blank+else-rest-lt2+in_default-1}

pub loop-rest-preserved-in-len1-up : goal.loop-rest-preserved-in-len1-up
loop-rest-preserved-in-len1-up c = left_blank c.loop-rest.invariant (omega arith) (sym c.is_blank.ensures ∙ c.if-is_blank.true)

pub loop-rest-preserved : goal.loop-rest-preserved
loop-rest-preserved c = left_joined c.loop-rest.invariant (sym c.is_blank.ensures ∙ c.if-is_blank.false) (omega arith) (omega arith) (omega arith)

pub returns-in_default : goal.returns-in_default
returns-in_default c =
    elim c.in_default.branch [
      | in_default-via-then-rest-lt1 w ↦ left_none c.loop-rest.invariant (omega (arith, ltb-true))
      | in_default-via-in-len1-up+else-is_blank+then-rest-lt2 w ↦ left_last c.loop-rest.invariant (sym w.is_blank.ensures ∙ w.if-is_blank.false) (omega (arith, ltb-true))
      | in_default-via-in-len1-up+else-is_blank+else-rest-lt2+in-92+in_default-1 w ↦ left_kept c.loop-rest.invariant (sym w.is_blank.ensures ∙ w.if-is_blank.false) (omega (arith, ltb-false)) (λ e. omega arith)
      | in_default-via-in-len1-up+else-is_blank+else-rest-lt2+in_default-1 w ↦ left_other c.loop-rest.invariant (sym w.is_blank.ensures ∙ w.if-is_blank.false) (omega (arith, ltb-false)) (λ e. omega arith)
    ]
