-- `reports::tell_both` meets its contract. Assumes nothing.
use mathlib.Core.Path.{refl, sym, ◌∙◌}
use Rattle.printing.proofs.Pieces.{then_piece}
use Rattle.reports.specs.Telling.{both_told}
use Rattle.reports.proofs.tell_both.Goals as goal

pub returns-then-same_answer : goal.returns-then-same_answer
unfolding both_told
returns-then-same_answer c =
    rw (sym c.same_answer.ensures ∙ c.if-same_answer.true)
    (record { puts = then_piece (then_piece c.put_line.ensures c.put_line-2.ensures) c.put.ensures; status = refl; wrong = refl })

pub returns : goal.returns
unfolding both_told
returns c =
    rw (sym c.same_answer.ensures ∙ c.if-same_answer.false)
    (record { puts = then_piece (then_piece c.put_line.ensures c.put_line-2.ensures) c.put-2.ensures; status = refl; wrong = refl })
