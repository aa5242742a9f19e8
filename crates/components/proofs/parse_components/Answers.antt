use mathlib.Core.Path.{◌∙◌}
use Rattle.components.proofs.Counting.{counting_first, counting_next, counting_done}
use Rattle.components.proofs.Verbatim.{flag_odd, flag_one}
use Rattle.components.proofs.parse_components.Goals as goal
use Rattle.components.proofs.parse_components.Goals.{then-start-ne1, else-start-ne1}

pub loop-next-init : goal.loop-next-init
loop-next-init c = counting_first _

pub loop-next-preserved : goal.loop-next-preserved
loop-next-preserved c =
    counting_next c.loop-next.invariant c.in-Some.ensures _
    (elim c.if-start-ne1.branch [
      | then-start-ne1 w ↦ w.verbatim-is ∙ flag_odd c.loop-next.verbatim c.loop-next.count c.in-Some.next.start w.if-start-ne1.true
      | else-start-ne1 w ↦ w.verbatim-is ∙ flag_one c.loop-next.verbatim c.loop-next.count c.in-Some.next.start w.if-start-ne1.false
    ])

pub returns : goal.returns
returns c = counting_done c.loop-next.invariant c.in_default.ensures
