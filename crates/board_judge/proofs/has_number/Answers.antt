-- `board_judge::has_number` meets its contract. The invariant: the slots from i on decide. Assumes nothing.
use mathlib.Core.Path.{refl, sym, ◌∙◌}
use Rattle.board_judge.proofs.Judging.{number_found, number_on, number_none}
use Rattle.board_judge.proofs.has_number.Goals as goal

pub returns-then-slot_at-number : goal.returns-then-slot_at-number
returns-then-slot_at-number c =
    let e = sym c.slot_at.ensures.number ∙ c.if-slot_at-number.true in
    sym (sym c.loop-i.invariant ∙ number_found _ _ c.loop-i.i _ c.loop-i-test.true e)

pub loop-i-preserved : goal.loop-i-preserved
loop-i-preserved c = sym (number_on _ _ c.loop-i.i _ c.loop-i-test.true (λ z. c.if-slot_at-number.false (c.slot_at.ensures.number ∙ z))) ∙ c.loop-i.invariant

pub returns : goal.returns
returns c = sym (sym c.loop-i.invariant ∙ number_none _ _ c.loop-i.i _ c.loop-i-test.false)

pub loop-i-init : goal.loop-i-init
loop-i-init c = refl
