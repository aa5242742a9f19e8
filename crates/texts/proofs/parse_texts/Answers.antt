-- `texts::parse_texts` meets its contract. Assumes nothing.
use native.Mathlib.Omega.{arith}
use Rattle.std.proofs.lemmas.Result.{err_from_is_err_and}
use Rattle.texts.proofs.Texts.{reading_first, reading_done, reading_text, text_stops}
use Rattle.texts.proofs.parse_texts.Goals as goal

pub loop-text-init : goal.loop-text-init
loop-text-init c = reading_first (λ x. x.now) _ _ (omega arith) (omega arith)

pub parse_text-requires : goal.parse_text-requires
parse_text-requires c = c.loop-text.invariant.room

pub loop-text-preserved : goal.loop-text-preserved
loop-text-preserved c =
    reading_text (λ x. x.now) c.loop-text.invariant _ c.loop-text-test.true _ _ _
    (rw c.in_ok-next.was at c.parse_text.ensures)

pub returns-in_err-next : goal.returns-in_err-next
returns-in_err-next c =
    let p = err_from_is_err_and c.from_residual.result c.from_residual.ensures.1 in
    rw (p.1, p.2) (text_stops (λ x. x.now) c.loop-text.invariant _ c.loop-text-test.true _ _ _ (rw c.in_err-next.was at c.parse_text.ensures))

pub returns : goal.returns
returns c = reading_done (λ x. x.now) c.loop-text.invariant c.loop-text-test.false
