-- `board::slot_of` meets its contract. Assumes nothing.
use mathlib.Core.Path.{sym, ap, ◌∙◌}
use Prim.Native.Nat.{ℕ}
use native.Mathlib.Omega.{arith}
use lib.ListN.{get_or}
use Rattle.board.proofs.Writing.{before_first, before_found, before_more, before_end}
use Rattle.board.proofs.slot_of.Goals as goal

pub loop-i-init : goal.loop-i-init
loop-i-init c = before_first c.args.words.now c.args.number c.args.count

pub returns-then-there-number : goal.returns-then-there-number
returns-then-there-number c =
    before_found c.args.words.now c.args.number c.args.count c.loop-i.invariant (omega arith)
    (ap (λ (n : ℕ). get_or c.args.words.now n 0) (sym c.slot_start.ensures) ∙ c.if-there-number.true)

pub loop-i-preserved : goal.loop-i-preserved
loop-i-preserved c =
    before_more c.args.words.now c.args.number c.args.count c.loop-i.invariant (omega arith)
    (λ z. c.if-there-number.false (ap (λ (n : ℕ). get_or c.args.words.now n 0) c.slot_start.ensures ∙ z))

pub returns : goal.returns
returns c = before_end c.args.words.now c.args.number c.args.count c.loop-i.invariant (omega arith)
