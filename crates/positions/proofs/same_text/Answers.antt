-- `positions::same_text` meets its contract: from byte i on the two are the same just where they are from the start. Assumes nothing.
use mathlib.Core.Path.{sym, ◌∙◌}
use Prim.Native.Nat.{◌≤◌, ◌<◌}
use native.Mathlib.Omega.{arith}
use lib.ListN.{length}
use Rattle.laws.proofs.Lists.{same_from_equal, same_from_other, same_from_end, same_lengths}
use borrow.Author.Rules.{rules}
use Rattle.positions.proofs.same_text.Goals as goal

pub returns-then-a-b : goal.returns-then-a-b
returns-then-a-b c = sym (same_lengths _ _ c.if-a-b.true)

pub returns-then-a-i : goal.returns-then-a-i
returns-then-a-i c =
    let h : c.loop-i.i < length c.args.a.now = search rules in
    let k : c.loop-i.i < length c.args.b.now = omega arith in
    sym (same_from_other c.args.a.now c.args.b.now c.loop-i.i h k c.if-a-i.true) ∙ c.loop-i.invariant.2

pub loop-i-preserved : goal.loop-i-preserved
loop-i-preserved c =
    let h : c.loop-i.i < length c.args.a.now = search rules in
    let k : c.loop-i.i < length c.args.b.now = omega arith in
    (search rules, c.loop-i.invariant.1, sym (same_from_equal c.args.a.now c.args.b.now c.loop-i.i h k c.if-a-i.false) ∙ c.loop-i.invariant.2)

pub returns : goal.returns
returns c =
    let h : length c.args.a.now ≤ c.loop-i.i = search rules in
    sym (same_from_end c.args.a.now c.args.b.now c.loop-i.i h (omega arith)) ∙ c.loop-i.invariant.2
