-- `utf8::character_length` meets its contract. Assumes nothing.
use mathlib.Core.Bool.{true, false}
use mathlib.Core.Path.{sym, ◌∙◌}
use Prim.Native.Nat.{◌+◌, ◌≤◌}
use native.Mathlib.Omega.{arith}
use lib.ListN.{length}
use borrow.Author.Tests.{not-true, not-false}
use Rattle.utf8.proofs.Characters.{taken_ascii, taken_none, taken_short, taken_second, taken_trail, taken_whole, followed}
use Rattle.utf8.proofs.character_length.Goals as goal

pub returns-then-first-lt128 : goal.returns-then-first-lt128
returns-then-first-lt128 c = taken_ascii c.args.text.now c.requires c.if-first-lt128.true

pub returns-in_err-low : goal.returns-in_err-low
returns-in_err-low c = rw c.from_residual.ensures (taken_none c.args.text.now c.requires c.in_err-low.ensures)

pub returns-then-text-more : goal.returns-then-text-more
returns-then-text-more c = taken_short c.args.text.now c.requires c.in_ok-low.field-0 c.in_ok-low.ensures (omega (arith, c.if-text-more.true))

pub returns-then-not-in_range : goal.returns-then-not-in_range
returns-then-not-in_range c =
    let k : 2 + c.in_ok-low.field-0.2 ≤ length c.args.text.now = omega (arith, c.if-text-more.false) in
    taken_second c.args.text.now c.requires c.in_ok-low.field-0 c.in_ok-low.ensures k (sym c.in_range.ensures ∙ not-true _ c.if-not-in_range.true-raw)

pub returns-then-not-trails : goal.returns-then-not-trails
returns-then-not-trails c =
    let k : 2 + c.in_ok-low.field-0.2 ≤ length c.args.text.now = omega (arith, c.if-text-more.false) in
    taken_trail c.args.text.now c.requires c.in_ok-low.field-0 c.in_ok-low.ensures k
    (sym c.in_range.ensures ∙ not-false _ c.if-not-in_range.false-raw)
    (followed c.args.text.now c.in_ok-low.field-0.2 false c.trails.result c.trails.ensures (not-true _ c.if-not-trails.true-raw))

pub returns : goal.returns
returns c =
    let k : 2 + c.in_ok-low.field-0.2 ≤ length c.args.text.now = omega (arith, c.if-text-more.false) in
    taken_whole c.args.text.now c.requires c.in_ok-low.field-0 c.in_ok-low.ensures k
    (sym c.in_range.ensures ∙ not-false _ c.if-not-in_range.false-raw)
    (followed c.args.text.now c.in_ok-low.field-0.2 true c.trails.result c.trails.ensures (not-false _ c.if-not-trails.false-raw))
