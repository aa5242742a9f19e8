use borrow.Author.Rules.{rules}
use mathlib.Core.Path.{◌≡◌, sym, ap, ◌∙◌}
use Prim.Native.Nat.{ℕ, ◌+◌, ◌*◌, ◌-◌, ◌^◌, ◌<◌}
use native.Mathlib.Omega.{arith}
use mathlib.Core.Bool.{true}
use lib.ListN.{length, get_or}
use borrow.Author.Tests.{not-true, not-false}
use Rattle.std.proofs.lemmas.Bool.Decides.{nat_tests}
use Rattle.definition.specs.Bytes.{within}
use Rattle.integers.specs.Readings.{magnitude, natural_in}
use Rattle.integers.proofs.Numbers.{natural_none, natural_first, digits_more, digits_stop, digits_past, digits_large, digits_end}
use Rattle.integers.proofs.parse_natural.Goals as goal

pub returns-then-is_empty : goal.returns-then-is_empty
unfolding natural_in
returns-then-is_empty c = sym (natural_none c.args.text.now (grind (arith, nat_tests)))

pub loop-c-init : goal.loop-c-init
loop-c-init c = ap magnitude (natural_first c.args.text.now (grind (arith, nat_tests)))

pub returns-then-not-in_range : goal.returns-then-not-in_range
unfolding natural_in
returns-then-not-in_range c =
    let h : c.loop-c.c-index < length c.args.text.now = search rules in
    sym (c.loop-c.invariant ∙ digits_stop c.args.text.now c.loop-c.n c.loop-c.c-index h (sym c.in_range.ensures ∙ not-true _ c.if-not-in_range.true-raw))

pub returns-in_err-checked_mul : goal.returns-in_err-checked_mul
unfolding natural_in
returns-in_err-checked_mul c =
    let h : c.loop-c.c-index < length c.args.text.now = search rules in
    let past : 2 ^ 63 < c.loop-c.n * 10 + (get_or c.args.text.now c.loop-c.c-index 0 - 48) = grind (arith, c.in_err-checked_mul.ensures) in
    rw c.from_residual.ensures
    (sym (c.loop-c.invariant ∙ digits_past c.args.text.now c.loop-c.n c.loop-c.c-index h past (sym c.in_range.ensures ∙ not-false _ c.if-not-in_range.false-raw)))

pub returns-in_err-n : goal.returns-in_err-n
unfolding natural_in
returns-in_err-n c =
    let h : c.loop-c.c-index < length c.args.text.now = search rules in
    let tens = c.in_ok-checked_mul.ensures in
    let past : 2 ^ 63 < c.loop-c.n * 10 + (get_or c.args.text.now c.loop-c.c-index 0 - 48) = grind (arith, tens, c.in_err-n.ensures) in
    rw c.from_residual-in_err-n.ensures
    (sym (c.loop-c.invariant ∙ digits_past c.args.text.now c.loop-c.n c.loop-c.c-index h past (sym c.in_range.ensures ∙ not-false _ c.if-not-in_range.false-raw)))

pub loop-c-preserved : goal.loop-c-preserved
loop-c-preserved c =
    let h : c.loop-c.c-index < length c.args.text.now = search rules in
    let digit : within 48 57 (get_or c.args.text.now c.loop-c.c-index 0) ≡ true = sym c.in_range.ensures ∙ not-false _ c.if-not-in_range.false-raw in
    let more : c.in_ok-n.n ≡ c.loop-c.n * 10 + (get_or c.args.text.now c.loop-c.c-index 0 - 48) = c.in_ok-n.ensures.1 ∙ ap (λ (x : ℕ). x + (get_or c.args.text.now c.loop-c.c-index 0 - 48)) c.in_ok-checked_mul.ensures.1 in
    rw more (c.loop-c.invariant ∙ ap magnitude (digits_more c.args.text.now c.loop-c.n c.loop-c.c-index h digit))

pub returns-then-n-le-MOST : goal.returns-then-n-le-MOST
unfolding natural_in
returns-then-n-le-MOST c = sym (c.loop-c.invariant ∙ digits_end c.args.text.now c.loop-c.n c.loop-c.c-index (search rules) c.if-n-le-MOST.true)

pub returns-else-n-le-MOST : goal.returns-else-n-le-MOST
unfolding natural_in
returns-else-n-le-MOST c = sym (c.loop-c.invariant ∙ digits_large c.args.text.now c.loop-c.n c.loop-c.c-index (search rules) c.if-n-le-MOST.false)
