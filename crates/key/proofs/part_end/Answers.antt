-- `key::part_end` meets its contract: the run from `at` on ends where the run from i on ends. Assumes nothing.
use mathlib.Core.Bool.{not}
use mathlib.Core.Path.{sym, ap, ◌∙◌}
use native.Mathlib.Omega.{arith}
use Rattle.key.specs.Keys.{not_binding}
use Rattle.laws.proofs.Lists.{run_more, run_stop, run_end}
use borrow.Author.Rules.{rules}
use Rattle.key.proofs.part_end.Goals as goal

pub returns-then-is_binding : goal.returns-then-is_binding
unfolding not_binding
returns-then-is_binding c =
    let binds = ap not (sym c.is_binding.ensures ∙ c.if-is_binding.true) in
    omega (arith, c.loop-i.invariant.2, run_stop not_binding c.args.key.now c.loop-i.i 0 c.loop-i-test.true binds)

pub loop-i-preserved : goal.loop-i-preserved
unfolding not_binding
loop-i-preserved c =
    let goes_on = ap not (sym c.is_binding.ensures ∙ c.if-is_binding.false) in
    let e = run_more not_binding c.args.key.now c.loop-i.i 0 c.loop-i-test.true goes_on in
    (search rules, search rules, omega (arith, c.loop-i.invariant.2))

pub returns : goal.returns
returns c = omega (arith, c.loop-i.invariant.2, run_end not_binding c.args.key.now c.loop-i.i c.loop-i-test.false)
