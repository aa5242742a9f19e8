-- `key_judge::count_bindings` meets its contract. The invariant: those counted and those left are all. Assumes nothing.
use Rattle.std.specs.Prelude.{if◌then◌else◌}
use mathlib.Core.Path.{◌≡◌, ◌∙◌}
use native.Mathlib.Omega.{arith}
use lib.ListN.{get_or}
use Rattle.definition.specs.Bytes.{is_binding}
use Rattle.key_judge.proofs.Pairs.{one_if, bindings_more, bindings_end, bit_most}
use Rattle.key_judge.proofs.count_bindings.Goals as goal

pub loop-c-init : goal.loop-c-init
loop-c-init c = (omega arith, omega arith)

pub overflow_add-n : goal.overflow_add-n
overflow_add-n c = omega (arith, c.requires, c.loop-c.invariant.0, c.loop-c-test.true, c.from-n.ensures, one_if c.is_binding.result, bit_most c.is_binding.result)

pub loop-c-preserved : goal.loop-c-preserved
loop-c-preserved c =
    let w = bit_most (is_binding (get_or c.args.key.now c.loop-c.c-index 0)) in
    let b : c.from-n.result ≡ (if is_binding (get_or c.args.key.now c.loop-c.c-index 0) then 1 else 0) = rw c.is_binding.ensures at (c.from-n.ensures ∙ one_if _) in
    let m = bindings_more c.args.key.now c.loop-c.c-index c.loop-c-test.true in
    (omega (arith, c.loop-c.invariant.0, b, w), omega (arith, c.loop-c.invariant.1, b, m))

pub returns : goal.returns
returns c = omega (arith, c.loop-c.invariant.1, bindings_end c.args.key.now c.loop-c.c-index c.loop-c-test.false)
