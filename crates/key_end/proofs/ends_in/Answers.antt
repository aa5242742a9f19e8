-- `key_end::ends_in` meets its contract: from byte i on the key's end is the name. Assumes nothing.
use mathlib.Core.Path.{◌≡◌, sym, ◌∙◌}
use Prim.Native.Nat.{◌+◌, ◌-◌}
use native.Mathlib.Omega.{arith}
use Rattle.key_end.proofs.Ends.{short_end, ends_first, ends_more, other_end, ends_binding}
use Rattle.key_end.proofs.ends_in.Goals as goal

pub returns-then-key-n : goal.returns-then-key-n
returns-then-key-n c = sym (short_end _ _ c.if-key-n.true)

pub loop-i-init : goal.loop-i-init
loop-i-init c = (omega arith, ends_first c.args.key.now c.args.name.now c.if-key-n.false)

pub returns-then-key-at : goal.returns-then-key-at
returns-then-key-at c = sym (other_end _ _ c.if-key-n.false _ c.if-key-at.true)

pub loop-i-preserved : goal.loop-i-preserved
loop-i-preserved c =
    let z : c.loop-i.i ≡ c.loop-i.i - 1 + 1 = omega arith in
    (omega arith, ends_more c.args.key.now c.args.name.now c.if-key-n.false (c.loop-i.i - 1) (omega arith) (rw z at c.loop-i.invariant.1) c.if-key-at.false)

pub returns : goal.returns
returns c = c.is_binding.ensures ∙ sym (ends_binding _ _ c.if-key-n.false c.loop-i.i c.loop-i-test.false c.loop-i.invariant.1)
