-- `shared_keys::next_with` meets its contract: the first with that key from entry j on is the one. Assumes nothing.
use mathlib.Core.Path.{sym, ◌∙◌}
use Prim.Native.Nat.{◌<◌}
use native.Mathlib.Omega.{arith}
use Rattle.definition.specs.Image.{count_of}
use Rattle.scan.proofs.Bridges.{same_pointwise}
use Rattle.shared_keys.proofs.Sharing.{looking_first, looks_here, looking_more, looks_end, same_bytes, other_bytes}
use Rattle.shared_keys.proofs.next_with.Goals as goal

pub loop-j-init : goal.loop-j-init
loop-j-init c = looking_first _ _ _ _

pub returns-then-eq : goal.returns-then-eq
returns-then-eq c =
    let below : c.loop-j.j < count_of c.args.image.now.contents.now = omega (arith, c.loop-j-test.true, c.count-j-end.ensures) in
    let k = c.key.ensures in
    looks_here _ _ _ _ c.args.image.now.judged c.loop-j.j c.loop-j.invariant below (rw k.0 at (same_bytes _ _ c.requires k.1 (sym (c.if-eq.ensures ∙ same_pointwise _ _))))

pub loop-j-preserved : goal.loop-j-preserved
loop-j-preserved c =
    let below : c.loop-j.j < count_of c.args.image.now.contents.now = omega (arith, c.loop-j-test.true, c.count-j-end.ensures) in
    let k = c.key.ensures in
    looking_more _ _ _ _ c.args.image.now.judged c.loop-j.j c.loop-j.invariant below (rw k.0 at (other_bytes _ _ c.requires k.1 (sym (c.if-eq.ensures ∙ same_pointwise _ _))))

pub returns : goal.returns
returns c = looks_end _ _ _ _ c.args.image.now.judged c.loop-j.j c.loop-j.invariant (omega (arith, c.loop-j-test.false, c.count-j-end.ensures))
