-- `fields::decode` meets its contract. Assumes nothing.
use Rattle.std.proofs.Common.{◌≡◌, length, subst}
use Rattle.fields.specs.Fields.{Decodes}
use native.Mathlib.Omega.{arith}
use Rattle.fields.proofs.Digits.{no_room, no_pair, no_byte, more, ended}
use Rattle.fields.proofs.decode.Goals as goal

pub returns-then-rest-lt2 : goal.returns-then-rest-lt2
returns-then-rest-lt2 c = ended c.loop-n.invariant (no_pair _ _ c.if-rest-lt2.true)

pub returns-in_default : goal.returns-in_default
returns-in_default c = ended c.loop-n.invariant (no_byte _ _ (rw c.in_default.is at c.byte.ensures))

pub loop-n-preserved : goal.loop-n-preserved
loop-n-preserved c = more c.loop-n.invariant c.in-Some.c (omega (arith, c.loop-n-test.true, c.loop-n.invariant.long)) c.if-rest-lt2.false (rw c.in-Some.is at c.byte.ensures)

pub returns : goal.returns
returns c =
    let e : c.loop-n.n ≡ length c.loop-n.out = omega (arith, c.loop-n-test.false, c.loop-n.invariant.inside, c.loop-n.invariant.long) in
    subst (Decodes _ _ _) e (ended c.loop-n.invariant (no_room _ _ (omega (arith, c.loop-n-test.false))))
