-- `fields::pass_bytes` meets its contract. Assumes nothing.
use Prim.Native.Nat.{ℕ}
use lib.ListN.{length-replicate}
use Rattle.fields.proofs.Passing.{bytes_yes, bytes_no, no_bytes}
use Rattle.fields.proofs.pass_bytes.Goals as goal

pub returns-in_default : goal.returns-in_default
returns-in_default c = (no_bytes _ _ _ _ (length-replicate {A = ℕ} 32768 0) (rw c.in_default.is at c.take_bytes.ensures), tt)

pub returns-then-eq : goal.returns-then-eq
returns-then-eq c =
    let k = rw c.in-Some.is at c.take_bytes.ensures in
    (bytes_yes _ _ _ _ (length-replicate {A = ℕ} 32768 0) _ k _ c.eq.ensures c.if-eq.true, k.inside.1)

pub returns : goal.returns
returns c = (bytes_no _ _ _ _ (length-replicate {A = ℕ} 32768 0) _ (rw c.in-Some.is at c.take_bytes.ensures) _ c.eq.ensures c.if-eq.false, tt)
