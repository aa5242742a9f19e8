-- `key_end::ends_in` meets its contract: from byte i on the key's end is the name. Assumes nothing.
use Prim.Native.Nat.{◌≤◌}
use Rattle.key_end.proofs.Ends.{Ends}
use Rattle.key_end.proofs.ends_in.Given as goal

abbrev pub invariant-loop-i : goal.invariant-loop-i
invariant-loop-i l = (l.i ≤ l.n) × Ends l.key l.name l.i
