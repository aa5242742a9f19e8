-- `replay_default::cases::take_chain` meets its contract: what is left is never longer than the line. Assumes nothing.
use mathlib.Core.Path.{◌≡◌}
use Prim.Native.Nat.{◌≤◌}
use lib.ListN.{length}
use Rattle.replay_default.proofs.cases.take_chain.Given as goal

abbrev pub invariant-loop-field : goal.invariant-loop-field
invariant-loop-field l = (l.at ≤ length l.store) × (length l.store ≡ length l.initial.store) × (length l.rest ≤ length l.line)
