-- `tell_shared::tell_entry` ends: each entry is after the one before. Assumes nothing.
use Prim.Native.Nat.{◌-◌}
use Rattle.definition.specs.Image.{count_of}
use Rattle.tell_shared.proofs.tell_entry.Given as goal

abbrev pub invariant-loop-j : goal.invariant-loop-j
invariant-loop-j l = Unit {0}

abbrev pub decreases-loop-j : goal.decreases-loop-j
decreases-loop-j l = count_of l.other.image.contents.now - l.next
