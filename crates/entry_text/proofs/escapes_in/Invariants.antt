-- `entry_text::escapes_in` meets its contract. Assumes nothing.
use Rattle.std.specs.Slice.Iter.{chunks_rest, chunks_size}
use Prim.Native.Nat.{◌≤◌}
use Rattle.entry_text.proofs.Texts.{Counted}
use Rattle.entry_text.proofs.escapes_in.Given as goal

abbrev pub invariant-loop-part : goal.invariant-loop-part
invariant-loop-part l =
    goal.iterator-loop-part.can_next l.part-iterator
    × goal.iterator-loop-part.is_finite l.part-iterator
    × (chunks_size l.part-iterator ≤ 255)
    × Counted l.bytes (chunks_rest l.part-iterator) l.n
