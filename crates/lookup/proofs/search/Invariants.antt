-- `lookup::search` meets its contract: going on from entry i with the best so far comes to what is looked for. Assumes nothing.
use Rattle.std.specs.Prelude.{IfSome}
use Prim.Native.Nat.{◌<◌, max}
use lib.ListN.{length}
use Rattle.positions.specs.Parts.{positions_in}
use Rattle.lookup.specs.Searches.{found_or}
use Rattle.lookup.proofs.Looking.{Searching}
use Rattle.lookup.proofs.search.Given as goal

abbrev pub invariant-loop-i : goal.invariant-loop-i
invariant-loop-i l = record {
  searching : Searching l.image.contents.now l.image.bodies.now (positions_in l.name l.class) l.first l.next l.last (max (length l.name.starts.now) (length l.class.starts.now)) l.initial.held l.i (found_or l.last l.found) l.held;
  below : IfSome l.found (λ i. i < l.last);
}
