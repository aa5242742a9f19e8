-- `matcher::match_key` meets its contract: more parts than positions, or the row of the last part at the last position. The outer invariant
-- is `Passing`, the inner one `Turning`. Assumes nothing.
use Prim.Native.Nat.{◌≤◌}
use Rattle.definition.specs.Image.{key_parts}
use Rattle.positions.specs.Parts.{position_of, positions_in}
use Rattle.matcher.proofs.Walking.{Passing, Turning}
use Rattle.matcher.proofs.match_key.Given as goal

abbrev pub invariant-parts : goal.invariant-parts
invariant-parts l = Turning (key_parts l.key) (position_of l.n l.c) l.top l.p l.initial.rows l.rows l.i

abbrev pub invariant-positions : goal.invariant-positions
invariant-positions l = (l.p ≤ l.last) × Passing (key_parts l.key) (positions_in l.name l.class) l.top l.p l.rows
