-- `board_judge::have_room` meets its contract. The invariant: the queries from q on decide. Assumes nothing.
use mathlib.Core.Path.{◌≡◌}
use Prim.Native.Nat.{ℕ, ◌-◌}
use Rattle.definition.specs.Lists.{all}
use Rattle.definition.specs.Board.{each, have_room}
use Rattle.board_layout.specs.Laid.{lent_of}
use Rattle.board_judge.proofs.have_room.Given as goal

abbrev pub invariant-loop-q : goal.invariant-loop-q
invariant-loop-q l = all (have_room (lent_of l.buffers)) (each (λ (q : ℕ). q) l.q (l.count - l.q)) ≡ all (have_room (lent_of l.buffers)) (each (λ (q : ℕ). q) 0 l.count)
