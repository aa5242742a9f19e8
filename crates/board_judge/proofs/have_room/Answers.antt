-- `board_judge::have_room` meets its contract. The invariant: the queries from q on decide. Assumes nothing.
use mathlib.Core.Path.{sym, ap, ◌∙◌}
use Prim.Native.Nat.{ℕ}
use native.Mathlib.Nat.{sub-zero}
use native.Mathlib.Omega.{arith}
use Rattle.definition.specs.Lists.{all}
use Rattle.definition.specs.Board.{each, have_room}
use Rattle.board_layout.specs.Laid.{lent_of}
use Rattle.board_judge.proofs.Judging.{room_name, room_class, room_on, rooms_end}
use Rattle.board_judge.proofs.have_room.Goals as goal

pub loop-q-init : goal.loop-q-init
loop-q-init c = ap (λ (n : ℕ). all (have_room (lent_of c.args.buffers)) (each (λ q. q) 0 n)) (sub-zero c.args.count)

pub returns-then-name-gt-QUERY_BYTES : goal.returns-then-name-gt-QUERY_BYTES
returns-then-name-gt-QUERY_BYTES c = sym (sym c.loop-q.invariant ∙ room_name (lent_of c.args.buffers) c.loop-q.q c.args.count (omega arith) (omega arith))

pub returns-then-class-gt-QUERY_BYTES : goal.returns-then-class-gt-QUERY_BYTES
returns-then-class-gt-QUERY_BYTES c = sym (sym c.loop-q.invariant ∙ room_class (lent_of c.args.buffers) c.loop-q.q c.args.count (omega arith) (omega arith))

pub loop-q-preserved : goal.loop-q-preserved
loop-q-preserved c =
    sym (room_on (lent_of c.args.buffers) c.loop-q.q c.args.count (omega arith) (omega arith) (omega arith))
    ∙ c.loop-q.invariant

pub returns : goal.returns
returns c = sym (sym c.loop-q.invariant ∙ rooms_end (lent_of c.args.buffers) c.loop-q.q c.args.count (omega arith))
