-- `board_answers::put_answers` meets its contract. The invariant is `Put`. Assumes nothing.
use Rattle.std.specs.Prelude.{Ok}
use mathlib.Core.Path.{sym, ◌∙◌}
use native.Mathlib.Omega.{arith}
use Rattle.board_laws.proofs.Histories.{answered}
use Rattle.board_layout.specs.Laid.{lent_of}
use Rattle.board_answers.proofs.Answers.{answer_small, put_first, put_long, put_more, put_all}
use Rattle.board_answers.proofs.put_answers.Goals as goal

pub loop-q-init : goal.loop-q-init
loop-q-init c = put_first _ _ _ c.requires.0 c.requires.1

pub answer_code-requires : goal.answer_code-requires
answer_code-requires c =
    let l = lent_of c.args.board.buffers in
    answer_small l c.loop-q.q (Ok c.watched.result) (c.watched.ensures ∙ sym (answered l c.args.board.is_one c.loop-q.q))

pub bounds-answers-q : goal.bounds-answers-q
bounds-answers-q c = omega (arith, put_long _ _ _ c.requires.0 c.requires.1 _ _ _ c.loop-q.invariant)

pub loop-q-preserved : goal.loop-q-preserved
loop-q-preserved c = put_more _ _ _ c.requires.0 c.requires.1 _ _ _ c.loop-q.invariant (omega arith) (Ok c.watched.result) c.watched.ensures _ _ c.answer_code.ensures

pub shape_of-answers : goal.shape_of-answers
shape_of-answers c = omega (arith, put_long _ _ _ c.requires.0 c.requires.1 _ _ _ c.loop-q.invariant, c.requires.0)

pub shape_of-packs : goal.shape_of-packs
shape_of-packs c = omega (arith, put_long _ _ _ c.requires.0 c.requires.1 _ _ _ c.loop-q.invariant, c.requires.1)

pub returns : goal.returns
returns c = put_all _ _ _ c.requires.0 c.requires.1 _ _ _ c.loop-q.invariant (omega arith)

pub bounds-packs-q : goal.bounds-packs-q
bounds-packs-q c = omega (arith, put_long _ _ _ c.requires.0 c.requires.1 _ _ _ c.loop-q.invariant)
