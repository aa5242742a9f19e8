-- `board_report::changes` meets its contract. Assumes nothing.
use mathlib.Core.Path.{◌∙◌}
use Rattle.definition.specs.Board.{slot_at}
use Rattle.board_layout.specs.Laid.{lent_of}
use Rattle.board_search.proofs.Finding.{spot_named}
use Rattle.board_report.proofs.Reporting.{unchanged_none, unchanged_other, changed_gone, changed_value}
use Rattle.board_report.proofs.changes.Goals as goal

pub returns-in-None : goal.returns-in-None
unfolding slot_at
returns-in-None c = unchanged_none (lent_of c.args.board.buffers) c.args.board.is_one c.args.i c.requires.0 c.args.q c.in-None.ensures

pub returns-then-n-i : goal.returns-then-n-i
unfolding slot_at
returns-then-n-i c = unchanged_other (lent_of c.args.board.buffers) c.args.board.is_one c.args.i c.requires.0 c.args.q _ c.in-Some.ensures c.if-n-i.true

pub returns-in-None-find : goal.returns-in-None-find
unfolding slot_at
returns-in-None-find c =
    changed_gone (lent_of c.args.board.buffers) c.args.board.is_one c.args.i c.requires.0 c.args.q _ c.in-Some.ensures c.in-None-find.ensures

pub differ-requires : goal.differ-requires
differ-requires c =
    let l = lent_of c.args.board.buffers in
    (spot_named l c.args.board.is_one _ _ _ c.in-Some.ensures, spot_named l c.args.board.is_one _ _ _ c.in-Some-find.ensures)

pub returns-in-Some-find : goal.returns-in-Some-find
unfolding slot_at
returns-in-Some-find c =
    c.differ.ensures
    ∙ changed_value (lent_of c.args.board.buffers) c.args.board.is_one c.args.i c.requires.0 c.args.q _ _ c.in-Some.ensures c.in-Some-find.ensures
