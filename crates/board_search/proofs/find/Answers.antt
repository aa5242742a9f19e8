-- `board_search::find` meets its contract. Assumes nothing.
use mathlib.Core.Path.{◌∙◌}
use native.Mathlib.Omega.{arith}
use Rattle.board_laws.proofs.Calls.{laid}
use Rattle.board_layout.specs.Laid.{lent_of}
use Rattle.board_search.specs.Slots.{spot_of}
use Rattle.board_search.proofs.Asking.{room_of, spot_malformed, spot_past, spot_watched}
use Rattle.board_search.proofs.find.Goals as goal

pub query_at-requires : goal.query_at-requires
query_at-requires c =
    let l = lent_of c.args.board.buffers in
    (omega (arith, c.requires, (laid l c.args.board.is_one).queries_most), room_of l c.args.board.is_one _ c.requires)

pub returns-in-Ok-None : goal.returns-in-Ok-None
returns-in-Ok-None c =
    let l = lent_of c.args.board.buffers in
    spot_malformed l _
    ∙ spot_watched l _ c.args.q c.requires _ _ c.query_at.ensures.name c.query_at.ensures.class _ (rw c.in-Ok-None.field-0-is at c.in-Ok-None.ensures.query)

pub returns-in-Err : goal.returns-in-Err
returns-in-Err c =
    let l = lent_of c.args.board.buffers in
    spot_past l _ _ ∙ spot_watched l _ c.args.q c.requires _ _ c.query_at.ensures.name c.query_at.ensures.class _ c.in-Err.ensures.query

pub names-name-requires : goal.names-name-requires
names-name-requires c = (omega arith, (rw c.in-Ok-Some.field-0-is at c.in-Ok-Some.ensures.inside).0)

pub names-class-requires : goal.names-class-requires
names-class-requires c = (omega arith, (rw c.in-Ok-Some.field-0-is at c.in-Ok-Some.ensures.inside).1)

pub returns-in-Ok-Some : goal.returns-in-Ok-Some
unfolding spot_of
returns-in-Ok-Some c =
    let l = lent_of c.args.board.buffers in
    let q = rw c.in-Ok-Some.field-0-is at c.in-Ok-Some.ensures.query in
    let n = c.names-name.ensures in
    let k = c.names-class.ensures in
    rw (n.text, n.starts, n.lengths, k.text, k.starts, k.lengths) at c.search_board.ensures
    ∙ spot_watched l _ c.args.q c.requires _ _ c.query_at.ensures.name c.query_at.ensures.class _ q
