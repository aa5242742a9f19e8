-- `board_layout::Buffers::query_at` meets its contract. Assumes nothing.
use Rattle.board_layout.specs.Laid.{lent_of}
use Rattle.board_layout.proofs.Parts.{name_part, class_part}
use Rattle.board_layout.proofs.Buffers.query_at.Goals as goal

pub returns-clause-name : goal.returns-clause-name
returns-clause-name c = name_part (lent_of c.args.self) _ _ _ 0 c.text_start-first.ensures c.lengths_at-lengths.ensures.name.0

pub returns-clause-class : goal.returns-clause-class
returns-clause-class c = class_part (lent_of c.args.self) _ _ _ _ c.text_start-first.ensures c.lengths_at-lengths.ensures.name.0 c.lengths_at-lengths.ensures.class.0
