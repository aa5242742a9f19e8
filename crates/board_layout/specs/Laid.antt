-- Lent buffers as the definition sees them.
use Rattle.definition.specs.Board.{Lent, lent}
use Rattle.board_layout.specs.declared.Buffers.{Buffers}

-- their words and their bytes
abbrev pub lent_of : Buffers → Lent
lent_of b = lent b.words.now b.bytes.now
