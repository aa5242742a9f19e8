-- What name and class have at a position of a query, and a mark there, as the code holds them.
use Rattle.std.specs.Prelude.{List, [], ◌∷◌, ℕ, ltb, length, if◌then◌else◌}
use Rattle.std.proofs.Math.Option.{Option, some, none}
use Rattle.definition.specs.Query.{Position, positions_of}
use Rattle.query.specs.Splits.{part_in, names_in}
use Rattle.query.specs.declared.Names.{Names}

-- the bytes of a text's i-th part, and none where there is none
unfoldable pub part_at : List ℕ → List ℕ → List ℕ → ℕ → List ℕ
part_at t starts lengths i = if ltb i (length starts) then part_in t starts lengths i else []

-- the part that has those bytes: one of no bytes is missing
unfoldable pub part_of : List ℕ → Option (List ℕ)
part_of [] = none
part_of (c ∷ t) = some (c ∷ t)

abbrev pub position_of : List ℕ → List ℕ → Position
position_of n c = record { instance = part_of n; class = part_of c }

-- the positions of a split query
abbrev pub queried : List ℕ → List ℕ → List ℕ → List ℕ → List ℕ → List ℕ → List Position
queried name starts lengths class class-starts class-lengths = positions_of (names_in name starts lengths) (names_in class class-starts class-lengths)

abbrev pub positions_in : Names → Names → List Position
positions_in name class = queried name.text.now name.starts.now name.lengths.now class.text.now class.starts.now class.lengths.now

-- a mark in a byte: 0 stands for none
unfoldable pub mark_byte : Option ℕ → ℕ
mark_byte none = 0
mark_byte (some m) = m
