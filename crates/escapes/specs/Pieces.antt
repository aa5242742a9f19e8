-- What follows a backslash, as the code answers it: one byte, or none, and how many bytes of text give it, the backslash among them.
use Rattle.std.specs.Prelude.{ℕ, Some, None, ◌+◌, ◌%◌, ◌||◌, List, [], ◌∷◌, length, take, drop, ◌==◌, if◌then◌else◌}
use Rattle.definition.specs.Lists.{take_while}
use Rattle.definition.specs.Bytes.{newline, backslash, letter_n, is_blank, is_octal}
use Rattle.definition.specs.Text.{positional, line_ends}
use Rattle.escapes.specs.declared.Piece.{Piece}

-- n bytes of text give a byte
abbrev pub piece_of : ℕ → ℕ → Piece
piece_of b n = record { byte = Some b; len = n }

-- n bytes of text give nothing
abbrev pub no_byte : ℕ → Piece
no_byte n = record { byte = None; len = n }

-- octal digits at the front of a text, three at most
abbrev pub digits : List ℕ → List ℕ
digits t = take_while is_octal (take 3 t)

-- octal digits ds after a backslash, with u after them. A backslash that is kept is a piece of its own: the digits after it are plain
unfoldable pub octal_in : List ℕ → List ℕ → Piece
octal_in ds u =
    if length ds == 3 then piece_of (positional 8 0 ds % 256) 4 else
    if line_ends u then no_byte (1 + length ds) else
    piece_of backslash 1

-- the escape whose backslash stands before the text
unfoldable pub escape_in : List ℕ → Piece
escape_in [] = piece_of backslash 1
escape_in (c ∷ t) =
    if is_blank c || c == backslash then piece_of c 2 else
    if c == letter_n then piece_of newline 2 else
    if c == newline then no_byte 2 else
    if is_octal c then octal_in (digits (c ∷ t)) (drop (length (digits (c ∷ t))) (c ∷ t)) else
    piece_of backslash 1
