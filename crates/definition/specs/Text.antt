-- Reading a text, line by line (document 01, "Reading a text"; Xlib 15.1; `parse_database` and `parse_entry`).
-- A departure of the Rust from the manual is marked "Departure" where it stands.
use Rattle.std.specs.Prelude.{Bool, true, false, ◌&&◌, ◌||◌, not, ℕ, ◌+◌, ◌*◌, ◌-◌, ◌%◌, eqb, length, take, drop, if◌then◌else◌}
use mathlib.Core.List.{List, [], ◌∷◌, flatten}
use Rattle.std.proofs.Math.Option.{Option, some, none}
use Rattle.definition.specs.Lists.{ascii, any, take_while, drop_while}
use Rattle.definition.specs.Parsing.{Parse, nothing, found, Parsed, many, ◌>>=◌, after}
use Rattle.definition.specs.Bytes.{
  newline,
  exclamation,
  quote,
  hash,
  star,
  question,
  backslash,
  letter_n,
  is_octal,
  is_name,
  is_blank,
  is_space,
  is_binding,
  not_newline,
}

-- ---- Entries

pub data Binding : Type 0 where
  tight loose : Binding

pub data Component : Type 0 where
  wildcard : Component
  name : List ℕ → Component

-- document 01's part: a component with the binding before it
pub record Part : Type 0 where
  pub binding : Binding
  pub component : Component

pub record Entry : Type 0 where
  pub parts : List Part
  pub value : List ℕ

-- ---- Parts (Xlib 15.1, ResourceName; `parse_components`)

-- any number of `.` and `*`: loose if one is `*`, else tight
unfoldable pub binding_of : List ℕ → Binding
binding_of t = if any (eqb star) t then loose else tight

-- `?`, or one or more name bytes, as many as stand there
unfoldable pub component_at : Binding → List ℕ → Parse Part
component_at b [] = nothing
component_at b (c ∷ t) =
    if eqb c question then found (record { binding = b; component = wildcard }) t else
    if is_name c then found (record { binding = b; component = name (c ∷ take_while is_name t) }) (drop_while is_name t) else
    nothing

-- Departure: no binding need stand between a `?` and its neighbours
unfoldable pub part_at : List ℕ → Parse Part
part_at t = component_at (binding_of (take_while is_binding t)) (drop_while is_binding t)

unfoldable pub is_named : Component → Bool
is_named wildcard = false
is_named (name n) = true

-- the last part must be a name
unfoldable pub ends_in_name : List Part → Bool
ends_in_name [] = false
ends_in_name (p ∷ []) = is_named p.component
ends_in_name (p ∷ q ∷ ps) = ends_in_name (q ∷ ps)

-- ---- Values (Xlib 15.1, Value; X(7) RESOURCES has the escapes right where 15.1 misprints them)

-- the number that digits give after n, the highest digit first
unfoldable pub positional : ℕ → ℕ → List ℕ → ℕ
positional base n [] = n
positional base n (d ∷ ds) = positional base (n * base + (d - 48)) ds

unfoldable pub line_ends : List ℕ → Bool
line_ends [] = true
line_ends (c ∷ t) = eqb c newline

-- octal digits ds after a backslash, with u after them
unfoldable pub octal_of : List ℕ → List ℕ → Parse (List ℕ)
octal_of ds u =
    if eqb (length ds) 3 then found (positional 8 0 ds % 256 ∷ []) u else
    -- Departure: one or two digits before a plain newline or the end are dropped with the backslash
    if line_ends u then found [] u else
    found (backslash ∷ ds) u

-- what follows a backslash
unfoldable pub escape_at : List ℕ → Parse (List ℕ)
escape_at [] = found (backslash ∷ []) []
escape_at (c ∷ t) =
    if is_blank c || eqb c backslash then found (c ∷ []) t else
    if eqb c letter_n then found (newline ∷ []) t else
    if eqb c newline then found [] t else
    if is_octal c then octal_of (take_while is_octal (take 3 (c ∷ t))) (drop (length (take_while is_octal (take 3 (c ∷ t)))) (c ∷ t)) else
    found (backslash ∷ []) (c ∷ t)

-- a byte of a value or an escape, and the bytes that it gives. A plain newline ends the value.
-- Departure: a zero byte may stand in a value
unfoldable pub piece_at : List ℕ → Parse (List ℕ)
piece_at [] = nothing
piece_at (c ∷ t) =
    if eqb c newline then nothing else
    if eqb c backslash then escape_at t else
    found (c ∷ []) t

-- spaces, tabs and backslash-newline pairs after `:` are dropped.
-- Departure: so are blanks after such a pair, which the manual has in the value
unfoldable pub after_blanks : List ℕ → List ℕ
after_blanks [] = []
after_blanks (c ∷ []) = if is_blank c then [] else c ∷ []
after_blanks (c ∷ d ∷ t) =
    if is_blank c then after_blanks (d ∷ t) else
    if eqb c backslash && eqb d newline then after_blanks t else
    c ∷ d ∷ t

abbrev pub pieces : List ℕ → Parsed (List ℕ)
pieces t = many piece_at (after_blanks t)

-- ---- Lines (Xlib 15.1, ResourceLine)

pub data Line : Type 0 where
  skipped : Line
  include : List ℕ → Line
  entry : Entry → Line

-- from the line's plain newline on, with no escapes seen
unfoldable pub line_end : List ℕ → List ℕ
line_end t = drop_while not_newline t

abbrev pub in_quotes : ℕ → Bool
in_quotes c = not (eqb c quote) && not_newline c

-- what follows `#`: spaces, `include`, spaces, `"`, name, `"`; what follows is ignored.
-- Departures: a tab is no space here, the quotes are needed, and anything may follow
unfoldable pub include_of : List ℕ → Option (List ℕ)
include_of t = do
  u ← after (ascii "include") (drop_while is_space t)
  v ← after (ascii "\"") (drop_while is_space u)
  w ← after (ascii "\"") (drop_while in_quotes v)
  some (take_while in_quotes v)

-- what follows the `:` of a line of parts, spaces, `:`.
-- Departures: blanks before the parts and a tab before `:` are not skipped
unfoldable pub assigned : List ℕ → Option (List ℕ)
assigned t =
    if ends_in_name (many part_at t).items then after (ascii ":") (drop_while is_space (many part_at t).rest) else none

-- a line that is no comment and no directive; u follows its `:`
unfoldable pub resource_of : List ℕ → Option (List ℕ) → Parse Line
resource_of t none = found skipped (line_end t)
resource_of t (some u) =
    found (entry (record { parts = (many part_at t).items; value = flatten (pieces u).items })) (drop 1 (pieces u).rest)

unfoldable pub directive_of : Option (List ℕ) → Line
directive_of none = skipped
directive_of (some n) = include n

unfoldable pub line_at : List ℕ → Parse Line
line_at [] = nothing
line_at (c ∷ t) =
    if eqb c newline then found skipped t else
    if eqb c exclamation then found skipped (line_end t) else
    if eqb c hash then found (directive_of (include_of t)) (line_end t) else
    resource_of (c ∷ t) (assigned (c ∷ t))

unfoldable pub lines_of : List ℕ → List Line
lines_of t = (many line_at t).items
