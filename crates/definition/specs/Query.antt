-- Queries (document 01, "Matching"; `parse_query`).
use Rattle.std.specs.Prelude.{◌||◌, List, [], ◌∷◌, map, ℕ, eqb, ltb, length, if◌then◌else◌}
use Rattle.std.proofs.Math.Option.{Option, some, none}
use Rattle.definition.specs.Lists.{take_while, drop_while, is_empty}
use Rattle.definition.specs.Parsing.{Parse, nothing, found, many}
use Rattle.definition.specs.Limits.{query_bytes, query_parts, window_bytes, window_parts}
use Rattle.definition.specs.Bytes.{dot, is_name}

-- a name followed by any number of `.`. Departure: the manual has one `.` between two names
unfoldable pub query_part_at : List ℕ → Parse (List ℕ)
query_part_at [] = nothing
query_part_at (c ∷ t) =
    if is_name c then found (c ∷ take_while is_name t) (drop_while (eqb dot) (drop_while is_name t)) else nothing

-- the names of a query's name or class; anything else is malformed
unfoldable pub names_of : List ℕ → Option (List (List ℕ))
names_of t = if is_empty (many query_part_at t).rest then some (many query_part_at t).items else none

-- what name and class have at a position, if anything
pub record Position : Type 0 where
  pub instance : Option (List ℕ)
  pub class : Option (List ℕ)

-- the longer counts. Departures: the manual has name and class of one length, neither empty, and at most 100 parts
unfoldable pub positions_of : List (List ℕ) → List (List ℕ) → List Position
positions_of [] cs = map (λ c. record { instance = none; class = some c }) cs
positions_of (n ∷ ns) [] = record { instance = some n; class = none } ∷ positions_of ns []
positions_of (n ∷ ns) (c ∷ cs) = record { instance = some n; class = some c } ∷ positions_of ns cs

pub data Query : Type 0 where
  positions : List Position → Query
  malformed : Query
  past_limit : ℕ → Query  -- a number of document 01's table

-- how many bytes, and how many parts, a query's name and its class may each have
pub record Bounds : Type 0 where
  pub bytes : ℕ
  pub parts : ℕ

-- 10 is tested of names that are well formed
unfoldable pub counted_query : Bounds → Option (List (List ℕ)) → Option (List (List ℕ)) → Query
counted_query most none cs = malformed
counted_query most (some ns) none = malformed
counted_query most (some ns) (some cs) =
    if ltb most.parts (length ns) || ltb most.parts (length cs) then past_limit 10 else positions (positions_of ns cs)

-- 9, malformed, 10
unfoldable pub query_within : Bounds → List ℕ → List ℕ → Query
query_within most name class =
    if ltb most.bytes (length name) || ltb most.bytes (length class) then past_limit 9 else
    counted_query most (names_of name) (names_of class)

-- the bounds of document 01, which the shell keeps, and those of the dictionary window (document 02 (vi))
abbrev pub shell : Bounds
shell = record { bytes = query_bytes; parts = query_parts }

abbrev pub window : Bounds
window = record { bytes = window_bytes; parts = window_parts }

abbrev pub query_of : List ℕ → List ℕ → Query
query_of name class = query_within shell name class
