-- `get_bytes`: the value of the entry that beats the rest (document 01, "Matching" and "Readings of a value").
use Rattle.std.specs.Prelude.{not, List, [], map, ℕ, ◌+◌, get_or, if◌then◌else◌}
use Rattle.std.proofs.Math.Option.{Option, some, none}
use Rattle.std.proofs.Math.Seq.{slice}
use Rattle.definition.specs.Text.{Part, Entry}
use Rattle.definition.specs.Limits.{row_words}
use Rattle.definition.specs.Image.{Row, rows_by, key_end, entries_in, is_image_by}
use Rattle.definition.specs.Query.{Query, positions, malformed, past_limit, Bounds, query_within, shell}
use Rattle.definition.specs.Ranking.{Best, no_entry, best, best_of}

abbrev pub keys_of : List Entry → List (List Part)
keys_of es = map (λ e. e.parts) es

-- ---- In a list of entries

unfoldable pub value_of : List Entry → Best → Option (List ℕ)
value_of es no_entry = none
value_of es (best i row) = some (get_or es i (record { parts = []; value = [] })).value

-- an answer of the third term: the bytes of the value that the entries give to a query, or none; if malformed, nothing aligns
unfoldable pub answer_of : List Entry → Query → Option (List ℕ)
answer_of es (positions qs) = value_of es (best_of (keys_of es) qs)
answer_of es malformed = none
answer_of es (past_limit k) = none

-- ---- In an image

-- what a lookup answers
pub data Reply (A : Type 0) : Type 0 where
  given : A → Reply A
  no_value : Reply A  -- document 01's none
  refused : ℕ → Reply A  -- a number of document 01's table

-- the value's place in the bodies and its length
pub record Place : Type 0 where
  pub start : ℕ
  pub length : ℕ

unfoldable pub place_of : List Row → Best → Reply Place
place_of rows no_entry = no_value
place_of rows (best i row) =
    let r = get_or rows i (record { start = 0; key_length = 0; value_length = 0 }) in
    given (record { start = key_end r; length = r.value_length })

unfoldable pub lookup : List Row → List ℕ → Query → Reply Place
lookup rows bodies (positions qs) = place_of rows (best_of (keys_of (entries_in rows bodies)) qs)
lookup rows bodies malformed = no_value
lookup rows bodies (past_limit k) = refused k

-- 8, 9, malformed, 10, with rows of that width
unfoldable pub get_bytes_by : ℕ → Bounds → List ℕ → List ℕ → List ℕ → List ℕ → Reply Place
get_bytes_by width most contents bodies name class =
    if not (is_image_by width contents bodies) then refused 8 else lookup (rows_by width contents) bodies (query_within most name class)

abbrev pub get_bytes_within : Bounds → List ℕ → List ℕ → List ℕ → List ℕ → Reply Place
get_bytes_within most contents bodies name class = get_bytes_by row_words most contents bodies name class

abbrev pub get_bytes : List ℕ → List ℕ → List ℕ → List ℕ → Reply Place
get_bytes contents bodies name class = get_bytes_within shell contents bodies name class

abbrev pub bytes_at : List ℕ → Place → List ℕ
bytes_at bodies p = slice p.start (p.start + p.length) bodies

-- the bytes of an answer, or none
unfoldable pub answer_in : List ℕ → Reply Place → Option (List ℕ)
answer_in bodies (given p) = some (bytes_at bodies p)
answer_in bodies no_value = none
answer_in bodies (refused k) = none
