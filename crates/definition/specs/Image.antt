-- The database image (document 01, "The database image"): written from entries, judged, and read back.
use Rattle.std.specs.Prelude.{Bool, ◌&&◌, ◌||◌, not, List, [], ◌∷◌, ◌++◌, map, ℕ, zero, suc, ◌+◌, ◌*◌, ◌-◌, eqb, leb, ltb, length, drop, get_or, if◌then◌else◌}
use Rattle.std.proofs.Math.Seq.{slice}
use Rattle.definition.specs.Lists.{all, is_empty, zeroes, beyond}
use Rattle.definition.specs.Parsing.{Parse, nothing, many}
use Rattle.definition.specs.Limits.{contents_words, body_bytes, row_words, most_entries, most_parts, archive_files, unknown_file}
use Rattle.definition.specs.Bytes.{dot, star, question, is_binding}
use Rattle.definition.specs.Text.{Binding, tight, loose, Component, wildcard, name, Part, Entry, binding_of, component_at, ends_in_name}

-- ---- Written

abbrev pub binding_byte : Binding → ℕ
binding_byte tight = dot
binding_byte loose = star

abbrev pub component_bytes : Component → List ℕ
component_bytes wildcard = question ∷ []
component_bytes (name n) = n

-- a key writes each part as `.` (tight) or `*` (loose), then the name or `?`
unfoldable pub key_of : List Part → List ℕ
key_of [] = []
key_of (p ∷ ps) = binding_byte p.binding ∷ component_bytes p.component ++ key_of ps

-- an entry, and where its line stands (document 02 (viii)): 0 for a text of the reading, a file's place on the archive, or `unknown_file`
pub record Sourced : Type 0 where
  pub entry : Entry
  pub origin : ℕ

abbrev pub bare : List Sourced → List Entry
bare xs = map (λ x. x.entry) xs

-- entries that have one origin
abbrev pub all_from : ℕ → List Entry → List Sourced
all_from origin es = map (λ e. record { entry = e; origin = origin }) es

-- per entry start, key length, value length and origin, packed from `at` on
unfoldable pub rows_of : ℕ → List Sourced → List ℕ
rows_of at [] = []
rows_of at (x ∷ xs) =
    let key = length (key_of x.entry.parts) in
    let value = length x.entry.value in
    at ∷ key ∷ value ∷ x.origin ∷ rows_of (at + key + value) xs

-- per entry its key, then its value
unfoldable pub store_of : List Entry → List ℕ
store_of [] = []
store_of (e ∷ es) = key_of e.parts ++ e.value ++ store_of es

-- entry count, bytes used, rows
unfoldable pub contents_of : List Sourced → List ℕ
contents_of xs = length xs ∷ length (store_of (bare xs)) ∷ rows_of 0 xs

-- xs at the front of what is lent, zeroes up to n, and nothing beyond n changed
unfoldable pub written_over : ℕ → List ℕ → List ℕ → List ℕ
written_over n lent xs = xs ++ zeroes (n - length xs) ++ beyond n lent

abbrev pub image_contents : List Sourced → List ℕ → List ℕ
image_contents xs lent = written_over contents_words lent (contents_of xs)

abbrev pub image_bodies : List Entry → List ℕ → List ℕ
image_bodies es lent = written_over body_bytes lent (store_of es)

-- ---- Read back, with rows of any width; an image's are of `row_words`, and were of `old_row_words`

pub record Row : Type 0 where
  pub start : ℕ
  pub key_length : ℕ
  pub value_length : ℕ

-- n rows of `width` words, from the words `ws` on
unfoldable pub rows_from : ℕ → ℕ → List ℕ → List Row
rows_from width zero ws = []
rows_from width (suc n) ws =
    record { start = get_or ws 0 0; key_length = get_or ws 1 0; value_length = get_or ws 2 0 } ∷ rows_from width n (drop width ws)

-- their origins; a row of three words has none, which counts as 0
unfoldable pub origins_from : ℕ → ℕ → List ℕ → List ℕ
origins_from width zero ws = []
origins_from width (suc n) ws = (if ltb 3 width then get_or ws 3 0 else 0) ∷ origins_from width n (drop width ws)

abbrev pub count_of : List ℕ → ℕ
count_of contents = get_or contents 0 0

abbrev pub used_of : List ℕ → ℕ
used_of contents = get_or contents 1 0

abbrev pub rows_by : ℕ → List ℕ → List Row
rows_by width contents = rows_from width (count_of contents) (drop 2 contents)

abbrev pub rows_in : List ℕ → List Row
rows_in contents = rows_by row_words contents

abbrev pub origins_by : ℕ → List ℕ → List ℕ
origins_by width contents = origins_from width (count_of contents) (drop 2 contents)

abbrev pub origins_in : List ℕ → List ℕ
origins_in contents = origins_by row_words contents

abbrev pub key_end : Row → ℕ
key_end r = r.start + r.key_length

abbrev pub value_end : Row → ℕ
value_end r = key_end r + r.value_length

abbrev pub key_at : List ℕ → Row → List ℕ
key_at bodies r = slice r.start (key_end r) bodies

abbrev pub value_at : List ℕ → Row → List ℕ
value_at bodies r = slice (key_end r) (value_end r) bodies

-- a part as a key writes it: one binding, then the component
unfoldable pub stored_part_at : List ℕ → Parse Part
stored_part_at [] = nothing
stored_part_at (c ∷ t) = if is_binding c then component_at (binding_of (c ∷ [])) t else nothing

abbrev pub key_parts : List ℕ → List Part
key_parts key = (many stored_part_at key).items

abbrev pub entry_at : List ℕ → Row → Entry
entry_at bodies r = record { parts = key_parts (key_at bodies r); value = value_at bodies r }

unfoldable pub entries_in : List Row → List ℕ → List Entry
entries_in [] bodies = []
entries_in (r ∷ rs) bodies = entry_at bodies r ∷ entries_in rs bodies

-- entries with the origins of their rows
unfoldable pub with_origins : List Entry → List ℕ → List Sourced
with_origins [] origins = []
with_origins (e ∷ es) origins = record { entry = e; origin = get_or origins 0 0 } ∷ with_origins es (drop 1 origins)

-- ---- Judged

-- keys of 1 to 16 parts ending in a name
unfoldable pub is_key : List ℕ → Bool
is_key key = is_empty (many stored_part_at key).rest && leb (length (key_parts key)) most_parts && ends_in_name (key_parts key)

-- the rows are packed from `at` on, in order, and sum to `used`
unfoldable pub packed : ℕ → List Row → ℕ → Bool
packed at [] used = eqb at used
packed at (r ∷ rs) used = eqb r.start at && packed (value_end r) rs used

-- 0 to 64, whatever archive there was, or unknown
unfoldable pub is_origin : ℕ → Bool
is_origin origin = leb origin archive_files || eqb origin unknown_file

-- number 1's test, with rows of that width
abbrev pub too_short_by : ℕ → List ℕ → List ℕ → Bool
too_short_by width contents bodies = ltb (length contents) (2 + width * most_entries) || ltb (length bodies) body_bytes

abbrev pub too_short : List ℕ → List ℕ → Bool
too_short contents bodies = too_short_by row_words contents bodies

unfoldable pub is_image_by : ℕ → List ℕ → List ℕ → Bool
is_image_by width contents bodies =
    not (too_short_by width contents bodies) && leb (count_of contents) most_entries && leb (used_of contents) body_bytes
    && packed 0 (rows_by width contents) (used_of contents) && all (λ r. is_key (key_at bodies r)) (rows_by width contents)
    && all is_origin (origins_by width contents)

abbrev pub is_image : List ℕ → List ℕ → Bool
is_image contents bodies = is_image_by row_words contents bodies
