-- Readings of a value (document 01, "Readings of a value"; `get_string`, `get_bool`, `to_bool`, `get_value`).
use Rattle.std.specs.Prelude.{Bool, true, false, ◌&&◌, not, List, [], ◌∷◌, map, ℕ, ◌+◌, ◌-◌, ◌^◌, eqb, leb, ℤ, pos, neg_ℤ, nat_abs, if◌then◌else◌}
use Rattle.std.proofs.Math.Option.{Option, some, none}
use Rattle.definition.specs.Lists.{ascii, all, any, or_else, is_empty, same}
use Rattle.definition.specs.Parsing.{Parse, nothing, found, many}
use Rattle.definition.specs.Limits.{row_words}
use Rattle.definition.specs.Bytes.{plus, minus, within, is_digit}
use Rattle.definition.specs.Text.{positional}
use Rattle.definition.specs.Query.{Bounds, shell}
use Rattle.definition.specs.Lookup.{Reply, given, no_value, refused, Place, get_bytes_by, bytes_at}

-- ---- Well-formed UTF-8 (Unicode, table 3-7)

pub record Range : Type 0 where
  pub low : ℕ
  pub high : ℕ

abbrev ◌–◌ : ℕ → ℕ → Range
◌–◌ a b = record { low = a; high = b }

infix 70 ◌–◌
-- a row for each first byte, and a column for each byte of a character
unfoldable pub table : List (List Range)
table =
    (0x00 – 0x7F ∷ [])
    ∷ (0xC2 – 0xDF ∷ 0x80 – 0xBF ∷ [])
    ∷ (0xE0 – 0xE0 ∷ 0xA0 – 0xBF ∷ 0x80 – 0xBF ∷ [])
    ∷ (0xE1 – 0xEC ∷ 0x80 – 0xBF ∷ 0x80 – 0xBF ∷ [])
    ∷ (0xED – 0xED ∷ 0x80 – 0x9F ∷ 0x80 – 0xBF ∷ [])
    ∷ (0xEE – 0xEF ∷ 0x80 – 0xBF ∷ 0x80 – 0xBF ∷ [])
    ∷ (0xF0 – 0xF0 ∷ 0x90 – 0xBF ∷ 0x80 – 0xBF ∷ 0x80 – 0xBF ∷ [])
    ∷ (0xF1 – 0xF3 ∷ 0x80 – 0xBF ∷ 0x80 – 0xBF ∷ 0x80 – 0xBF ∷ [])
    ∷ (0xF4 – 0xF4 ∷ 0x80 – 0x8F ∷ 0x80 – 0xBF ∷ 0x80 – 0xBF ∷ [])
    ∷ []

-- the text after the bytes of that row, if it begins with such
unfoldable pub after_row : List Range → List ℕ → Option (List ℕ)
after_row [] t = some t
after_row (r ∷ rs) [] = none
after_row (r ∷ rs) (c ∷ t) = if within r.low r.high c then after_row rs t else none

unfoldable pub first_row : List (List Range) → List ℕ → Option (List ℕ)
first_row [] t = none
first_row (row ∷ rows) t = or_else (after_row row t) (first_row rows t)

unfoldable pub character : Option (List ℕ) → Parse (Unit {0})
character none = nothing
character (some u) = found tt u

unfoldable pub character_at : List ℕ → Parse (Unit {0})
character_at t = character (first_row table t)

unfoldable pub is_utf8 : List ℕ → Bool
is_utf8 t = is_empty (many character_at t).rest

-- ---- Numbers

-- one or more decimal digits
unfoldable pub natural_of : List ℕ → Option ℕ
natural_of t = if not (is_empty t) && all is_digit t then some (positional 10 0 t) else none

-- with its sign, in the range of an i64
unfoldable pub signed : Bool → Option ℕ → Option ℤ
signed negative none = none
signed true (some n) = if leb n (2 ^ 63) then some (neg_ℤ (pos n)) else none
signed false (some n) = if leb n (2 ^ 63 - 1) then some (pos n) else none

-- a decimal i64 with an optional sign
unfoldable pub i64_of : List ℕ → Option ℤ
i64_of [] = none
i64_of (c ∷ t) =
    if eqb c minus then signed true (natural_of t) else
    if eqb c plus then signed false (natural_of t) else
    signed false (natural_of (c ∷ t))

-- ---- Booleans

unfoldable pub lowercase : ℕ → ℕ
lowercase c = if within 65 90 c then c + 32 else c

unfoldable pub word_of : List ℕ → Option Bool
word_of t =
    if any (same t) (ascii "true" ∷ ascii "on" ∷ ascii "yes" ∷ []) then some true else
    if any (same t) (ascii "false" ∷ ascii "off" ∷ ascii "no" ∷ []) then some false else
    none

unfoldable pub non_zero : Option ℤ → Option Bool
non_zero none = none
non_zero (some z) = some (not (eqb (nat_abs z) 0))

-- true if a number that is not 0; else a word, ignoring ASCII case
unfoldable pub to_bool : List ℕ → Option Bool
to_bool t = or_else (non_zero (i64_of t)) (word_of (map lowercase t))

-- ---- The calls

module _ {A : Type 0} where
  unfoldable pub replied : Option A → Reply A
  replied none = no_value
  replied (some a) = given a

  -- what a reading of the value's bytes makes of a lookup
  unfoldable pub read_as : (Place → Option A) → Reply Place → Reply A
  read_as f (given p) = replied (f p)
  read_as f no_value = no_value
  read_as f (refused k) = refused k

pub data Number : Type 0 where
  number : ℤ → Number
  not_a_number : Number

unfoldable pub number_of : Option ℤ → Number
number_of none = not_a_number
number_of (some z) = number z

-- the bytes of a reply, or else the default's; none and refusals show the default
unfoldable pub bytes_or : List ℕ → List ℕ → Reply Place → List ℕ
bytes_or bodies default (given p) = bytes_at bodies p
bytes_or bodies default no_value = default
bytes_or bodies default (refused k) = default

-- the three readings of what a lookup found: a string is none unless well-formed UTF-8, and the others are of a string
module _ (bodies : List ℕ) where
  unfoldable pub as_string : Reply Place → Reply Place
  as_string r = read_as (λ p. if is_utf8 (bytes_at bodies p) then some p else none) r

  unfoldable pub as_bool : Reply Place → Reply Bool
  as_bool r = read_as (λ p. to_bool (bytes_at bodies p)) r

  unfoldable pub as_number : Reply Place → Reply Number
  as_number r = read_as (λ p. some (number_of (i64_of (bytes_at bodies p)))) r

-- of a query within bounds, with rows of that width
module _ (width : ℕ) (most : Bounds) (contents bodies name class : List ℕ) where
  unfoldable pub get_string_by : Reply Place
  get_string_by = as_string bodies (get_bytes_by width most contents bodies name class)

  unfoldable pub get_bool_by : Reply Bool
  get_bool_by = as_bool bodies get_string_by

  unfoldable pub get_value_by : Reply Number
  get_value_by = as_number bodies get_string_by

  unfoldable pub shown_by : List ℕ → List ℕ
  shown_by default = bytes_or bodies default (get_bytes_by width most contents bodies name class)

-- with rows as they are now
module _ (most : Bounds) (contents bodies name class : List ℕ) where
  abbrev pub get_string_within : Reply Place
  get_string_within = get_string_by row_words most contents bodies name class

  abbrev pub get_bool_within : Reply Bool
  get_bool_within = get_bool_by row_words most contents bodies name class

  abbrev pub get_value_within : Reply Number
  get_value_within = get_value_by row_words most contents bodies name class

  abbrev pub shown_within : List ℕ → List ℕ
  shown_within default = shown_by row_words most contents bodies name class default

-- at the bounds of document 01
module _ (contents bodies name class : List ℕ) where
  abbrev pub get_string : Reply Place
  get_string = get_string_within shell contents bodies name class

  abbrev pub get_bool : Reply Bool
  get_bool = get_bool_within shell contents bodies name class

  abbrev pub get_value : Reply Number
  get_value = get_value_within shell contents bodies name class

  abbrev pub shown : List ℕ → List ℕ
  shown default = shown_within shell contents bodies name class default
