-- The fields of a recorded line. Each stands after one space; bytes are two digits each, or `-` for none.
use Rattle.std.specs.Prelude.{Bool, false, ◌&&◌, Option, Some, None, IfSome, List, [], ◌∷◌, ◌++◌, ◌≡◌, ℕ, zero, suc, ◌+◌, ◌*◌, ◌-◌, ◌≤◌, length, drop, if◌then◌else◌}
use Rattle.io.specs.Counts.{IsPrefixLen}
use Rattle.definition.specs.Lists.{ascii, is_empty, same}
use Rattle.definition.specs.Limits.{body_bytes}
use Rattle.definition.specs.Bytes.{within}
use Rattle.definition.specs.Image.{Row, key_at, value_at, rows_in, is_image}
use Rattle.printing.specs.Putting.{decimal}
use Rattle.scan.specs.Scanned.{starts_with}
use Rattle.fields.specs.declared.Taken.{Taken}

-- a digit's number
unfoldable pub digit_of : ℕ → Option ℕ
digit_of c = if within 48 57 c then Some (c - 48) else if within 97 102 c then Some (c - 87) else None

abbrev pub joined : Option ℕ → Option ℕ → Option ℕ
joined (Some h) (Some l) = Some (16 * h + l)
joined (Some h) None = None
joined None l = None

-- the byte that two digits are
unfoldable pub byte_of : ℕ → ℕ → Option ℕ
byte_of a b = joined (digit_of a) (digit_of b)

-- a byte and those after it, or none
abbrev pub begun_with : Option ℕ → List ℕ → List ℕ
begun_with (Some c) cs = c ∷ cs
begun_with None cs = []

-- the bytes that the digits at the front of a text are, two each and at most n
unfoldable pub decoded : ℕ → List ℕ → List ℕ
decoded zero t = []
decoded (suc n) [] = []
decoded (suc n) (a ∷ []) = []
decoded (suc n) (a ∷ b ∷ t) = begun_with (byte_of a b) (decoded n t)

-- bytes over the front of what is lent
abbrev pub over : List ℕ → List ℕ → List ℕ
over bytes out = bytes ++ drop (length bytes) out

-- r bytes were decoded, to the front of `out`
pub record Decodes (t out out' : List ℕ) (r : ℕ) : Type 0 where
  pub counts : r ≡ length (decoded (length out) t)
  pub leaves : out' ≡ over (decoded (length out) t) out

-- the bytes of the next field, at most n
unfoldable pub field_bytes : ℕ → List ℕ → List ℕ
field_bytes n t = if starts_with (ascii " ") t then decoded n (drop 1 t) else []

-- how many bytes of a line the next field takes, if it has so many: nothing if it is malformed
unfoldable pub field_end : ℕ → List ℕ → Option ℕ
field_end zero t = if starts_with (ascii " -") t then Some 2 else None
field_end (suc n) t = Some (1 + 2 * suc n)

-- a field of n bytes, by its end
abbrev pub taken : ℕ → Option ℕ → Option Taken
taken n (Some e) = Some (record { size = n; end = e })
taken n None = None

-- the next field was taken
pub record Takes (t out out' : List ℕ) (r : Option Taken) : Type 0 where
  pub is : r ≡ taken (length (field_bytes (length out) t)) (field_end (length (field_bytes (length out) t)) t)
  pub leaves : out' ≡ over (field_bytes (length out) t) out
  pub inside : IfSome r (λ f. IsPrefixLen f.size out' × (f.end ≤ length t))

-- how many bytes of a line a beginning takes: nothing if the line begins otherwise
unfoldable pub passed : List ℕ → List ℕ → Option ℕ
passed word t = if starts_with word t then Some (length word) else None

-- the same for a field of bytes
unfoldable pub bytes_end : List ℕ → List ℕ → Option ℕ
bytes_end bytes t = if same (field_bytes body_bytes t) bytes then field_end (length (field_bytes body_bytes t)) t else None

-- a field of n bytes stands in a line, and what follows it passes a test
abbrev pub followed : Option ℕ → (List ℕ → Bool) → List ℕ → Bool
followed None test t = false
followed (Some n) test t = test (drop n t)

-- the key and the value of each row, to the line's end
unfoldable pub are_rows : List Row → List ℕ → List ℕ → Bool
are_rows [] bodies t = is_empty t
are_rows (r ∷ rs) bodies t =
    followed (bytes_end (key_at bodies r) t) (λ u. followed (bytes_end (value_at bodies r) u) (are_rows rs bodies) u) t

-- opens, entries, and the keys and values of an image
unfoldable pub is_reading : ℕ → ℕ → List ℕ → List ℕ → List ℕ → Bool
is_reading opens entries contents bodies t =
    is_image contents bodies
    && followed (passed (ascii " " ++ decimal opens) t) (λ u. followed (passed (ascii " " ++ decimal entries) u) (are_rows (rows_in contents) bodies) u) t
