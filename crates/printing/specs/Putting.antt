-- A buffer that is written from its start on, and a number in decimal.
use Rattle.std.specs.Prelude.{List, [], ◌∷◌, ◌++◌, ◌≡◌, ℕ, zero, suc, ◌+◌, ◌/◌, ◌%◌, ltb, if◌then◌else◌, length, take, drop}
use Rattle.printing.specs.declared.Lines.{Lines}

-- the bytes that are written
abbrev pub written : Lines → List ℕ
written w = take w.len w.out.now

-- the rest of the buffer
abbrev pub left : Lines → List ℕ
left w = drop w.len w.out.now

-- the bytes stand behind what was written, and all else is as it was, in the same buffer
pub record Appends (bytes : List ℕ) (w w' : Lines) : Type 0 where
  pub room : length (left w) ≡ length bytes + length (left w')
  pub puts : written w' ≡ written w ++ bytes
  pub leaves : left w' ≡ drop (length bytes) (left w)
  pub stays : w'.out.ghost_name ≡ w.out.ghost_name

-- n in decimal, with no zero in front, in at most k digits
unfoldable pub decimal_in : ℕ → ℕ → List ℕ
decimal_in zero n = []
decimal_in (suc k) n = if ltb n 10 then (48 + n) ∷ [] else decimal_in k (n / 10) ++ (48 + n % 10) ∷ []

-- 20 digits hold every number of 64 bits
abbrev pub decimal : ℕ → List ℕ
decimal n = decimal_in 20 n
