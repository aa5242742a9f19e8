-- What the code's rows of marks stand for, and what it does with them.
use Rattle.std.specs.Prelude.{Bool, ◌&&◌, not, List, [], ◌∷◌, ◌≡◌, ℕ, zero, suc, ◌+◌, ◌*◌, ◌-◌, ◌/◌, ◌%◌, ◌<◌, min, eqb, ltb, length, take, drop, if◌then◌else◌}
use Rattle.std.proofs.Math.Option.{Option, some, none}
use Rattle.definition.specs.Bytes.{star}
use Rattle.definition.specs.Ranking.{Best, no_entry, best}
use Rattle.marks.specs.declared.Marks.{Marks}

-- ---- Marks in numbers

-- marks as the digits of a number, after those of n
unfoldable pub packed_from : ℕ → List ℕ → ℕ
packed_from n [] = n
packed_from n (m ∷ ms) = packed_from (n * 7 + m) ms

abbrev pub packed : List ℕ → ℕ
packed ms = packed_from 0 ms

-- n digits of a number, before others
unfoldable pub unpacked : ℕ → ℕ → List ℕ → List ℕ
unpacked zero v ms = ms
unpacked (suc n) v ms = unpacked n (v / 7) (v % 7 ∷ ms)

-- how many marks each of the first two numbers has
abbrev pub third : ℕ
third = 11

-- a row as the code holds it, if there is one: a digit 1 leads those of the last number
unfoldable pub marks_of : Option (List ℕ) → Marks
marks_of none = record { high = 0; middle = 0; low = 0 }
marks_of (some row) = record {
  high = packed (take third row);
  middle = packed (take third (drop third row));
  low = packed_from 1 (drop third (drop third row));
}

-- is there a row?
abbrev pub is_live : Marks → Bool
is_live r = ltb 0 r.low

-- the n marks of a row
unfoldable pub marks_in : ℕ → Marks → List ℕ
marks_in n r = unpacked (min n third) r.high (unpacked (min (n - third) third) r.middle (unpacked (n - third - third) r.low []))

unfoldable pub row_in : ℕ → Marks → Option (List ℕ)
row_in n r = if is_live r then some (marks_in n r) else none

-- entry i with that row, if there is one
unfoldable pub best_in : ℕ → ℕ → Marks → Best
best_in n i r = if is_live r then best i (marks_in n r) else no_entry

-- a row of n marks, each of which is a digit
abbrev pub Digits : List ℕ → Type 0
Digits [] = Unit {0}
Digits (m ∷ ms) = (m < 7) × Digits ms

abbrev pub Long : ℕ → Option (List ℕ) → Type 0
Long n none = Unit {0}
Long n (some row) = (length row ≡ n) × Digits row

-- the row that the code holds is that one, of n marks
pub record Stands (n : ℕ) (r : Marks) (row : Option (List ℕ)) : Type 0 where
  pub is : r ≡ marks_of row
  pub long : Long n row

-- the code holds a row of n marks, or none
abbrev pub Held : ℕ → Marks → Type 0
Held n r = Stands n r (row_in n r)

-- ---- Over position p

-- the number that takes the next digit has room for it
pub record Roomy (p : ℕ) (r : Marks) : Type 0 where
  pub high : p < third → r.high < 282475249
  pub middle : p < third + third → r.middle < 282475249
  pub low : r.low < 564950498

-- a row with mark m after its p marks
unfoldable pub marked : Marks → ℕ → ℕ → Marks
marked row m p =
    if ltb p third then record { high = row.high * 7 + m; middle = row.middle; low = row.low }
    else if ltb p (third + third) then record { high = row.high; middle = row.middle * 7 + m; low = row.low }
    else record { high = row.high; middle = row.middle; low = row.low * 7 + m }

-- the row skips it, if the next part, which that byte binds, is loose
unfoldable pub skipped : Marks → ℕ → ℕ → Marks
skipped row binding p = if is_live row && eqb binding star then marked row 0 p else marks_of none

-- the row matches it with mark m
unfoldable pub stepped : Marks → ℕ → ℕ → Marks
stepped row m p = if is_live row && ltb 0 m then marked row m p else marks_of none

-- `row` skips it, or else `before`, the row of the part before, matches it
unfoldable pub next_of : Marks → Marks → ℕ → ℕ → ℕ → Marks
next_of row before binding m p = if is_live row && eqb binding star then marked row 0 p else stepped before m p

-- ---- Two rows

unfoldable pub lower_row : Marks → Marks → Bool
lower_row a b =
    if eqb a.high b.high
    then (if eqb a.middle b.middle then ltb a.low b.low else ltb a.middle b.middle)
    else ltb a.high b.high

-- does a later entry's row win over the best so far? Of equals the last wins
unfoldable pub wins_over : Marks → Marks → Bool
wins_over r top = is_live r && not (is_live top && lower_row r top)
