-- Rows by their words are the definition's rows. Assumes nothing.
use mathlib.Core.List.{List, ◌∷◌}
use mathlib.Core.Path.{◌≡◌, refl}
use Prim.Native.Nat.{ℕ, zero, suc, ◌+◌, ◌-◌, ◌<◌}
use native.Mathlib.Nat.{mul-suc}
use native.Mathlib.Omega.{arith}
use lib.ListN.{get_or, drop}
use lib.Seq.{get_or-drop, drop-drop}
use Rattle.definition.specs.Limits.{row_words}
use Rattle.definition.specs.Image.{Row, rows_from, origins_from, rows_in, count_of, origins_in}
use Rattle.image.specs.Rows.{row_start_by, row_at_by, row_at, origin_at, rows_left_by, rows_left, origins_left}

-- the next row begins where a row ends
pub next_start : (width i : ℕ) → row_start_by width i + width ≡ row_start_by width (i + 1)
next_start width i = let e : i + 1 ≡ suc i = omega arith in rw (e, mul-suc width i) (omega arith)

-- a loop over the rows takes row i and goes on
pub rows_turn_by : (width : ℕ) (words : List ℕ) (n i : ℕ) → i < n → rows_left_by width words n i ≡ row_at_by width words i ∷ rows_left_by width words n (i + 1)
unfolding rows_from
rows_turn_by width words n i h =
    let k : n - i ≡ suc (n - (i + 1)) = omega arith in
    let a : row_start_by width i + 0 ≡ row_start_by width i = omega arith in
    rw k (simp (get_or-drop, drop-drop, a, next_start width i))

pub rows_turn : (words : List ℕ) (n i : ℕ) → i < n → rows_left words n i ≡ row_at words i ∷ rows_left words n (i + 1)
rows_turn words n i h = rows_turn_by row_words words n i h

-- and its origin
pub origins_turn : (words : List ℕ) (n i : ℕ) → i < n → origins_left words n i ≡ origin_at words i ∷ origins_left words n (i + 1)
unfolding origins_from
origins_turn words n i h =
    let k : n - i ≡ suc (n - (i + 1)) = omega arith in
    rw k (simp (get_or-drop, drop-drop, next_start row_words i))

left_at : (words : List ℕ) (n j i : ℕ) (d : Row) → j + i < n → get_or (rows_left words n j) i d ≡ row_at words (j + i)
left_at words n j zero d h =
    let e : j + 0 ≡ j = omega arith in
    rw (e, rows_turn words n j (omega arith)) refl
left_at words n j (suc i) d h =
    let e : j + suc i ≡ j + 1 + i = omega arith in
    rw (e, rows_turn words n j (omega arith)) (left_at words n (j + 1) i d (omega arith))

-- of n rows, the one with the number i
pub rows_at : (words : List ℕ) (n i : ℕ) (d : Row) → i < n → get_or (rows_from row_words n (drop 2 words)) i d ≡ row_at words i
rows_at words n i d h =
    let k : n - 0 ≡ n = omega arith in
    let e : 0 + i ≡ i = omega arith in
    rw (k, e) at (left_at words n 0 i d (omega arith))

pub row_is : (contents : List ℕ) (i : ℕ) (d : Row) → i < count_of contents → get_or (rows_in contents) i d ≡ row_at contents i
row_is contents i d h = rows_at contents (count_of contents) i d h

origin_left : (words : List ℕ) (n j i : ℕ) → j + i < n → get_or (origins_left words n j) i 0 ≡ origin_at words (j + i)
origin_left words n j zero h =
    let e : j + 0 ≡ j = omega arith in
    rw (e, origins_turn words n j (omega arith)) refl
origin_left words n j (suc i) h =
    let e : j + suc i ≡ j + 1 + i = omega arith in
    rw (e, origins_turn words n j (omega arith)) (origin_left words n (j + 1) i (omega arith))

-- where the line of row i stands
pub origin_is : (contents : List ℕ) (i : ℕ) → i < count_of contents → get_or (origins_in contents) i 0 ≡ origin_at contents i
origin_is contents i h =
    let n = count_of contents in
    let k : n - 0 ≡ n = omega arith in
    let e : 0 + i ≡ i = omega arith in
    rw (k, e) at (origin_left contents n 0 i (omega arith))
