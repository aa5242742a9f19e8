-- The blanks before a value, and the value at the front of a text whose blanks are skipped: what the code answers and stores.
use mathlib.Core.List.{List, flatten}
use Rattle.std.specs.Prelude.{◌≡◌, ℕ, Option, Some, None, ◌+◌, ◌-◌, min, leb, length, if◌then◌else◌}
use Rattle.std.proofs.Math.Seq.{paste}
use Rattle.definition.specs.Parsing.{many}
use Rattle.definition.specs.Text.{piece_at, after_blanks}
use Rattle.values.specs.declared.Stored.{Stored}

-- how many bytes stand before the value
abbrev pub blanks_at : List ℕ → ℕ
blanks_at t = length t - length (after_blanks t)

-- the value, and the text after it
abbrev pub decoded_at : List ℕ → List ℕ
decoded_at t = flatten (many piece_at t).items

abbrev pub rest_at : List ℕ → List ℕ
rest_at t = (many piece_at t).rest

-- does the value of t fit into a store of so many bytes from `at` on? If so: where it ends there, and how many bytes of t it takes
unfoldable pub stored_at : List ℕ → ℕ → ℕ → Option Stored
stored_at t size at =
    if leb (at + length (decoded_at t)) size then Some (record { end = at + length (decoded_at t); taken = length t - length (rest_at t) }) else None

-- the answer, and the store afterwards: as much of the value as there is room for stands in it from `at` on
pub record Decoded (t store : List ℕ) (at : ℕ) (store' : List ℕ) (r : Option Stored) : Type 0 where
  pub answer : r ≡ stored_at t (length store) at
  pub stored : store' ≡ paste store at (decoded_at t) (min (length (decoded_at t)) (length store - at))
