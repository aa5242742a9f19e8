-- What the code's answer on an entry says.
use Rattle.std.specs.Prelude.{◌≡◌, ℕ, ◌-◌, ◌≤◌, ◌<◌, length, drop, Result, Ok, Err}
use mathlib.Core.List.{List, flatten}
use Rattle.definition.specs.Text.{Entry, pieces}
use Rattle.definition.specs.Image.{key_of}
use Rattle.image.specs.Running.{World, world, Room, went, stopped, put}
use Rattle.image.specs.declared.Totals.{Totals}
use Rattle.components.specs.Parts.{parts_of, is_verbatim}
use Rattle.lines.specs.declared.Resource.{Resource}
use Rattle.refusal.specs.Numbers.{number}
use Rattle.refusal.specs.declared.Refusal.{Refusal}

-- the entry of a line t whose value's text begins at v
abbrev pub entry_from : List ℕ → ℕ → Entry
entry_from t v = record { parts = parts_of t; value = flatten (pieces (drop v t)).items }

-- what storing the entry r of t asks: its parts and the length of its key are counted, it is known whether the key is the text itself, and
-- there is room for the totals
pub record Asked (t : List ℕ) (r : Resource) (s : Totals) (words bytes : List ℕ) : Type 0 where
  pub inside : r.value ≤ length t
  pub parts : r.count ≡ length (parts_of t)
  pub key : r.size ≡ length (key_of (parts_of t))
  pub some_key : 0 < r.size
  pub is_text : r.verbatim ≡ is_verbatim t
  pub room : Room s words bytes

-- where the line after it begins
abbrev pub line_after : List ℕ → ℕ → ℕ
line_after t v = length t - length (drop 1 (pieces (drop v t)).rest)

-- the entry is stored with its origin, and the next line starts at n
pub record Puts (t : List ℕ) (v origin : ℕ) (w : World) (words bytes : List ℕ) (n : ℕ) (s : Totals) : Type 0 where
  pub is : put origin w (entry_from t v) ≡ went (world s words bytes)
  pub next : n ≡ line_after t v

-- or a limit refuses it
abbrev pub Putting : List ℕ → ℕ → ℕ → World → List ℕ → List ℕ → Result (ℕ × Totals) Refusal → Type 0
Putting t v origin w words bytes (Ok r) = Puts t v origin w words bytes r.0 r.1
Putting t v origin w words bytes (Err k) = put origin w (entry_from t v) ≡ stopped (number k) words bytes
