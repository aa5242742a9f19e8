-- A board's answers in document 02's numbers, and what its parts ask for and leave.
use Rattle.std.specs.Prelude.{not, List, [], ◌∷◌, ℕ, suc, ◌-◌, ◌≤◌, eqb, length, Result, Ok, Err}
use Rattle.std.proofs.Math.Seq.{slice}
use Rattle.definition.specs.Lists.{take_while}
use Rattle.definition.specs.Limits.{board_words, board_bytes}
use Rattle.definition.specs.Lookup.{Reply, given, refused}
use Rattle.definition.specs.Adding.{over}
use Rattle.definition.specs.Board.{each, Lent, lent, slot_start, body_start}
use Rattle.board_judge.specs.Slots.{number_at}
use Rattle.refusal.specs.declared.Refusal.{Refusal}
use Rattle.refusal.specs.Numbers.{number}

-- a call that is done, with the number of a query that is watched from now on, or the number of a refusal
abbrev pub replied : Result ℕ Refusal → Reply ℕ
replied (Ok n) = given n
replied (Err k) = refused (number k)

-- a pack that leaves its slot, whose number is not told
abbrev pub left : Result ℕ Refusal → Reply ℕ
left (Ok i) = given 0
left (Err k) = refused (number k)

-- buffers that are long enough
pub record Long (words bytes : List ℕ) : Type 0 where
  pub words_long : board_words ≤ length words
  pub bytes_long : board_bytes ≤ length bytes

-- how many of the numbers of so many slots stand before one
unfoldable pub before_number : List ℕ → ℕ → ℕ → ℕ
before_number words number count = length (take_while (λ n. not (eqb number n)) (each (number_at words) 0 count))

-- slot i of `count` taken out
unfoldable pub dropped : Lent → ℕ → ℕ → Lent
dropped l i count =
    lent
    (over 0 ((count - 1) ∷ []) (over (slot_start i) (slice (slot_start (suc i)) (slot_start count) l.words) l.words))
    (over (body_start i) (slice (body_start (suc i)) (body_start count) l.bytes) l.bytes)
