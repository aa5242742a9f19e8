-- The slots of a board by their words, and what is judged of one.
use Rattle.std.specs.Prelude.{Bool, false, ◌&&◌, not, ◌≡◌, List, ℕ, ◌+◌, ◌-◌, eqb, get_or, if◌then◌else◌}
use Rattle.definition.specs.Lists.{any}
use Rattle.definition.specs.Image.{is_image}
use Rattle.refusal.specs.declared.Refusal.{Refusal}
use Rattle.refusal.specs.Numbers.{number}
use Rattle.definition.specs.Board.{each, Lent, slot_start, slot_at, short_board, is_board}

-- the number of the pack in slot i
abbrev pub number_at : List ℕ → ℕ → ℕ
number_at words i = get_or words (slot_start i) 0

-- has a slot from i on and below `last` that number?
unfoldable pub has_number_from : List ℕ → ℕ → ℕ → ℕ → Bool
has_number_from words number i last = any (eqb number) (each (number_at words) i (last - i))

-- slot i of `count`: its number is not zero and none behind it has it, and it holds an image
unfoldable pub slot_holds : Lent → ℕ → ℕ → Bool
slot_holds l i count =
    not (eqb (number_at l.words i) 0) && not (has_number_from l.words (number_at l.words i) (i + 1) count)
    && is_image (slot_at l i).contents (slot_at l i).bodies

-- why a call is turned away: the buffers are too short, or hold no board
abbrev pub turns_away : Lent → Refusal → Type 0
turns_away l k = (number k ≡ (if short_board l then 1 else 8)) × (is_board l ≡ false)
