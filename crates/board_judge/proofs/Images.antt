-- Each slot of a board holds an image. Assumes nothing.
use mathlib.Core.Bool.{true}
use mathlib.Core.Path.{◌≡◌}
use Prim.Native.Nat.{ℕ, zero, suc, ◌+◌, ◌≤◌, ◌<◌}
use native.Mathlib.Omega.{arith}
use Rattle.definition.specs.Image.{is_image}
use Rattle.definition.specs.Board.{Arrival, each, Lent, pack_count, slot_at, are_slots, is_board}
use Rattle.laws.proofs.Lists.{Order, below, equal, above, order}
use Rattle.board_laws.proofs.Slots.{slots_are}
use Rattle.board_laws.proofs.Calls.{laid}

slots_image : (f : ℕ → Arrival) (i n : ℕ) → are_slots (each f i n) ≡ true → (j : ℕ) → i ≤ j → j < i + n → is_image (f j).contents (f j).bodies ≡ true
unfolding each
slots_image f i zero h j a b = absurd (omega arith)
slots_image f i (suc n) h j a b =
    let s = slots_are (f i) (each f (suc i) n) h in
    at (order i j) s.image (λ z. slots_image f (suc i) n s.others j z (omega arith))
  where
    at : Order i j → is_image (f i).contents (f i).bodies ≡ true → (i < j → is_image (f j).contents (f j).bodies ≡ true) → is_image (f j).contents (f j).bodies ≡ true
    at (below z) here later = later z
    at (equal z) here later = rw (← z) here
    at (above z) here later = absurd (omega arith)

pub slot_image : (l : Lent) → is_board l ≡ true → (i : ℕ) → i < pack_count l → is_image (slot_at l i).contents (slot_at l i).bodies ≡ true
slot_image l is i h = slots_image (slot_at l) 0 (pack_count l) (laid l is).slots i (omega arith) (omega arith)
