-- A reading with what was struck off. Assumes nothing.
use Rattle.std.specs.Prelude.{Result}
use mathlib.Core.List.{List}
use mathlib.Core.Path.{◌≡◌, refl}
use Prim.Native.Nat.{ℕ, ◌+◌, ◌≤◌}
use lib.ListN.{length, take, drop}
use lib.Seq.{paste, take_at, take-length}
use Rattle.definition.specs.Archive.{struck_off}
use Rattle.definition.specs.Reading.{outcome, reading}
use Rattle.reader.specs.Said.{said}
use Rattle.refusal.specs.declared.Refusal.{Refusal}
use Rattle.reader.specs.declared.Accepted.{Accepted}
use Rattle.reader_without.specs.Second.{SecondOf}

-- its front, as what was copied there
front_copied : (d s : List ℕ) → length s ≤ length d → take (length s) (paste d 0 s (length s)) ≡ s
front_copied d s h = rw (take-length s) (take_at s (drop (0 + length s) d) (length s) refl)

-- a reading with what was struck off
pub second_read : (r : Result Accepted Refusal) (depth : ℕ) (texts : List (List ℕ)) (archive : List ℕ) (file n : ℕ) (struck contents bodies struck' contents' bodies' : List ℕ)
    → length (struck_off file archive) ≤ length struck → n ≡ length (struck_off file archive) → struck' ≡ paste struck 0 (struck_off file archive) n
    → outcome (said r) contents' bodies' ≡ reading depth texts (take n struck') contents bodies → SecondOf r depth texts archive file struck contents bodies struck' contents' bodies'
second_read r depth texts archive file n struck contents bodies struck' contents' bodies' h e copied read =
    let left = rw e at copied in
    record { struck_off_left = left; read = rw (e, left, front_copied struck (struck_off file archive) h) at read }
