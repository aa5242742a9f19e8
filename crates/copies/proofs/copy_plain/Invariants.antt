-- `copies::copy_plain` meets its contract. Assumes nothing.
use mathlib.Core.List.{List}
use mathlib.Core.Path.{◌≡◌}
use Prim.Native.Nat.{ℕ, ◌+◌, ◌≤◌}
use lib.ListN.{length}
use Rattle.scan.proofs.Runs.{Passed}
use Rattle.copies.specs.Plain.{is_plain}
use Rattle.copies.proofs.Copying.{Copied}
use Rattle.copies.proofs.copy_plain.Given as goal

-- what was copied before the loop, whatever it was copied into, is copied further
abbrev pub invariant-loop-i : goal.invariant-loop-i
invariant-loop-i l =
    ((d : List ℕ) → l.at + length l.text ≤ length d → Copied d l.at l.text l.initial.store l.initial.i → Copied d l.at l.text l.store l.i)
    × Passed is_plain l.text l.i × (length l.store ≡ length l.initial.store)
