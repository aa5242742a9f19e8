-- The value that is found, and how long the line of an answer is. Assumes nothing.
use mathlib.Core.List.{List}
use mathlib.Core.Path.{◌≡◌, ap}
use Prim.Native.Nat.{ℕ, ◌+◌, ◌-◌, ◌≤◌}
use native.Mathlib.Omega.{arith}
use Rattle.std.specs.Prelude.{Ok, Some}
use lib.ListN.{length, take, drop, length-append, length-drop}
use lib.Seq.{length-take-le}
use Rattle.laws.proofs.Lists.{part_slice}
use Rattle.lookup.specs.declared.Place.{Place}
use Rattle.definition.specs.Lists.{ascii}
use Rattle.showing.specs.Showing.{Shown, value, no_value, refused_by, shown_of, value_bytes, words_of, line_of}

-- the part of the bodies, as the code takes it
pub found_value : (bodies : List ℕ) (p : Place) → p.start + p.size ≤ length bodies
    → (value (take (p.start + p.size - p.start) (drop p.start bodies)) ≡ shown_of bodies (Ok (Some p))) × (length (take (p.start + p.size - p.start) (drop p.start bodies)) ≤ length bodies)
found_value bodies p h =
    let e : p.start + p.size - p.start ≡ p.size = omega arith in
    (ap value (part_slice bodies p.start (p.start + p.size)), rw e (omega (arith, length-take-le p.size (drop p.start bodies) (omega (arith, length-drop p.start bodies)))))

words_most : (s : Shown) → length (words_of s) ≤ 7 + value_bytes s
unfolding words_of
words_most (value v) = omega (arith, length-append (ascii "value ") v)
words_most no_value = omega arith
words_most (refused_by k) = omega arith

module _ (label file : List ℕ) (s : Shown) where
  pub line_long : length (line_of label file s) ≡ length label + length file + 2 + length (words_of s) + 1
  unfolding line_of
  line_long = simp length-append

  pub line_most : length (line_of label file s) ≤ length label + length file + value_bytes s + 10
  line_most = omega (arith, line_long, words_most s)
