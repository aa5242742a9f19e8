-- How long the lines are. Assumes nothing.
use Rattle.std.specs.Prelude.{if◌then◌else◌}
use mathlib.Core.Bool.{Bool, true, false}
use mathlib.Core.List.{List, [], ◌∷◌, ◌++◌}
use mathlib.Core.Path.{◌≡◌, refl, sym, ap, ◌∙◌}
use Prim.Native.Nat.{ℕ, suc, ◌+◌, ◌*◌, ◌≤◌}
use native.Mathlib.Nat.{add-zero}
use native.Mathlib.Numerals.{add-one}
use native.Mathlib.Omega.{arith}
use lib.ListN.{length, drop, get_or, length-append}
use lib.Seq.{drop-drop, get_or-drop}
use Rattle.definition.specs.Limits.{file_name_bytes}
use Rattle.definition.specs.Archive.{File, files_of, laid_out}
use Rattle.definition.specs.Text.{Entry}
use Rattle.definition.specs.Image.{key_of, Sourced, bare, store_of}
use Rattle.definition.specs.Query.{Position, Query, positions, malformed, past_limit}
use Rattle.definition.specs.Walking.{aligns, aligned_from}
use Rattle.definition.specs.Adding.{numbers_from}
use Rattle.printing.specs.Putting.{decimal}
use Rattle.printing.proofs.Numbers.{decimal_most}
use Rattle.shown_bytes.specs.Shown.{shown}
use Rattle.shown_bytes.proofs.Showing.{shown_most}
use Rattle.places.specs.Places.{file_told}
use Rattle.places.proofs.Placing.{place_most}
use Rattle.walk_lines.specs.Lines.{head_of, listed_line, blank, line_at, lines_at, walk_lines}

module _ (i : ℕ) (place : List ℕ) where
  pub head_long : length (head_of i place) ≡ length (decimal i) + 1 + length place + 2
  unfolding head_of
  head_long = simp length-append

module _ (i : ℕ) (place key value : List ℕ) where
  pub listed_long : length (listed_line i place key value) ≡ length (head_of i place) + length key + 2 + length (shown value) + 1
  unfolding listed_line
  listed_long = simp length-append

  listed_most : length place ≤ file_name_bytes → length (listed_line i place key value) ≤ 122 + length key + 4 * length value
  listed_most h = omega (arith, listed_long, head_long i place, decimal_most i, shown_most value)

-- ---- All lines

-- of the entries from number i on
module _ (archive : List ℕ) (h : laid_out archive ≡ true) (qs : List Position) (all : List Sourced) where
  abbrev fs : List File
  fs = files_of archive

  lines_most : (i : ℕ) (xs : List Sourced) → drop i all ≡ xs
      → length (lines_at fs all (aligned_from i qs (bare xs))) ≤ 122 * length xs + 4 * length (store_of (bare xs))
  unfolding lines_at aligned_from store_of line_at
  lines_most i [] d = omega arith
  lines_most i (x ∷ xs) d = at (aligns qs x.entry) (lines_most (suc i) xs rest)
    where
      rest : drop (suc i) all ≡ xs
      rest = ap (λ (m : ℕ). drop m all) (sym (add-one i)) ∙ sym (drop-drop 1 i all) ∙ ap (drop 1) d

      here : get_or all i blank ≡ x
      here = ap (λ (m : ℕ). get_or all m blank) (sym (add-zero i)) ∙ sym (get_or-drop i all 0 blank) ∙ ap (λ (l : List Sourced). get_or l 0 blank) d

      e : Entry
      e = x.entry

      size : length (store_of (bare (x ∷ xs))) ≡ length (key_of e.parts) + length e.value + length (store_of (bare xs))
      size = omega (arith, length-append (key_of e.parts ++ e.value) (store_of (bare xs)), length-append (key_of e.parts) e.value)

      line : length (line_at fs all i) ≤ 122 + length (key_of e.parts) + 4 * length e.value
      line = rw here (listed_most i (file_told fs x.origin) (key_of e.parts) e.value (place_most archive h x.origin))

      at : (b : Bool) → length (lines_at fs all (aligned_from (suc i) qs (bare xs))) ≤ 122 * length xs + 4 * length (store_of (bare xs))
          → length (lines_at fs all (if b then i ∷ aligned_from (suc i) qs (bare xs) else aligned_from (suc i) qs (bare xs)))
          ≤ 122 * length (x ∷ xs) + 4 * length (store_of (bare (x ∷ xs)))
      at true k = omega (arith, k, size, line, length-append (line_at fs all i) (lines_at fs all (aligned_from (suc i) qs (bare xs))))
      at false k = omega (arith, k, size)

pub walk_most : (archive : List ℕ) → laid_out archive ≡ true → (q : Query) (xs : List Sourced)
    → length (walk_lines (files_of archive) q xs) ≤ 122 * length xs + 4 * length (store_of (bare xs))
unfolding numbers_from lines_at
walk_most archive h (positions qs) xs = lines_most archive h qs xs 0 xs refl
walk_most archive h malformed xs = omega arith
walk_most archive h (past_limit k) xs = omega arith
