-- The lines of an image's rows, put one by one. Assumes nothing.
use mathlib.Core.List.{List, [], ◌++◌}
use mathlib.Core.Path.{◌≡◌, refl, ap, sym, ◌∙◌}
use Prim.Native.Nat.{ℕ, ◌+◌, ◌-◌, ◌≤◌, ◌<◌}
use native.Mathlib.Omega.{arith}
use lib.ListN.{length, take, drop}
use Rattle.definition.specs.Image.{Row, rows_from, rows_in, count_of, key_at, key_end}
use Rattle.laws.proofs.Lists.{part_slice}
use Rattle.image.specs.declared.Row as image
use Rattle.image.specs.Rows.{rows_left, row_at, row_of}
use Rattle.image.proofs.Rows.{rows_turn}
use Rattle.list_lines.specs.Lines.{entry_line, row_lines, Listable}

module _ (contents bodies : List ℕ) (n : ℕ) where
  -- the lines from row i on
  abbrev pub lines_left : ℕ → List ℕ
  lines_left i = row_lines i (rows_left contents n i) bodies

  pub lines_turn : (i : ℕ) → i < n → lines_left i ≡ entry_line i (key_at bodies (row_at contents i)) (row_at contents i).value_length ++ lines_left (i + 1)
  unfolding row_lines
  lines_turn i h = ap (λ (rs : List Row). row_lines i rs bodies) (rows_turn contents n i h)

  pub lines_none : (i : ℕ) → n ≤ i → lines_left i ≡ []
  unfolding row_lines rows_from
  lines_none i h = let z : n - i ≡ 0 = omega arith in rw z refl

  -- the line as the code puts it together
  pub lines_next : (i : ℕ) (r : image.Row) → row_of r ≡ row_at contents i → i < n
      → lines_left i ≡ entry_line i (take (r.start + r.key - r.start) (drop r.start bodies)) r.value ++ lines_left (i + 1)
  lines_next i r e h =
      lines_turn i h
      ∙ ap (λ (l : List ℕ). l ++ lines_left (i + 1))
      (sym (ap (λ (k : List ℕ). entry_line i k r.value) (part_slice bodies r.start (r.start + r.key)) ∙ ap (λ (x : Row). entry_line i (key_at bodies x) x.value_length) e))

-- all of them
pub lines_all : (contents bodies : List ℕ) → lines_left contents bodies (count_of contents) 0 ≡ row_lines 0 (rows_in contents) bodies
lines_all contents bodies = let z : count_of contents - 0 ≡ count_of contents = omega arith in rw z refl

pub room_left : {contents bodies left : List ℕ} → Listable contents bodies left → length (lines_left contents bodies (count_of contents) 0) ≤ length left
room_left {contents} {bodies} l = rw (lines_all contents bodies) l.room

pub key_fits : {contents bodies left : List ℕ} (i : ℕ) (r : image.Row) → Listable contents bodies left → row_of r ≡ row_at contents i → i < count_of contents
    → r.start + r.key ≤ length bodies
key_fits i r l e h = omega (arith, l.keys_within i h, ap key_end e)
