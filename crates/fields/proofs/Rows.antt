-- The rows of an image, passed one by one. Assumes nothing.
use Rattle.std.specs.Prelude.{Option, Some, None}
use mathlib.Core.Bool.{Bool, true, false}
use mathlib.Core.List.{List, [], ◌∷◌, ◌++◌}
use mathlib.Core.Path.{◌≡◌, refl, sym, ap, ◌∙◌}
use Prim.Native.Nat.{ℕ, ◌+◌, ◌-◌, ◌≤◌, ◌<◌}
use native.Mathlib.Nat.{sub-zero}
use native.Mathlib.Omega.{arith}
use lib.Dec.{eqb}
use lib.ListN.{length, take, drop}
use borrow.Author.Tests.{ne_eqb}
use Rattle.definition.specs.Lists.{is_empty, ascii}
use Rattle.definition.specs.Image as image
use Rattle.definition.specs.Image.{rows_from, rows_in, count_of, key_at, value_at, is_image}
use Rattle.image.specs.Rows.{row_at, rows_left}
use Rattle.image.specs.declared.Row.{Row}
use Rattle.image.proofs.Rows.{rows_turn}
use Rattle.printing.specs.Putting.{decimal}
use Rattle.fields.specs.Fields.{passed, bytes_end, followed, are_rows, is_reading}
use Rattle.fields.proofs.Passing.{followed_on}

module _ (contents bodies line : List ℕ) where
  -- i entries were passed, and `rest` is left of the line
  pub record Walk (rest : List ℕ) (i : ℕ) : Type 0 where
    pub most : i ≤ count_of contents
    pub same : are_rows (rows_left contents (count_of contents) i) bodies rest ≡ are_rows (rows_in contents) bodies line

  pub walk_begun : Walk line 0
  walk_begun = record { most = omega arith; same = rw (sub-zero (count_of contents)) refl }

  module _ {rest : List ℕ} {i : ℕ} (w : Walk rest i) where
    pub walk_ended : count_of contents ≤ i → eqb (length rest) 0 ≡ are_rows (rows_in contents) bodies line
    unfolding are_rows rows_from is_empty
    walk_ended h =
        let e : count_of contents - i ≡ 0 = omega arith in
        empty rest ∙ (rw e at w.same)
      where
        empty : (t : List ℕ) → eqb (length t) 0 ≡ is_empty t
        empty [] = refl
        empty (c ∷ t) = ne_eqb (length (c ∷ t)) 0 (λ e. omega arith)

    -- the row at hand, by its key and its value
    module _ (h : i < count_of contents) (key : List ℕ) (is_key : key ≡ key_at bodies (row_at contents i)) where
      abbrev next : List ℕ → Bool
      next u = followed (bytes_end (value_at bodies (row_at contents i)) u) (are_rows (rows_left contents (count_of contents) (i + 1)) bodies) u

      turn : are_rows (rows_in contents) bodies line ≡ followed (bytes_end key rest) next rest
      unfolding are_rows
      turn = sym w.same ∙ ap (λ (rs : List image.Row). are_rows rs bodies rest) (rows_turn contents (count_of contents) i h) ∙ rw (← is_key) refl

      pub key_differs : None ≡ bytes_end key rest → false ≡ are_rows (rows_in contents) bodies line
      key_differs e = sym (turn ∙ rw (← e) refl)

      module _ (k : ℕ) (ends : Some k ≡ bytes_end key rest) (value : List ℕ) (is_value : value ≡ value_at bodies (row_at contents i)) where
        abbrev pub u : List ℕ
        u = take (length rest - k) (drop k rest)

        turned : are_rows (rows_in contents) bodies line ≡ followed (bytes_end value u) (are_rows (rows_left contents (count_of contents) (i + 1)) bodies) u
        turned = rw is_value (turn ∙ ap (λ (o : Option ℕ). followed o next rest) (sym ends) ∙ followed_on k next rest)

        pub value_differs : None ≡ bytes_end value u → false ≡ are_rows (rows_in contents) bodies line
        value_differs e = sym (turned ∙ rw (← e) refl)

        pub walk_next : (v : ℕ) → Some v ≡ bytes_end value u → Walk (take (length u - v) (drop v u)) (i + 1)
        walk_next v e = record { most = omega arith; same = sym (turned ∙ rw (← e) (followed_on v (are_rows (rows_left contents (count_of contents) (i + 1)) bodies) u)) }

-- ---- A reading: its opens, its entries, and its rows

module _ (opens entries : ℕ) (contents bodies t : List ℕ) where
  pub no_image : is_image contents bodies ≡ false → false ≡ is_reading opens entries contents bodies t
  unfolding is_reading
  no_image e = rw e refl

  module _ (image : is_image contents bodies ≡ true) where
    pub other_opens : None ≡ passed (ascii " " ++ decimal opens) t → false ≡ is_reading opens entries contents bodies t
    unfolding is_reading
    other_opens e = rw (image, ← e) refl

    module _ (a : ℕ) (is_opens : Some a ≡ passed (ascii " " ++ decimal opens) t) where
      abbrev pub after : List ℕ
      after = take (length t - a) (drop a t)

      goes_on : is_reading opens entries contents bodies t ≡ followed (passed (ascii " " ++ decimal entries) after) (are_rows (rows_in contents) bodies) after
      unfolding is_reading
      goes_on = rw (image, ← is_opens) (followed_on a (λ u. followed (passed (ascii " " ++ decimal entries) u) (are_rows (rows_in contents) bodies) u) t)

      pub other_entries : None ≡ passed (ascii " " ++ decimal entries) after → false ≡ is_reading opens entries contents bodies t
      other_entries e = sym (goes_on ∙ rw (← e) refl)

      pub has_rows : (b : ℕ) → Some b ≡ passed (ascii " " ++ decimal entries) after → are_rows (rows_in contents) bodies (take (length after - b) (drop b after)) ≡ is_reading opens entries contents bodies t
      has_rows b e = sym (goes_on ∙ rw (← e) (followed_on b (are_rows (rows_in contents) bodies) after))
