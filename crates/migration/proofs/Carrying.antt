-- The loop that writes an old image's rows. Assumes nothing.
use mathlib.Core.List.{List, [], ◌∷◌, ◌++◌, append_assoc, append-nil}
use mathlib.Core.Path.{◌≡◌, refl, sym, ap, ◌∙◌}
use Prim.Native.Nat.{ℕ, suc, ◌+◌, ◌-◌, ◌*◌, ◌≤◌, ◌<◌}
use native.Mathlib.Omega.{arith}
use lib.ListN.{length, take, drop, length-append, length-drop, take-append-drop}
use lib.Seq.{sets-eq, take_at, drop_at, drop-drop, length-take-le}
use Rattle.definition.specs.Limits.{old_row_words, row_words, unknown_file}
use Rattle.definition.specs.Image.{Row, rows_from}
use Rattle.definition.specs.Adding.{over}
use Rattle.image.specs.Rows.{row_start, row_at_by, rows_left_by, row_of, with_row}
use Rattle.image.specs.declared.Row as image
use Rattle.image.proofs.Rows.{rows_turn_by}
use Rattle.migration.specs.Carrying.{words_of, with_rows}

pub words_long : (rows : List Row) → length (words_of rows) ≡ row_words * length rows
unfolding words_of
words_long [] = refl
words_long (r ∷ rows) = omega (arith, words_long rows)

-- i rows are written, and with the others they are all
pub record Carrying (old words₀ : List ℕ) (count : ℕ) (words : List ℕ) (i : ℕ) : Type 0 where
  pub passed : i ≤ count
  pub done : List ℕ
  pub done_long : length done ≡ row_words * i
  pub here : words ≡ (take 2 words₀ ++ done) ++ drop (row_start i) words₀
  pub all : done ++ words_of (rows_left_by old_row_words old count i) ≡ words_of (rows_from old_row_words count (drop 2 old))

pub carrying_first : (old words : List ℕ) (count : ℕ) → row_start count ≤ length words → Carrying old words count words 0
carrying_first old words count h = record {
  passed = omega arith;
  done = [];
  done_long = refl;
  here = sym (ap (λ (l : List ℕ). l ++ drop 2 words) (append-nil (take 2 words)) ∙ take-append-drop 2 words);
  all = let e : count - 0 ≡ count = omega arith in rw e refl;
}

module _ {old words₀ : List ℕ} {count : ℕ} {words : List ℕ} {i : ℕ} (c : Carrying old words₀ count words i) (room : row_start count ≤ length words₀) where
  front_long : length (take 2 words₀ ++ c.done) ≡ row_start i
  front_long = omega (arith, length-append (take 2 words₀) c.done, length-take-le 2 words₀ (omega arith), c.done_long)

  pub words_same : length words ≡ length words₀
  words_same =
      omega (arith, ap length c.here, length-append (take 2 words₀ ++ c.done) (drop (row_start i) words₀), front_long, length-drop (row_start i) words₀, c.passed)

  module _ (more : i < count) {r : image.Row} (is : row_of r ≡ row_at_by old_row_words old i) {words' : List ℕ} (row : words' ≡ with_row words i (row_of r) unknown_file) where
    abbrev four : List ℕ
    four = (row_of r).start ∷ (row_of r).key_length ∷ (row_of r).value_length ∷ unknown_file ∷ []

    written : words' ≡ take (row_start i) words ++ four ++ drop (row_start i + 4) words
    written =
        let h : row_start i + 4 ≤ length words = omega (arith, words_same, room, more) in
        let one : row_start i + 1 ≡ suc (row_start i) = omega arith in
        let two : row_start i + 2 ≡ suc (suc (row_start i)) = omega arith in
        let three : row_start i + 3 ≡ suc (suc (suc (row_start i))) = omega arith in
        row ∙ rw (one, two, three) (sets-eq four words (row_start i) h)

    before : take (row_start i) words ≡ take 2 words₀ ++ c.done
    before = rw c.here (take_at (take 2 words₀ ++ c.done) (drop (row_start i) words₀) (row_start i) front_long)

    behind : drop (row_start i + 4) words ≡ drop (row_start (i + 1)) words₀
    behind =
        let f : row_start i + 4 ≡ row_start (i + 1) = omega arith in
        let rest : drop (row_start i) words ≡ drop (row_start i) words₀ =
        rw c.here (drop_at (take 2 words₀ ++ c.done) (drop (row_start i) words₀) (row_start i) front_long) in
        sym (drop-drop 4 (row_start i) words) ∙ ap (drop 4) rest ∙ drop-drop 4 (row_start i) words₀ ∙ rw f refl

    pub carrying_next : Carrying old words₀ count words' (i + 1)
    unfolding words_of
    carrying_next = record {
      passed = omega arith;
      done = c.done ++ four;
      done_long = omega (arith, length-append c.done four, c.done_long);
      here =
          written ∙ (λ j. before j ++ four ++ behind j)
          ∙ ap (λ (l : List ℕ). l ++ drop (row_start (i + 1)) words₀) (append_assoc (take 2 words₀) c.done four);
      all =
          append_assoc c.done four (words_of (rows_left_by old_row_words old count (i + 1)))
          ∙ sym (ap (λ (rows : List Row). c.done ++ words_of rows) (rows_turn_by old_row_words old count i more ∙ ap (λ (x : Row). x ∷ rows_left_by old_row_words old count (i + 1)) (sym is)))
          ∙ c.all;
    }

  pub carrying_done : count ≤ i → words ≡ with_rows count old words₀
  unfolding with_rows over rows_from words_of
  carrying_done h =
      let e : i ≡ count = omega (arith, c.passed) in
      let z : count - i ≡ 0 = omega arith in
      let rows = words_of (rows_from old_row_words count (drop 2 old)) in
      let d : c.done ≡ rows = sym (append-nil c.done) ∙ rw z at c.all in
      let n : row_start i ≡ 2 + length rows = omega (arith, ap length d, c.done_long) in
      c.here ∙ (λ j. (take 2 words₀ ++ d j) ++ drop (n j) words₀)
