-- The lines that a walk has still to list, from its next number on. Assumes nothing.
use mathlib.Core.Bool.{true}
use mathlib.Core.List.{List, [], ◌∷◌, ◌++◌, append-nil}
use mathlib.Core.Option.{Option, some, none}
use mathlib.Core.Path.{◌≡◌, refl, sym, ap, ◌∙◌}
use Prim.Native.Nat.{ℕ, suc, ◌+◌, ◌≤◌, ◌<◌}
use native.Mathlib.Numerals.{add-one}
use native.Mathlib.Omega.{arith}
use lib.ListN.{length, drop, drop_of_length-le}
use Rattle.definition.specs.Text.{Entry}
use Rattle.definition.specs.Archive.{File}
use Rattle.definition.specs.Image.{Sourced, count_of, origins_in, key_at, value_at, is_image}
use Rattle.definition.specs.Query.{Query, positions, malformed, past_limit, query_of}
use Rattle.definition.specs.Lookup.{given, no_value, refused}
use Rattle.definition.specs.Writing.{entries_of_image, sources_of_image}
use Rattle.definition.specs.Walking.{aligned_from, first_of, Walk, walk, walk_start, number_or, stepped, walk_step_by, walk_step}
use Rattle.definition.specs.Adding.{numbers_from, numbers_of}
use Rattle.laws.proofs.Keys.{parts_of}
use Rattle.laws.proofs.Image.{image_sizes}
use Rattle.laws.proofs.Origins.{bare_with, with_at}
use Rattle.laws.proofs.Walking.{step_within}
use Rattle.laws.proofs.Adding.{Starts, starts, step_gives, numbers_rest}
use Rattle.image.specs.Rows.{row_at, origin_at}
use Rattle.image.proofs.Rows.{origin_is}
use Rattle.image_judge.proofs.Judged.{judged}
use Rattle.walk.proofs.Walking.{entry_of}
use Rattle.places.specs.Places.{file_told}
use Rattle.walk_lines.specs.Lines.{listed_line, blank, line_at, lines_at, walk_lines}

-- ---- What is left

module _ (contents bodies name class : List ℕ) where
  abbrev q : Query
  q = query_of name class

  abbrev es : List Entry
  es = entries_of_image contents bodies

  abbrev xs : List Sourced
  xs = sources_of_image contents bodies

  -- the numbers from the next on, and their lines
  abbrev left : ℕ → List ℕ
  left next = numbers_from next q (drop next es)

  abbrev pub lines_left : List File → ℕ → List ℕ
  lines_left fs next = lines_at fs xs (left next)

  -- at first all lines
  pub lines_all : (fs : List File) → walk_lines fs q xs ≡ lines_left fs 0
  lines_all fs = ap (λ (l : List Entry). lines_at fs xs (numbers_of q l)) (bare_with es (origins_in contents))

-- ---- In a walk that was begun

module _ (contents bodies name class : List ℕ) (count : ℕ) (begun : walk_start contents bodies name class ≡ given (walk 0 count)) where
  abbrev query : Query
  query = q contents bodies name class

  abbrev held : List Entry
  held = es contents bodies name class

  abbrev sources : List Sourced
  sources = xs contents bodies name class

  abbrev lines : List File → ℕ → List ℕ
  lines fs next = lines_left contents bodies name class fs next

  abbrev numbers : ℕ → List ℕ
  numbers next = left contents bodies name class next

  start : Starts contents bodies name class (walk 0 count)
  start = starts contents bodies name class (walk 0 count) begun

  pub image : is_image contents bodies ≡ true
  image = start.is_image_lem

  pub count_is : count ≡ count_of contents
  count_is = ap (λ (w : Walk). w.count) start.begins

  many : count ≡ length held
  many = count_is ∙ sym (image_sizes contents bodies image).0

  pub lines_past : (fs : List File) (next : ℕ) → count ≤ next → lines fs next ≡ []
  unfolding lines_at numbers_from aligned_from
  lines_past fs next h = rw (drop_of_length-le held {i = next} (omega (arith, many))) (at query)
    where
      at : (x : Query) → lines_at fs sources (numbers_from next x []) ≡ []
      at (positions qs) = refl
      at malformed = refl
      at (past_limit k) = refl

  step_is : (next : ℕ) → walk_step contents bodies name class (walk next count) ≡ number_or (first_of (numbers next))
  unfolding walk_step_by
  step_is next = rw image (ap (λ (l : List Entry). stepped (walk next count) l query) (sym (append-nil held)) ∙ step_gives query held [] (walk next count) start.asked many)

  module _ (next : ℕ) where
    lines_next : (fs : List File) (i : ℕ) → given i ≡ walk_step contents bodies name class (walk next count) → lines fs next ≡ line_at fs sources i ++ lines fs (i + 1)
    unfolding number_or first_of lines_at
    lines_next fs i h = at (numbers next) refl (h ∙ step_is next)
      where
        at : (l : List ℕ) → numbers next ≡ l → given i ≡ number_or (first_of l) → lines_at fs sources (numbers next) ≡ line_at fs sources i ++ lines fs (i + 1)
        at [] e g = let z : ◌≡◌ {A = ℕ} 0 1 = cc in absurd (omega arith)
        at (k ∷ ks) e g =
            let f : i ≡ k = cc in
            let more : numbers (suc k) ≡ ks = numbers_rest query held next k ks e in
            rw (e, add-one i, f, more) refl

    pub lines_end : (fs : List File) → no_value ≡ walk_step contents bodies name class (walk next count) → lines fs next ≡ []
    unfolding number_or first_of lines_at
    lines_end fs h = at (numbers next) refl (h ∙ step_is next)
      where
        at : (l : List ℕ) → numbers next ≡ l → no_value ≡ number_or (first_of l) → lines_at fs sources (numbers next) ≡ []
        at [] e g = rw e refl
        at (k ∷ ks) e g = let z : ◌≡◌ {A = ℕ} 0 1 = cc in absurd (omega arith)

    -- no step of a walk that has begun is refused
    pub goes_on : (k : ℕ) → refused k ≡ walk_step contents bodies name class (walk next count) → ⊥
    unfolding number_or first_of
    goes_on k h = at (first_of (numbers next)) (h ∙ step_is next)
      where
        at : (o : Option ℕ) → refused k ≡ number_or o → ⊥
        at none g = let z : ◌≡◌ {A = ℕ} 0 1 = cc in omega arith
        at (some i) g = let z : ◌≡◌ {A = ℕ} 0 1 = cc in omega arith

    -- the number that it gives is that of a row
    pub within : (i : ℕ) → given i ≡ walk_step contents bodies name class (walk next count) → (next ≤ i) × (i < count) × (i < count_of contents)
    within i h =
        let s = step_within contents bodies name class (walk next count) i (sym h) in
        (s.0, s.1, omega (arith, s.1, count_is))

  -- entry i's line, as the code puts it together
  line_is : (fs : List File) (i : ℕ) → i < count_of contents
      → line_at fs sources i ≡ listed_line i (file_told fs (origin_at contents i)) (key_at bodies (row_at contents i)) (value_at bodies (row_at contents i))
  unfolding line_at
  line_is fs i h =
      rw (with_at held (origins_in contents) i blank (omega (arith, h, count_is, many)), origin_is contents i h, entry_of contents bodies i blank.entry image h, (parts_of (key_at bodies (row_at contents i)) ((judged contents bodies image).row_key i h)).written)
      refl

  -- the lines from there on, where the walk gives entry i next
  pub lines_turn : (fs : List File) (next i : ℕ) → given i ≡ walk_step contents bodies name class (walk next count)
      → lines fs next ≡ listed_line i (file_told fs (origin_at contents i)) (key_at bodies (row_at contents i)) (value_at bodies (row_at contents i)) ++ lines fs (i + 1)
  lines_turn fs next i h = lines_next next fs i h ∙ ap (λ (l : List ℕ). l ++ lines fs (i + 1)) (line_is fs i (within next i h).2)
