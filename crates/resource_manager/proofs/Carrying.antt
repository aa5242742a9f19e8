-- What document 02 (viii) says of the calls, by their contracts: after a migration that is accepted, each call on the new buffers gives and leaves
-- what the definition says of the old image with rows of three words. Assumes nothing.
use Rattle.std.specs.Prelude.{if◌then◌else◌}
use mathlib.Core.Bool.{Bool, true, false, not}
use mathlib.Core.List.{List}
use mathlib.Core.Path.{◌≡◌, refl, sym, ap, ◌∙◌}
use Prim.Native.Nat.{ℕ, ◌*◌}
use native.Mathlib.Omega.{arith}
use lib.IntN.{ℤ}
use Rattle.definition.specs.Limits.{row_words, old_row_words}
use Rattle.definition.specs.Image.{is_image_by, too_short}
use Rattle.definition.specs.Reading.{Outcome, outcome, refused}
use Rattle.definition.specs.Writing.{Filled, writing_by, writing}
use Rattle.definition.specs.Query.{Bounds}
use Rattle.definition.specs.Lookup.{Reply, Place, get_bytes_by, get_bytes_within}
use Rattle.definition.specs.Value.{Number, get_string_by, get_bool_by, get_value_by, shown_by, get_string_within, get_bool_within, get_value_within, shown_within}
use Rattle.definition.specs.Walking.{Walk, walk_start_by, walk_step_by, walk_start, walk_step}
use Rattle.definition.specs.Migration.{migrating, EqualAnswers}
use Rattle.laws.proofs.Migration.{carries_over}
use Rattle.codes.specs.Codes.{from16, place_code, bool_code, taking, taken, Beginning, start_numbers, Stepping, step_numbers}
use Rattle.readings.specs.Showing.{shown_at}
use Rattle.resource_manager.specs.Boundary.{Crossing, crossing, crossed, Filling, fill_code}

-- r is the migration's answer, for n entries, and c and b are what it left
module _ (oldContents oldBodies contents bodies c b : List ℕ) (r n : ℕ)
    (call : crossing r c b ≡ crossed (migrating oldContents oldBodies contents bodies)) (accepted : r ≡ from16 * n) where
  -- neither 8 nor 1
  not_8 : (i : Bool) (o : Outcome) → crossing r c b ≡ crossed (if not i then outcome (refused 8) contents bodies else o) → i ≡ true
  not_8 true o e = refl
  not_8 false o e = absurd (omega (arith, accepted, ap (λ (x : Crossing). x.code) e))

  not_1 : (s : Bool) (o : Outcome) → crossing r c b ≡ crossed (if s then outcome (refused 1) contents bodies else o) → s ≡ false
  not_1 true o e = absurd (omega (arith, accepted, ap (λ (x : Crossing). x.code) e))
  not_1 false o e = refl

  is_old : is_image_by old_row_words oldContents oldBodies ≡ true
  unfolding migrating
  is_old = not_8 (is_image_by old_row_words oldContents oldBodies) _ call

  long : too_short contents bodies ≡ false
  unfolding migrating
  long = not_1 (too_short contents bodies) _ (rw is_old at call)

  pub as_before : EqualAnswers old_row_words oldContents oldBodies row_words c b
  as_before =
      rw (← ap (λ (x : Crossing). x.contents) call, ← ap (λ (x : Crossing). x.bodies) call)
      at (carries_over oldContents oldBodies contents bodies is_old long).2

  module _ (name class : List ℕ) where
    -- x is the answer of a lookup, at the shell's bounds or the window's
    module _ (most : Bounds) (x : ℕ) where
      pub bytes_as_before : x ≡ place_code (get_bytes_within most c b name class) → x ≡ place_code (get_bytes_by old_row_words most oldContents oldBodies name class)
      bytes_as_before e = e ∙ ap place_code (sym (as_before.bytes most name class))

      pub string_as_before : x ≡ place_code (get_string_within most c b name class) → x ≡ place_code (get_string_by old_row_words most oldContents oldBodies name class)
      string_as_before e = e ∙ ap place_code (sym (as_before.string most name class))

      pub bool_as_before : x ≡ bool_code (get_bool_within most c b name class) → x ≡ bool_code (get_bool_by old_row_words most oldContents oldBodies name class)
      bool_as_before e = e ∙ ap bool_code (sym (as_before.bool most name class))

      -- with what it leaves in `out`
      pub value_as_before : (out y : ℤ) → taking x y ≡ taken (get_value_within most c b name class) out
          → taking x y ≡ taken (get_value_by old_row_words most oldContents oldBodies name class) out
      value_as_before out y e = e ∙ ap (λ (v : Reply Number). taken v out) (sym (as_before.value most name class))

    -- the bytes that are shown, and where they stand in the new bodies
    module _ (most : Bounds) where
      pub show_as_before : (default x : List ℕ) → x ≡ shown_within most c b name class default → x ≡ shown_by old_row_words most oldContents oldBodies name class default
      show_as_before default x e = e ∙ sym (as_before.show most name class default)

      pub shown_at_as_before : (atBodies atDefault p : ℕ × ℕ) → p ≡ shown_at (get_bytes_within most c b name class) atBodies atDefault
          → p ≡ shown_at (get_bytes_by old_row_words most oldContents oldBodies name class) atBodies atDefault
      shown_at_as_before atBodies atDefault p e = e ∙ ap (λ (v : Reply Place). shown_at v atBodies atDefault) (sym (as_before.bytes most name class))

    -- a walk's start, and a step from any state, with the numbers that they leave
    pub start_as_before : (next count : ℕ) (x : Beginning) → x ≡ start_numbers (walk_start c b name class) next count
        → x ≡ start_numbers (walk_start_by old_row_words oldContents oldBodies name class) next count
    start_as_before next count x e = e ∙ ap (λ (w : Reply Walk). start_numbers w next count) (sym (as_before.start name class))

    pub step_as_before : (w : Walk) (x : Stepping) → x ≡ step_numbers (walk_step c b name class w) w
        → x ≡ step_numbers (walk_step_by old_row_words oldContents oldBodies name class w) w
    step_as_before w x e = e ∙ ap (λ (i : Reply ℕ). step_numbers i w) (sym (as_before.step name class w))

  -- the written text
  pub text_as_before : (buffer : List ℕ) (x : Filling) → x ≡ fill_code (writing c b buffer) → x ≡ fill_code (writing_by old_row_words oldContents oldBodies buffer)
  text_as_before buffer x e = e ∙ ap (λ (f : Filled). fill_code f) (sym (as_before.text buffer))
