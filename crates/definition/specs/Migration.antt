-- Carrying an old image over (document 02 (viii)): one whose rows have three words, into new buffers, without reading again; and what is
-- claimed of it.
use Rattle.std.specs.Prelude.{true, false, not, List, ◌≡◌, ℕ, length, if◌then◌else◌}
use Rattle.definition.specs.Limits.{row_words, old_row_words, unknown_file}
use Rattle.definition.specs.Text.{Entry}
use Rattle.definition.specs.Image.{all_from, image_contents, image_bodies, is_image_by, is_image, too_short}
use Rattle.definition.specs.Reading.{accepted, refused, Outcome, outcome}
use Rattle.definition.specs.Writing.{entries_by, sources_of_image, writing_by}
use Rattle.definition.specs.Query.{Bounds}
use Rattle.definition.specs.Lookup.{get_bytes_by}
use Rattle.definition.specs.Value.{get_string_by, get_bool_by, get_value_by, shown_by}
use Rattle.definition.specs.Walking.{Walk, walk_start_by, walk_step_by}

-- ---- The call

-- the image of some entries whose files nobody knows, zeroed past them as by a reading; no file is opened
unfoldable pub carried : List Entry → List ℕ → List ℕ → Outcome
carried es contents bodies = outcome (accepted (length es) 0) (image_contents (all_from unknown_file es) contents) (image_bodies es bodies)

-- 8 by the old judging, then 1 for the new buffers; neither changes anything
unfoldable pub migrating : List ℕ → List ℕ → List ℕ → List ℕ → Outcome
migrating oldContents oldBodies contents bodies =
    if not (is_image_by old_row_words oldContents oldBodies) then outcome (refused 8) contents bodies else
    if too_short contents bodies then outcome (refused 1) contents bodies else
    carried (entries_by old_row_words oldContents oldBodies) contents bodies

-- ---- What is claimed

-- two pairs of buffers, with rows of a width each, give every lookup, walk and writing the same answer
pub record EqualAnswers (v : ℕ) (contents bodies : List ℕ) (w : ℕ) (contents' bodies' : List ℕ) : Type 0 where
  -- every lookup, at every bounds (the shell's and the dictionary window's are two): place and length, and what stands there
  pub bytes : (most : Bounds) (name class : List ℕ) → get_bytes_by v most contents bodies name class ≡ get_bytes_by w most contents' bodies' name class
  pub string : (most : Bounds) (name class : List ℕ) → get_string_by v most contents bodies name class ≡ get_string_by w most contents' bodies' name class
  pub bool : (most : Bounds) (name class : List ℕ) → get_bool_by v most contents bodies name class ≡ get_bool_by w most contents' bodies' name class
  pub value : (most : Bounds) (name class : List ℕ) → get_value_by v most contents bodies name class ≡ get_value_by w most contents' bodies' name class
  pub show : (most : Bounds) (name class default : List ℕ)
      → shown_by v most contents bodies name class default ≡ shown_by w most contents' bodies' name class default
  -- a walk's start, and a step from any state
  pub start : (name class : List ℕ) → walk_start_by v contents bodies name class ≡ walk_start_by w contents' bodies' name class
  pub step : (name class : List ℕ) (s : Walk) → walk_step_by v contents bodies name class s ≡ walk_step_by w contents' bodies' name class s
  -- the written text
  pub text : (buffer : List ℕ) → writing_by v contents bodies buffer ≡ writing_by w contents' bodies' buffer

-- an old image carried over, into buffers long enough, is an image of the old entries, of files that nobody knows, and answers as the old
-- one does by the old judging
abbrev pub CarriesOver : Type 0
CarriesOver =
    (oldContents oldBodies contents bodies : List ℕ)
    → is_image_by old_row_words oldContents oldBodies ≡ true
    → too_short contents bodies ≡ false
    → let o = migrating oldContents oldBodies contents bodies in
    (is_image o.contents o.bodies ≡ true)
    × (sources_of_image o.contents o.bodies ≡ all_from unknown_file (entries_by old_row_words oldContents oldBodies))
    × EqualAnswers old_row_words oldContents oldBodies row_words o.contents o.bodies
