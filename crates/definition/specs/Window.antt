-- The dictionary window's smaller limit (document 02 (vi)): what is claimed of any two bounds of a query; the crate `laws` proves it.
use Rattle.std.specs.Prelude.{List, ◌≡◌, ℕ, ◌≤◌}
use Rattle.definition.specs.Query.{Bounds, past_limit, query_within}
use Rattle.definition.specs.Lookup.{get_bytes_within}
use Rattle.definition.specs.Value.{get_string_within, get_bool_within, get_value_within, shown_within}

-- neither 9 nor 10 turns the query away; a malformed one may be admitted, and gets none
abbrev pub Admits : Bounds → List ℕ → List ℕ → Type 0
Admits most name class = (k : ℕ) → query_within most name class ≡ past_limit k → ⊥

-- in every image, and in what is none: the value's place and length, its four readings, refusals included
pub record SameAnswers (a b : Bounds) (contents bodies name class : List ℕ) : Type 0 where
  pub bytes : get_bytes_within a contents bodies name class ≡ get_bytes_within b contents bodies name class
  pub string : get_string_within a contents bodies name class ≡ get_string_within b contents bodies name class
  pub boolean : get_bool_within a contents bodies name class ≡ get_bool_within b contents bodies name class
  pub number : get_value_within a contents bodies name class ≡ get_value_within b contents bodies name class
  pub show : (default : List ℕ) → shown_within a contents bodies name class default ≡ shown_within b contents bodies name class default

-- a query that both admit gets the same answer from both
abbrev pub BoundsAgree : Type 0
BoundsAgree = (a b : Bounds) (name class : List ℕ) → Admits a name class → Admits b name class
    → (contents bodies : List ℕ) → SameAnswers a b contents bodies name class

-- wider bounds admit all that narrower ones do
abbrev pub WiderAdmits : Type 0
WiderAdmits = (a b : Bounds) → a.bytes ≤ b.bytes → a.parts ≤ b.parts → (name class : List ℕ) → Admits a name class → Admits b name class
