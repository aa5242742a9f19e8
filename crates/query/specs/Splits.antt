-- Where the parts of a text stand in it.
use Rattle.std.specs.Prelude.{Bool, false, ◌&&◌, not, List, [], ◌∷◌, ◌++◌, ◌≡◌, ℕ, zero, suc, ◌+◌, ◌≤◌, ◌<◌, length, get_or, take, drop, if◌then◌else◌}
use Rattle.definition.specs.Lists.{take_while}
use Rattle.definition.specs.Limits.{query_parts}
use Rattle.definition.specs.Bytes.{is_name}
use Rattle.query.specs.declared.Split.{Split}

-- ---- Parts, from a text

-- where the parts of t begin, which stands at `at`: a byte of a name begins one, if none stands before it
unfoldable pub starts_from : Bool → ℕ → List ℕ → List ℕ
starts_from named at [] = []
starts_from named at (c ∷ t) = (if is_name c && not named then at ∷ [] else []) ++ starts_from (is_name c) (at + 1) t

abbrev pub part_starts : List ℕ → List ℕ
part_starts t = starts_from false 0 t

-- the part that begins at `at`
abbrev pub name_from : List ℕ → ℕ → List ℕ
name_from t at = take_while is_name (drop at t)

abbrev pub length_from : List ℕ → ℕ → ℕ
length_from t at = length (name_from t at)

-- ---- What parts stand for

-- f 0, f 1 and so on, n of them
unfoldable pub each : {A : Type 0} → ℕ → (ℕ → A) → List A
each zero f = []
each (suc n) f = f 0 ∷ each n (λ i. f (suc i))

abbrev pub part_in : List ℕ → List ℕ → List ℕ → ℕ → List ℕ
part_in text starts lengths i = take (get_or lengths i 0) (drop (get_or starts i 0) text)

unfoldable pub names_in : List ℕ → List ℕ → List ℕ → List (List ℕ)
names_in text starts lengths = each (length starts) (part_in text starts lengths)

-- no more parts than any query may have, none of them empty, each within the text
pub record Inside (text starts lengths : List ℕ) : Type 0 where
  pub few : length starts ≤ query_parts
  pub same : length lengths ≡ length starts
  pub some : (i : ℕ) → i < length starts → 0 < get_or lengths i 0
  pub within : (i : ℕ) → i < length starts → get_or starts i 0 + get_or lengths i 0 ≤ length text

-- ---- Parts held by value

abbrev pub starts_of : {n : ℕ} → Split n → List ℕ
starts_of s = take s.count s.starts

abbrev pub lengths_of : {n : ℕ} → Split n → List ℕ
lengths_of s = take s.count s.lengths

pub record SplitIn {n : ℕ} (text : List ℕ) (s : Split n) : Type 0 where
  pub inside : Inside text (starts_of s) (lengths_of s)
  pub starts_held : s.count ≤ length s.starts
  pub lengths_held : s.count ≤ length s.lengths
