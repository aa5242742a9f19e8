-- A walk (document 02 (v)): the entries that align with a query, lowest number first, a step at a time.
use Rattle.std.specs.Prelude.{Bool, true, false, not, List, [], ◌∷◌, ◌≡◌, ℕ, suc, ◌≤◌, ◌<◌, length, get_or, take, drop, if◌then◌else◌}
use Rattle.std.proofs.Math.Option.{Option, some, none}
use Rattle.definition.specs.Text.{Entry}
use Rattle.definition.specs.Limits.{row_words}
use Rattle.definition.specs.Image.{count_of, is_image_by, is_image}
use Rattle.definition.specs.Writing.{entries_by, entries_of_image}
use Rattle.definition.specs.Query.{Position, Query, positions, malformed, past_limit, query_of}
use Rattle.definition.specs.Matching.{Aligned}
use Rattle.definition.specs.Ranking.{rank_of}
use Rattle.definition.specs.Lookup.{keys_of, Reply, given, no_value, refused, get_bytes}

-- ---- In a list of entries

unfoldable pub has_row : Option (List ℕ) → Bool
has_row none = false
has_row (some row) = true

-- does an entry align? It has a row just where some alignment has one: see `NumbersAlign`
unfoldable pub aligns : List Position → Entry → Bool
aligns qs e = has_row (rank_of e.parts qs)

-- the numbers of the entries that align, lowest first, where the first entry has number i
unfoldable pub aligned_from : ℕ → List Position → List Entry → List ℕ
aligned_from i qs [] = []
aligned_from i qs (e ∷ es) = if aligns qs e then i ∷ aligned_from (suc i) qs es else aligned_from (suc i) qs es

unfoldable pub first_of : List ℕ → Option ℕ
first_of [] = none
first_of (i ∷ is) = some i

-- the walk's state: its next number, and the entry count from its start
pub record Walk : Type 0 where
  pub next : ℕ
  pub count : ℕ

abbrev pub walk : ℕ → ℕ → Walk
walk next count = record { next = next; count = count }

-- the least number that aligns, not below the next and below both that count and the number of entries
unfoldable pub next_of : Walk → List Position → List Entry → Option ℕ
next_of w qs es = first_of (aligned_from w.next qs (drop w.next (take w.count es)))

-- ---- The calls

-- a malformed query begins a walk too; it lists nothing
unfoldable pub begun : ℕ → Query → Reply Walk
begun n (positions qs) = given (walk 0 n)
begun n malformed = given (walk 0 n)
begun n (past_limit k) = refused k

-- 8, 9, 10, with rows of that width: the next number is 0 at first, and the count is the image's
unfoldable pub walk_start_by : ℕ → List ℕ → List ℕ → List ℕ → List ℕ → Reply Walk
walk_start_by width contents bodies name class =
    if not (is_image_by width contents bodies) then refused 8 else begun (count_of contents) (query_of name class)

abbrev pub walk_start : List ℕ → List ℕ → List ℕ → List ℕ → Reply Walk
walk_start contents bodies name class = walk_start_by row_words contents bodies name class

-- a number, or the end
unfoldable pub number_or : Option ℕ → Reply ℕ
number_or none = no_value
number_or (some i) = given i

unfoldable pub stepped : Walk → List Entry → Query → Reply ℕ
stepped w es (positions qs) = number_or (next_of w qs es)
stepped w es malformed = no_value
stepped w es (past_limit k) = refused k

-- 8, 9, malformed, 10, from any state
unfoldable pub walk_step_by : ℕ → List ℕ → List ℕ → List ℕ → List ℕ → Walk → Reply ℕ
walk_step_by width contents bodies name class w =
    if not (is_image_by width contents bodies) then refused 8 else stepped w (entries_by width contents bodies) (query_of name class)

abbrev pub walk_step : List ℕ → List ℕ → List ℕ → List ℕ → Walk → Reply ℕ
walk_step contents bodies name class w = walk_step_by row_words contents bodies name class w

-- the next is then one more; at the end, and where a step is refused, the state stays
unfoldable pub after_step : Walk → Reply ℕ → Walk
after_step w (given i) = walk (suc i) w.count
after_step w no_value = w
after_step w (refused k) = w

-- ---- What is claimed

-- i is the number of an entry that aligns: some alignment of its key has a row
abbrev pub AlignsAt : List Position → List Entry → ℕ → Type 0
AlignsAt qs es i = (i < length es) × ((row : List ℕ) × Aligned (get_or (keys_of es) i []) qs row)

-- the numbers of just those entries that align, each once, rising
pub record JustAligned (qs : List Position) (es : List Entry) (is : List ℕ) : Type 0 where
  pub rising : (j k : ℕ) → j < k → k < length is → get_or is j 0 < get_or is k 0
  pub each : (k : ℕ) → k < length is → AlignsAt qs es (get_or is k 0)
  pub every : (i : ℕ) → AlignsAt qs es i → (k : ℕ) × (k < length is) × (get_or is k 0 ≡ i)

abbrev pub NumbersAlign : Type 0
NumbersAlign = (qs : List Position) (es : List Entry) → JustAligned qs es (aligned_from 0 qs es)

-- a number that aligns, not below the next and below both that count and the number of entries
abbrev pub InReach : Walk → List Position → List Entry → ℕ → Type 0
InReach w qs es i = (w.next ≤ i) × (i < w.count) × AlignsAt qs es i

-- the least such number, or else the end
abbrev pub GivesLeast : Walk → List Position → List Entry → Reply ℕ → Type 0
GivesLeast w qs es (given i) = InReach w qs es i × ((j : ℕ) → InReach w qs es j → i ≤ j)
GivesLeast w qs es no_value = (j : ℕ) → InReach w qs es j → ⊥
GivesLeast w qs es (refused k) = ⊥

-- a step in an image, from any state, of a query that is well formed and within its limits
abbrev pub StepLeast : Type 0
StepLeast =
    (contents bodies name class : List ℕ) (w : Walk) (qs : List Position)
    → is_image contents bodies ≡ true
    → query_of name class ≡ positions qs
    → GivesLeast w qs (entries_of_image contents bodies) (walk_step contents bodies name class w)

-- the number that refuses, if any
unfoldable pub refusal_in : {A : Type 0} → Reply A → Option ℕ
refusal_in (given a) = none
refusal_in no_value = none
refusal_in (refused k) = some k

-- a start, and a step from any state, are refused as a lookup is
abbrev pub RefusedAlike : Type 0
RefusedAlike =
    (contents bodies name class : List ℕ) (w : Walk)
    → let lookup = refusal_in (get_bytes contents bodies name class) in
    (refusal_in (walk_start contents bodies name class) ≡ lookup) × (refusal_in (walk_step contents bodies name class w) ≡ lookup)
