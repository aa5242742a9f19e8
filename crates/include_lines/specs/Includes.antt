-- The includes of a text, by their places there: what the code answers. proofs/Named.antt shows that they are the definition's.
use Rattle.std.specs.Prelude.{Option, Some, None, List, [], ◌∷◌, ◌++◌, ◌≡◌, ℕ, zero, suc, ◌+◌, ◌-◌, ◌≤◌, ◌<◌, length, take, drop}
use Rattle.definition.specs.Text as text
use Rattle.values.specs.Decoded.{rest_at}
use Rattle.parser.specs.Putting.{line_after}
use Rattle.lines.specs.Places.{line_in}
use Rattle.lines.specs.declared.Directive.{Directive}
use Rattle.lines.specs.declared.Line.{Line}
use Rattle.lines.specs.declared.Line.TheVariants.{Skip, Include, Entry}

-- ---- The definition's

unfoldable pub included_by : List text.Line → List (List ℕ)
included_by [] = []
included_by (text.skipped ∷ ls) = included_by ls
included_by (text.include n ∷ ls) = n ∷ included_by ls
included_by (text.entry e ∷ ls) = included_by ls

-- the names of a text's includes, as they are written, in order
unfoldable pub includes_of : List ℕ → List (List ℕ)
includes_of t = included_by (text.lines_of t)

-- ---- By their places

-- where an include's name starts, its length, and where the line after it starts
pub data Place : Type 0 where
  place : ℕ → ℕ → ℕ → Place

abbrev pub name_in : List ℕ → Place → List ℕ
name_in t (place start size next) = take size (drop start t)

-- how many bytes the line at the front of t takes
unfoldable pub taken : List ℕ → Line → ℕ
taken t (Skip n) = n
taken t (Include d) = d.end
taken t (Entry r) = line_after t r.value

-- the include that a line which starts at `at` is, if it is one
unfoldable pub placed : ℕ → Line → List Place
placed at (Skip n) = []
placed at (Include d) = place (at + d.start) d.size (at + d.end) ∷ []
placed at (Entry r) = []

-- of t, which starts at `at`, without its first s bytes
unfoldable pub places_in : ℕ → ℕ → List ℕ → List Place
places_in s at [] = []
places_in zero at (c ∷ t) = placed at (line_in (c ∷ t)) ++ places_in (taken (c ∷ t) (line_in (c ∷ t)) - 1) (at + 1) t
places_in (suc s) at (c ∷ t) = places_in s (at + 1) t

-- the includes of t from `from` on, where a line starts
unfoldable pub includes_from : ℕ → List ℕ → List Place
includes_from from t = places_in 0 from (drop from t)

-- those that are left: the one that the code answers, and those after its line
abbrev pub starting_with : List ℕ → Option Directive → List Place
starting_with t (Some d) = place d.start d.size d.end ∷ includes_from d.end t
starting_with t None = []

-- their names
abbrev pub naming : List ℕ → Option Directive → List (List ℕ)
naming t (Some d) = take d.size (drop d.start t) ∷ includes_of (drop d.end t)
naming t None = []

-- an include stands in the text, and its line after `from`
abbrev pub Inside : List ℕ → ℕ → Option Directive → Type 0
Inside t from (Some d) = (d.start + d.size ≤ length t) × (from < d.end) × (d.end ≤ length t)
Inside t from None = Unit {0}

-- n bytes give the first piece of a value
pub record PieceTakes (t : List ℕ) (n : ℕ) : Type 0 where
  pub rest : rest_at t ≡ rest_at (drop n t)
  pub some : 1 ≤ n
  pub inside : n ≤ length t

-- how many bytes give it, if the value does not end
abbrev pub FirstPiece : List ℕ → Option ℕ → Type 0
FirstPiece t (Some n) = PieceTakes t n
FirstPiece t None = rest_at t ≡ t
