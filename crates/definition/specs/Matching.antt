-- Matching (document 01, "Matching"; Xlib 15.2; `match_entry`): alignments, marks, rows, and who beats the rest.
use Rattle.std.specs.Prelude.{Bool, true, false, List, [], ◌∷◌, ◌≡◌, ℕ, ◌<◌, length, get_or, if◌then◌else◌}
use Rattle.std.proofs.Math.Option.{Option, some, none, map}
use Rattle.definition.specs.Lists.{same, lower}
use Rattle.definition.specs.Text.{Binding, tight, loose, Component, wildcard, name, Part}
use Rattle.definition.specs.Query.{Position}

-- how a component matches at a position
pub data Match : Type 0 where
  byWildcard byClass byInstance : Match

-- a missing part equals nothing
unfoldable pub equals : List ℕ → Option (List ℕ) → Bool
equals n none = false
equals n (some m) = same n m

-- instance, else class, or `?`; a name that equals neither has no match
unfoldable pub match_at : Component → Position → Option Match
match_at wildcard q = some byWildcard
match_at (name n) q =
    if equals n q.instance then some byInstance else
    if equals n q.class then some byClass else
    none

-- a mark is its rank: skipped, then `?`, class, instance; equal ones by loose, tight (Xlib 15.2, rules 1 to 3)
abbrev pub skip_mark : ℕ
skip_mark = 0

unfoldable pub mark_of : Match → Binding → ℕ
mark_of byWildcard loose = 1
mark_of byWildcard tight = 2
mark_of byClass loose = 3
mark_of byClass tight = 4
mark_of byInstance loose = 5
mark_of byInstance tight = 6

unfoldable pub mark_at : Part → Position → Option ℕ
mark_at p q = map (λ m. mark_of m p.binding) (match_at p.component q)

-- an alignment of a key's parts with a query's positions, and its row of marks: each position is skipped, which needs the next part
-- to be loose, or matched by the next part; after the last part none is skipped
pub data Aligned : List Part → List Position → List ℕ → Type 0 where
  end : Aligned [] [] []
  skip : {p : Part} {ps : List Part} {q : Position} {qs : List Position} {row : List ℕ}
      → p.binding ≡ loose → Aligned (p ∷ ps) qs row → Aligned (p ∷ ps) (q ∷ qs) (skip_mark ∷ row)
  meet : {p : Part} {ps : List Part} {q : Position} {qs : List Position} {mark : ℕ} {row : List ℕ}
      → mark_at p q ≡ some mark → Aligned ps qs row → Aligned (p ∷ ps) (q ∷ qs) (mark ∷ row)

-- an entry ranks by its highest row: rows are compared at their first difference from the left
pub record Ranks (key : List Part) (qs : List Position) (row : List ℕ) : Type 0 where
  pub aligned : Aligned key qs row
  pub highest : (other : List ℕ) → Aligned key qs other → lower row other ≡ false

-- entry i beats the rest: it aligns, ranks no lower than any aligned entry before it and higher than any aligned entry after it
pub record Beats (keys : List (List Part)) (qs : List Position) (i : ℕ) : Type 0 where
  pub inside : i < length keys
  pub row : List ℕ
  pub ranks : Ranks (get_or keys i []) qs row
  pub before : (j : ℕ) (other : List ℕ) → j < i → Ranks (get_or keys j []) qs other → lower row other ≡ false
  pub after : (j : ℕ) (other : List ℕ) → i < j → j < length keys → Ranks (get_or keys j []) qs other → lower other row ≡ true

-- in a list exactly one entry beats the rest if any aligns, else none: a law of the crate `laws` (Ranking.antt: `one_beats`)
pub record OneBeats (keys : List (List Part)) (qs : List Position) : Type 0 where
  pub if_any : (j : ℕ) (row : List ℕ) → j < length keys → Aligned (get_or keys j []) qs row
      → (i : ℕ) × Beats keys qs i × ((k : ℕ) → Beats keys qs k → k ≡ i)
  pub else_none : ((j : ℕ) (row : List ℕ) → j < length keys → Aligned (get_or keys j []) qs row → ⊥) → (i : ℕ) → Beats keys qs i → ⊥
