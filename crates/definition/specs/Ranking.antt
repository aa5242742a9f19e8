-- The same as Matching, computed: which entry beats the rest, if any. The crate `laws` shows that the two agree.
use Rattle.std.specs.Prelude.{List, [], ◌∷◌, ℕ, suc, if◌then◌else◌}
use Rattle.std.proofs.Math.Option.{Option, some, none}
use Rattle.definition.specs.Lists.{or_else, lower}
use Rattle.definition.specs.Text.{Binding, tight, loose, Part}
use Rattle.definition.specs.Query.{Position}
use Rattle.definition.specs.Matching.{skip_mark, mark_at}

-- the row of a match, and of a skip, before the row of what follows
unfoldable pub meet_row : Option ℕ → Option (List ℕ) → Option (List ℕ)
meet_row none r = none
meet_row (some m) none = none
meet_row (some m) (some r) = some (m ∷ r)

unfoldable pub skip_row : Binding → Option (List ℕ) → Option (List ℕ)
skip_row tight r = none
skip_row loose none = none
skip_row loose (some r) = some (skip_mark ∷ r)

-- a key's highest row: a match that leads to an alignment ranks above any skip
unfoldable pub rank_of : List Part → List Position → Option (List ℕ)
rank_of [] [] = some []
rank_of [] (q ∷ qs) = none
rank_of (p ∷ ps) [] = none
rank_of (p ∷ ps) (q ∷ qs) = or_else (meet_row (mark_at p q) (rank_of ps qs)) (skip_row p.binding (rank_of (p ∷ ps) qs))

-- the entry that beats those passed so far, and its row
pub data Best : Type 0 where
  no_entry : Best
  best : ℕ → List ℕ → Best

-- entry i, of that row, after them: of equals the last wins
unfoldable pub better : ℕ → Option (List ℕ) → Best → Best
better i none b = b
better i (some r) no_entry = best i r
better i (some r) (best j s) = if lower r s then best j s else best i r

unfoldable pub best_from : List (List Part) → List Position → ℕ → Best → Best
best_from [] qs i b = b
best_from (k ∷ ks) qs i b = best_from ks qs (suc i) (better i (rank_of k qs) b)

unfoldable pub best_of : List (List Part) → List Position → Best
best_of ks qs = best_from ks qs 0 no_entry
