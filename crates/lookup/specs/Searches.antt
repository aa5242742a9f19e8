-- What a search over the entries of an image finds: a lookup and a step of a walk are one.
use Rattle.std.specs.Prelude.{Bool, true, false, ◌&&◌, not, List, [], ◌∷◌, ◌≡◌, ℕ, suc, min, ltb, if◌then◌else◌, Some, None}
use Rattle.std.specs.Prelude as std
use Rattle.std.proofs.Math.Option.{Option, some, none}
use Rattle.definition.specs.Text.{Part}
use Rattle.definition.specs.Image.{count_of, key_end, entries_in, is_image}
use Rattle.definition.specs.Query.{Position, Query, positions, malformed, past_limit, Bounds, query_within}
use Rattle.definition.specs.Ranking.{Best, no_entry, best, rank_of, better}
use Rattle.definition.specs.Lookup.{keys_of, Reply, given, no_value, refused, Place}
use Rattle.image.specs.Rows.{row_at, rows_left}
use Rattle.marks.specs.Rows.{marks_of, is_live, best_in, Held, wins_over}
use Rattle.marks.specs.declared.Marks.{Marks}

-- ---- One entry

-- the best row so far after an entry with that row, if it has one
unfoldable pub considered : Option (List ℕ) → Marks → Marks
considered row held = if wins_over (marks_of row) held then marks_of row else held

-- ---- A search

unfoldable pub is_entry : Best → Bool
is_entry no_entry = false
is_entry (best i row) = true

unfoldable pub row_of : Best → Option (List ℕ)
row_of no_entry = none
row_of (best i row) = some row

-- going on from entry i with the best so far; where the first is asked for, no further than an entry that aligns
unfoldable pub searched : Bool → List (List Part) → List Position → ℕ → Best → Best
searched first [] qs i b = b
searched first (k ∷ ks) qs i b =
    if first && is_entry (better i (rank_of k qs) b)
    then better i (rank_of k qs) b
    else searched first ks qs (suc i) (better i (rank_of k qs) b)

unfoldable pub numbered : Best → Reply ℕ
numbered no_entry = no_value
numbered (best i row) = given i

-- of the entries from `next` on and below `last`, after those passed before
abbrev pub searched_after : Best → Bool → ℕ → ℕ → List ℕ → List ℕ → List Position → Best
searched_after passed first next last contents bodies qs = searched first (keys_of (entries_in (rows_left contents last next) bodies)) qs next passed

abbrev pub searched_in : Bool → ℕ → ℕ → List ℕ → List ℕ → List Position → Best
searched_in = searched_after no_entry

-- its number, and `last` for none; and the answer that this stands for
unfoldable pub number_or : ℕ → Best → ℕ
number_or last no_entry = last
number_or last (best i row) = i

-- the number of an entry that is found, and `last` for none
abbrev pub found_or : ℕ → std.Option ℕ → ℕ
found_or last None = last
found_or last (Some i) = i

-- before a search a row of a mark for each position is held, or none; none where the first entry that aligns is asked for
pub record Begun (first : Bool) (len : ℕ) (held : Marks) : Type 0 where
  pub kept : Held len held
  pub unended : (first && is_live held) ≡ false

-- and after it: the best so far, by the number of its entry and its row
pub record Holds (len entry : ℕ) (held : Marks) (b : Best) : Type 0 where
  pub is : best_in len entry held ≡ b
  pub kept : Held len held

unfoldable pub entry_found : ℕ → ℕ → Reply ℕ
entry_found last i = if ltb i last then given i else no_value

unfoldable pub entry_in : Bool → ℕ → ℕ → List ℕ → List ℕ → Query → Reply ℕ
entry_in first next last contents bodies (positions qs) = numbered (searched_in first next last contents bodies qs)
entry_in first next last contents bodies malformed = no_value
entry_in first next last contents bodies (past_limit k) = refused k

-- 8, 9, malformed, 10
unfoldable pub entry_within : Bounds → Bool → ℕ → ℕ → List ℕ → List ℕ → List ℕ → List ℕ → Reply ℕ
entry_within most first next count contents bodies name class =
    if not (is_image contents bodies) then refused 8 else
    entry_in first next (min count (count_of contents)) contents bodies (query_within most name class)

-- the value of that entry
unfoldable pub value_in : List ℕ → Reply ℕ → Reply Place
value_in contents (given i) = given (record { start = key_end (row_at contents i); length = (row_at contents i).value_length })
value_in contents no_value = no_value
value_in contents (refused k) = refused k
