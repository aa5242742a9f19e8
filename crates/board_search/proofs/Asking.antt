-- A watched query, and what the search finds for it. Assumes nothing.
use Rattle.std.specs.Prelude.{Option, Some, None}
use Rattle.std.specs.Option.{is_some}
use mathlib.Core.Bool.{true}
use mathlib.Core.List.{List}
use mathlib.Core.Path.{◌≡◌, refl, sym, ap, ◌∙◌}
use Prim.Native.Nat.{ℕ, zero, suc, ◌+◌, ◌<◌}
use native.Mathlib.Omega.{arith}
use borrow.Author.Tests.{le-leb}
use Rattle.definition.specs.Limits.{query_bytes}
use Rattle.definition.specs.Query.{Position, Query, malformed, past_limit, query_of}
use Rattle.definition.specs.Ranking.{no_entry}
use Rattle.definition.specs.Lookup.{no_value}
use Rattle.definition.specs.Board.{Watched, query_number, each, Lent, pack_count, query_count, have_room, query_at, board_in, is_board}
use Rattle.laws.proofs.Lists.{and_both}
use Rattle.board_laws.proofs.Calls.{laid}
use Rattle.marks.specs.Rows.{is_live, best_in}
use Rattle.marks.specs.declared.Marks.{Marks}
use Rattle.lookup.specs.Searches.{numbered, found_or}
use Rattle.board_search.specs.Spots.{spot_replied}
use Rattle.board_search.specs.Slots.{best_slots, spot_of}

-- query q, where there is one
pub query_number_lem : (f : ℕ → Watched) (i n q : ℕ) → q < n → query_number (each f i n) q ≡ query_of (f (i + q)).name (f (i + q)).class
unfolding query_number each
query_number_lem f i zero q h = absurd (omega arith)
query_number_lem f i (suc n) zero h = let e : i + 0 ≡ i = omega arith in rw e refl
query_number_lem f i (suc n) (suc q) h =
    let e : suc i + q ≡ i + suc q = omega arith in
    query_number_lem f (suc i) n q (omega arith) ∙ rw e refl

pub room_of : (l : Lent) → is_board l ≡ true → (q : ℕ) → q < query_count l → have_room l q ≡ true
unfolding have_room
room_of l is q h = let r = (laid l is).rooms q h in and_both (le-leb _ query_bytes r.0) (le-leb _ query_bytes r.1)

-- ---- What the search finds

pub spot_best : (l : Lent) (skip : ℕ) (qs : List Position) (len : ℕ) (found : Option ℕ) (r : Marks) → is_some found ≡ is_live r
    → best_in len (found_or 0 found) r ≡ best_slots l skip qs 0 (pack_count l) no_entry
    → spot_replied found ≡ numbered (best_slots l skip qs 0 (pack_count l) no_entry)
unfolding best_in numbered
spot_best l skip qs len (Some n) r h e = rw (sym h) at (ap numbered e)
spot_best l skip qs len None r h e = rw (sym h) at (ap numbered e)

-- a query that has no parts finds nothing
module _ (l : Lent) (skip : ℕ) where
  pub spot_malformed : no_value ≡ spot_of l skip malformed
  unfolding spot_of
  spot_malformed = refl

  pub spot_past : (k : ℕ) → no_value ≡ spot_of l skip (past_limit k)
  unfolding spot_of
  spot_past k = refl

watched_query : (l : Lent) (q : ℕ) → q < query_count l → (name class : List ℕ) → name ≡ (query_at l q).name → class ≡ (query_at l q).class
    → query_of name class ≡ query_number (board_in l).queries q
watched_query l q h name class e f =
    let z : 0 + q ≡ q = omega arith in
    (λ t. query_of (e t) (f t)) ∙ sym (query_number_lem (query_at l) 0 (query_count l) q h ∙ rw z refl)

-- what is found for query q is found for what its text is
pub spot_watched : (l : Lent) (skip q : ℕ) → q < query_count l → (name class : List ℕ) → name ≡ (query_at l q).name → class ≡ (query_at l q).class
    → (x : Query) → x ≡ query_of name class → spot_of l skip x ≡ spot_of l skip (query_number (board_in l).queries q)
spot_watched l skip q h name class e f x k = ap (spot_of l skip) (k ∙ watched_query l q h name class e f)
