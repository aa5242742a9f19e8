-- Where a key has no row. Assumes nothing.
use mathlib.Core.List.{List, [], ◌∷◌, ◌++◌}
use mathlib.Core.Option.{Option, some, none}
use mathlib.Core.Path.{◌≡◌, refl}
use Prim.Native.Nat.{ℕ, ◌<◌}
use native.Mathlib.Omega.{arith}
use lib.ListN.{length}
use Rattle.definition.specs.Lists.{or_else}
use Rattle.definition.specs.Text.{Binding, tight, loose, Part}
use Rattle.definition.specs.Query.{Position}
use Rattle.definition.specs.Matching.{mark_at}
use Rattle.definition.specs.Ranking.{meet_row, skip_row, rank_of}

some_left : {A : Type 0} (xs : List A) (x : A) → 0 < length (xs ++ (x ∷ []))
some_left [] x = omega arith
some_left (y ∷ xs) x = omega arith

unmet : (m : Option ℕ) (r : Option (List ℕ)) → r ≡ none → meet_row m r ≡ none
unfolding meet_row
unmet none r e = refl
unmet (some m) r e = rw e refl

neither : (a : Option (List ℕ)) (b : Binding) (r : Option (List ℕ)) → a ≡ none → r ≡ none → or_else a (skip_row b r) ≡ none
unfolding or_else skip_row
neither a tight r e f = rw e refl
neither a loose r e f = rw (e, f) refl

-- more parts than positions
pub rank_short : (ks : List Part) (qs : List Position) → length qs < length ks → rank_of ks qs ≡ none
unfolding rank_of
rank_short [] qs h = absurd (omega arith)
rank_short (k ∷ ks) [] h = refl
rank_short (k ∷ ks) (q ∷ qs) h =
    neither _ k.binding _ (unmet (mark_at k q) (rank_of ks qs) (rank_short ks qs (omega arith))) (rank_short (k ∷ ks) qs (omega arith))

-- no part is left
pub rank_past : (qs : List Position) → 0 < length qs → rank_of [] qs ≡ none
unfolding rank_of
rank_past [] h = absurd (omega arith)
rank_past (q ∷ qs) h = refl

-- the last part has no mark at the last position
pub rank_last : (ks : List Part) (p : Part) (qs : List Position) (q : Position) → mark_at p q ≡ none → rank_of (ks ++ (p ∷ [])) (qs ++ (q ∷ [])) ≡ none
unfolding rank_of
rank_last [] p [] q e = neither _ p.binding _ (unfold meet_row in rw e refl) refl
rank_last [] p (r ∷ qs) q e =
    neither _ p.binding _ (unmet (mark_at p r) _ (rank_past (qs ++ (q ∷ [])) (some_left qs q))) (rank_last [] p qs q e)
rank_last (k ∷ ks) p [] q e =
    neither _ k.binding _ (unmet (mark_at k q) _ (rank_short (ks ++ (p ∷ [])) [] (some_left ks p))) refl
rank_last (k ∷ ks) p (r ∷ qs) q e =
    neither _ k.binding _ (unmet (mark_at k r) _ (rank_last ks p qs q e)) (rank_last (k ∷ ks) p qs q e)
