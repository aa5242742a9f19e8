-- The entry that beats the rest of a list beats the rest of one rearranged, so that both give the same value, or none. Assumes nothing.
use mathlib.Core.Bool.{Bool, true, false}
use mathlib.Core.List.{List, []}
use mathlib.Core.Option.{some}
use mathlib.Core.Path.{◌≡◌, refl, sym, ap, ◌∙◌}
use Prim.Native.Nat.{ℕ, ◌<◌}
use native.Mathlib.Omega.{arith}
use lib.ListN.{length, get_or}
use Rattle.definition.specs.Lists.{lower}
use Rattle.definition.specs.Text.{Entry}
use Rattle.definition.specs.Query.{Position, positions, malformed, past_limit}
use Rattle.definition.specs.Matching.{Ranks, Beats}
use Rattle.definition.specs.Ranking.{Best, no_entry, best, best_of}
use Rattle.definition.specs.Lookup.{keys_of, answer_of}
use Rattle.definition.specs.Orders.{Rearranged, blank, WinnerStays, SameAnswers}
use Rattle.laws.proofs.Lists.{not_both, Order, below, equal, above, order}
use Rattle.laws.proofs.Ranking.{best_beats, best_none}
use Rattle.laws.proofs.Striking.{answer_beats, answer_none}
use Rattle.orders.proofs.Answers.{keys_long, key_there, key_back, none_above, inside, stays_earlier}

-- as in Answers: one is the other rearranged, and of two entries with equal key the earlier stays the earlier; i beats the rest in the one
module _ (xs ys : List Entry) (r : Rearranged blank xs ys)
    (in_order : (i j : ℕ) → i < j → j < length xs → get_or (keys_of xs) i [] ≡ get_or (keys_of xs) j [] → r.place i < r.place j)
    (qs : List Position) (i : ℕ) (b : Beats (keys_of xs) qs i) where
  -- an entry behind its new place ranks lower
  lower_behind : (j : ℕ) (other : List ℕ) → r.place i < j → j < length ys → Ranks (get_or (keys_of xs) (r.back j) []) qs other → lower other b.row ≡ true
  lower_behind j other z h k = at (order (r.back j) i) (lower other b.row) refl
    where
      there : r.place (r.back j) ≡ j
      there = r.undone_back j h

      at : Order (r.back j) i → (c : Bool) → lower other b.row ≡ c → c ≡ true
      at o true e = refl
      at (below n) false e = absurd (omega (arith, there, stays_earlier xs ys r in_order qs i b (r.back j) other n k e))
      at (equal n) false e = let m : r.place (r.back j) ≡ r.place i = ap r.place n in absurd (omega (arith, there))
      at (above n) false e = absurd (not_both (b.after (r.back j) other n (rw (keys_long xs) (r.inside_back j h)) k) e)

  beats_there : Beats (keys_of ys) qs (r.place i)
  beats_there = record {
    inside = rw (keys_long ys) (r.inside i (inside xs ys r in_order qs i b));
    row = b.row;
    ranks = rw (key_there xs ys r i (inside xs ys r in_order qs i b)) b.ranks;
    before = λ j other z k.
        let h : j < length ys = omega (arith, r.inside i (inside xs ys r in_order qs i b)) in
        none_above xs qs i b (r.back j) other (r.inside_back j h) (rw (key_back xs ys r j h) at k);
    after = λ j other z g k.
        let h : j < length ys = rw (keys_long ys) at g in
        lower_behind j other z h (rw (key_back xs ys r j h) at k);
  }

pub winner_stays : WinnerStays
winner_stays xs ys r qs i b = beats_there xs ys r.rearranged r.in_order qs i b

pub same_answers : SameAnswers
unfolding answer_of
same_answers xs ys r (positions qs) = at (best_of (keys_of xs) qs) refl
  where
    at : (c : Best) → best_of (keys_of xs) qs ≡ c → answer_of xs (positions qs) ≡ answer_of ys (positions qs)
    at no_entry e =
        let none-aligns = best_none (keys_of xs) qs e in
        answer_none xs qs none-aligns
        ∙ sym (answer_none ys qs (λ j row h a.
        let k : j < length ys = rw (keys_long ys) at h in
        none-aligns (r.rearranged.back j) row (rw (keys_long xs) (r.rearranged.inside_back j k)) (rw (key_back xs ys r.rearranged j k) at a)))
    at (best i row) e =
        let b = best_beats (keys_of xs) qs i row e in
        answer_beats xs qs i b
        ∙ ap (λ (x : Entry). some x.value) (sym (r.rearranged.element i (inside xs ys r.rearranged r.in_order qs i b)))
        ∙ sym (answer_beats ys qs (r.rearranged.place i) (winner_stays xs ys r qs i b))
same_answers xs ys r malformed = refl
same_answers xs ys r (past_limit k) = refl
