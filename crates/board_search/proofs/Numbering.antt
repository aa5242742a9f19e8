-- Two numberings of the entries of a search. Assumes nothing.
use Rattle.std.specs.Prelude.{if◌then◌else◌, Some, None, IfSome}
use Rattle.std.specs.Prelude as std
use Rattle.std.specs.Option.{is_some}
use mathlib.Core.Bool.{Bool, true, false}
use mathlib.Core.List.{List, [], ◌∷◌}
use mathlib.Core.Logic.{◌⊎◌, inl, inr}
use mathlib.Core.Option.{Option, some, none}
use mathlib.Core.Path.{◌≡◌, refl, sym, ap, ◌∙◌}
use Prim.Native.Nat.{ℕ, suc, ◌+◌, ◌*◌, ◌≤◌, ◌<◌}
use native.Mathlib.Omega.{arith}
use lib.Dec.{ltb}
use lib.ListN.{length}
use borrow.Author.Tests.{lt-ltb, le-ltb}
use Rattle.definition.specs.Lists.{lower}
use Rattle.definition.specs.Limits.{most_entries}
use Rattle.definition.specs.Text.{Part}
use Rattle.definition.specs.Query.{Position}
use Rattle.definition.specs.Ranking.{Best, no_entry, best, rank_of, better, best_from, best_of}
use Rattle.marks.specs.Rows.{is_live, marks_in, best_in}
use Rattle.marks.specs.declared.Marks.{Marks}
use Rattle.marks.specs.Rows.{Held}
use Rattle.lookup.specs.Searches.{number_or, found_or}
use Rattle.laws.proofs.Ranking.{best_beats}
use Rattle.board_search.specs.Slots.{found_after}

-- the same row, under two numbers of one entry
abbrev pub Agrees : (ℕ → ℕ → Type 0) → Best → Best → Type 0
Agrees P no_entry no_entry = Unit {0}
Agrees P no_entry (best j s) = ⊥
Agrees P (best i r) no_entry = ⊥
Agrees P (best i r) (best j s) = (r ≡ s) × P i j

module _ (P : ℕ → ℕ → Type 0) where
  agrees_better : (i j : ℕ) (o : Option (List ℕ)) (b c : Best) → P i j → Agrees P b c → Agrees P (better i o b) (better j o c)
  unfolding better
  agrees_better i j none b c e a = a
  agrees_better i j (some r) no_entry no_entry e a = (refl, e)
  agrees_better i j (some r) no_entry (best l t) e a = absurd a
  agrees_better i j (some r) (best k s) no_entry e a = absurd a
  agrees_better i j (some r) (best k s) (best l t) e a = rw (← a.0) (at (lower r s))
    where
      at : (w : Bool) → Agrees P (if w then best k s else best i r) (if w then best l s else best j r)
      at true = (refl, a.1)
      at false = (refl, e)

  pub agrees_from : (ks : List (List Part)) (qs : List Position) (i j : ℕ) (b c : Best)
      → ((r : ℕ) → r < length ks → P (i + r) (j + r)) → Agrees P b c → Agrees P (best_from ks qs i b) (best_from ks qs j c)
  unfolding best_from
  agrees_from [] qs i j b c h a = a
  agrees_from (k ∷ ks) qs i j b c h a =
      let e : i + 0 ≡ i = omega arith in
      let g : j + 0 ≡ j = omega arith in
      let first : P i j = rw (e, g) at (h 0 (omega arith)) in
      let later : (r : ℕ) → r < length ks → P (suc i + r) (suc j + r) = λ r z.
      let x : i + suc r ≡ suc i + r = omega arith in
      let y : j + suc r ≡ suc j + r = omega arith in
      rw (x, y) at (h (suc r) (omega arith)) in
      agrees_from ks qs (suc i) (suc j) (better i (rank_of k qs) b) (better j (rank_of k qs) c) later (agrees_better i j (rank_of k qs) b c first a)

-- ---- The entries of a slot, numbered by the search through it and as entries of the board

unfoldable renumbered : ℕ → Best → Best
renumbered n no_entry = no_entry
renumbered n (best i row) = best n row

renumbers : (len i n : ℕ) (r : Marks) → best_in len n r ≡ renumbered n (best_in len i r)
unfolding best_in renumbered
renumbers len i n r = by (is_live r)
  where
    by : (b : Bool) → (if b then best n (marks_in len r) else no_entry) ≡ renumbered n (if b then best i (marks_in len r) else no_entry)
    by true = refl
    by false = refl

-- the number of the best entry after those of a slot, of which `last` stands for none
unfoldable number_after : ℕ → ℕ → ℕ → ℕ → ℕ
number_after found slot entry last = if ltb entry last then most_entries * slot + entry else found

-- `last` stands for the best entry of the slots before, whose number is `found`
module _ (len slot last found : ℕ) (top : Marks) where
  abbrev Numbers : ℕ → ℕ → Type 0
  Numbers i j = ((i ≡ last) × (j ≡ found)) ⊎ ((i < last) × (j ≡ most_entries * slot + i))

  held_agrees : Agrees Numbers (best_in len last top) (best_in len found top)
  unfolding best_in
  held_agrees = by (is_live top)
    where
      by : (b : Bool) → Agrees Numbers (if b then best last (marks_in len top) else no_entry) (if b then best found (marks_in len top) else no_entry)
      by true = (refl, inl (refl, refl))
      by false = tt

  number_is : (i j : ℕ) → Numbers i j → number_after found slot i last ≡ j
  unfolding number_after
  number_is i j (inl e) = rw (le-ltb i last (omega (arith, e.0))) (sym e.1)
  number_is i j (inr e) = rw (lt-ltb i last e.0) (sym e.1)

  module _ (entry : ℕ) (r : Marks) where
    found_in : (x y : Best) → Agrees Numbers x y → entry ≡ number_or last x → renumbered (number_after found slot entry last) x ≡ y
    unfolding renumbered number_or
    found_in no_entry no_entry a e = refl
    found_in no_entry (best j s) a e = absurd a
    found_in (best i row) no_entry a e = absurd a
    found_in (best i row) (best j s) a e = rw e (λ t. best (number_is i j a.1 t) (a.0 t))

    -- what the search through the slot holds, under the board's number
    number_on : (ks : List (List Part)) (qs : List Position) → length ks ≡ last
        → best_in len entry r ≡ best_from ks qs 0 (best_in len last top) → entry ≡ number_or last (best_from ks qs 0 (best_in len last top))
        → best_in len (number_after found slot entry last) r ≡ best_from ks qs (most_entries * slot) (best_in len found top)
    number_on ks qs l is number =
        renumbers len entry (number_after found slot entry last) r
        ∙ ap (renumbered (number_after found slot entry last)) is
        ∙ found_in _ _
        (agrees_from Numbers ks qs 0 (most_entries * slot) (best_in len last top) (best_in len found top) (λ k h. inr (omega (arith, l, h), omega arith)) held_agrees) number

-- ---- The number that is found, if a row is held

no_best : {i : ℕ} {row : List ℕ} → best i row ≡ no_entry → ⊥
no_best e = let z : ◌≡◌ {A = ℕ} 0 1 = cc in omega arith

-- once there is a best one there is one
stays : (ks : List (List Part)) (qs : List Position) (i : ℕ) (b : Best) → best_from ks qs i b ≡ no_entry → b ≡ no_entry
unfolding best_from better
stays [] qs i b e = e
stays (k ∷ ks) qs i b e = at (rank_of k qs) b (stays ks qs (suc i) (better i (rank_of k qs) b) e)
  where
    at : (o : Option (List ℕ)) (b : Best) → better i o b ≡ no_entry → b ≡ no_entry
    at none b e = e
    at (some r) no_entry e = refl
    at (some r) (best j s) e = by (lower r s) e
      where
        by : (w : Bool) → (if w then best j s else best i r) ≡ no_entry → best j s ≡ no_entry
        by true e = e
        by false e = absurd (no_best e)

none_best : (ks : List (List Part)) (qs : List Position) (i : ℕ) (row : List ℕ) → best_from ks qs 0 no_entry ≡ best i row → i < length ks
unfolding best_of
none_best ks qs i row e = let w = best_beats ks qs i row e in w.inside

pub few : {m n : ℕ} → m ≤ n → (o : std.Option ℕ) → IfSome o (λ i. i < m) → IfSome o (λ i. i < n)
few h None k = k
few h (Some i) k = omega arith

-- a row is held where an entry is found, and its marks are its own
pub record Kept (len : ℕ) (found : std.Option ℕ) (held : Marks) : Type 0 where
  pub row : Held len held
  pub live : is_some found ≡ is_live held

module _ (len slot last : ℕ) (found : std.Option ℕ) (top : Marks) (same : is_some found ≡ is_live top) (r : Marks) (ks : List (List Part)) (qs : List Position) (l : length ks ≡ last) where
  abbrev all : Best
  all = best_from ks qs 0 (best_in len last top)

  live_some : (e : ℕ) → best_in len e r ≡ all → e ≡ number_or last all → e < last → is_live r ≡ true
  unfolding best_in number_or
  live_some e is n h = at (is_live r) refl is
    where
      at : (b : Bool) → is_live r ≡ b → (if b then best e (marks_in len r) else no_entry) ≡ all → is_live r ≡ true
      at true k z = k
      at false k z = absurd (let y : e ≡ last = n ∙ ap (number_or last) (sym z) in omega arith)

  live_none : best_in len last r ≡ all → is_live top ≡ is_live r
  unfolding best_in
  live_none is = at (is_live top) (is_live r) refl is
    where
      at : (b d : Bool) → is_live top ≡ b → (if d then best last (marks_in len r) else no_entry) ≡ best_from ks qs 0 (if b then best last (marks_in len top) else no_entry) → b ≡ d
      at true true k z = refl
      at false false k z = refl
      at true false k z = absurd (no_best (stays ks qs 0 _ (sym z)))
      at false true k z = absurd (omega (arith, none_best ks qs last (marks_in len r) (sym z), l))

  -- what the search through the slot finds, under the board's number
  pub found_on : (entry : std.Option ℕ) → IfSome entry (λ i. i < last) → best_in len (found_or last entry) r ≡ all → found_or last entry ≡ number_or last all
      → (best_in len (found_or 0 (found_after found slot entry)) r ≡ best_from ks qs (most_entries * slot) (best_in len (found_or 0 found) top))
      × (is_some (found_after found slot entry) ≡ is_live r)
  unfolding number_after
  found_on (Some e) h is n =
      (rw (lt-ltb e last h) at (number_on len slot last (found_or 0 found) top e r ks qs l is n), sym (live_some e is n h))
  found_on None h is n =
      (rw (le-ltb last last (omega arith)) at (number_on len slot last (found_or 0 found) top last r ks qs l is n), same ∙ live_none is)
