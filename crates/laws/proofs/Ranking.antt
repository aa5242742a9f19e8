-- Ranking computes what Matching says, exactly one entry beats the rest if any aligns, and it goes on to beat them when others are left
-- out. Assumes nothing.
use Rattle.std.specs.Prelude.{if◌then◌else◌}
use mathlib.Core.Bool.{Bool, true, false}
use mathlib.Core.List.{List, [], ◌∷◌, map}
use mathlib.Core.Option
use mathlib.Core.Option.{Option, some, none, some-ne-none}
use mathlib.Core.Path.{◌≡◌, refl, sym, ap, ◌∙◌}
use Prim.Native.Nat.{ℕ, zero, suc, ◌+◌, ◌<◌}
use native.Mathlib.Omega.{arith}
use lib.ListN.{length, get_or, drop, length-map}
use lib.Seq.{drop-cons, drop-length}
use Rattle.definition.specs.Lists.{filter, or_else, lower}
use Rattle.definition.specs.Text.{Binding, tight, loose, Part}
use Rattle.definition.specs.Query.{Position}
use Rattle.definition.specs.Matching.{
  Match,
  byWildcard,
  byClass,
  byInstance,
  match_at,
  skip_mark,
  mark_of,
  mark_at,
  Aligned,
  end,
  skip,
  meet,
  Ranks,
  Beats,
  OneBeats,
}
use Rattle.definition.specs.Ranking.{meet_row, skip_row, rank_of, Best, no_entry, best, better, best_from, best_of}
use Rattle.laws.proofs.Lists.{
  not_both,
  Order,
  below,
  equal,
  above,
  order,
  lower_above,
  lower_equal,
  lower_asym,
  not_lower_trans,
  not_lower_equal,
  Places,
  places,
  get_d_map,
}

-- ---- A key's highest row

mark_above : (m : Match) (b : Binding) → skip_mark < mark_of m b
unfolding mark_of
mark_above byWildcard loose = omega arith
mark_above byWildcard tight = omega arith
mark_above byClass loose = omega arith
mark_above byClass tight = omega arith
mark_above byInstance loose = omega arith
mark_above byInstance tight = omega arith

pub mark_positive : (p : Part) (q : Position) (m : ℕ) → mark_at p q ≡ some m → skip_mark < m
unfolding mark_at
mark_positive p q m e = at (match_at p.component q) e
  where
    at : (o : Option Match) → Option.map (λ m. mark_of m p.binding) o ≡ some m → skip_mark < m
    at none f = absurd (some-ne-none _ (sym f))
    at (some k) f =
        let g : mark_of k p.binding ≡ m = cc in
        rw g at (mark_above k p.binding)

abbrev pub IsRank : List Part → List Position → Option (List ℕ) → Type 0
IsRank key qs none = (row : List ℕ) → Aligned key qs row → ⊥
IsRank key qs (some row) = Ranks key qs row

-- at a position: a match that leads to an alignment, else a skip
module _ (p : Part) (ps : List Part) (q : Position) (qs : List Position) where
  abbrev Unmet : Type 0
  Unmet = (m : ℕ) (row : List ℕ) → mark_at p q ≡ some m → Aligned ps qs row → ⊥

  neither : Unmet → ((row : List ℕ) → p.binding ≡ loose → Aligned (p ∷ ps) qs row → ⊥)
      → {row : List ℕ} → Aligned (p ∷ ps) (q ∷ qs) row → ⊥
  neither u f (skip h a) = f _ h a
  neither u f (meet h a) = u _ _ h a

  above_skip : {m : ℕ} {r row : List ℕ} → mark_at p q ≡ some m → Ranks ps qs r → Aligned (p ∷ ps) (q ∷ qs) row → lower (m ∷ r) row ≡ false
  above_skip {m} {r} e k (skip {row = s} h a) = lower_above m skip_mark r s (mark_positive p q m e)
  above_skip {m} {r} e k (meet {mark = n} {row = s} h a) = let z : m ≡ n = cc in lower_equal m n r s z ∙ k.highest s a

  only_skip : {r row : List ℕ} → Unmet → Ranks (p ∷ ps) qs r → Aligned (p ∷ ps) (q ∷ qs) row → lower (skip_mark ∷ r) row ≡ false
  only_skip {r} u k (skip {row = s} h a) = lower_equal skip_mark skip_mark r s refl ∙ k.highest s a
  only_skip u k (meet h a) = absurd (u _ _ h a)

  skipped_is : Unmet → (b : Binding) → p.binding ≡ b → (s : Option (List ℕ)) → IsRank (p ∷ ps) qs s → IsRank (p ∷ ps) (q ∷ qs) (skip_row b s)
  unfolding skip_row
  skipped_is u tight e s k = λ row. neither u (λ _ h a. let z : ◌≡◌ {A = ℕ} 0 1 = cc in omega arith)
  skipped_is u loose e none k = λ row. neither u (λ r h a. k r a)
  skipped_is u loose e (some r) k = record { aligned = skip e k.aligned; highest = λ row. only_skip u k }

  position_is : (m : Option ℕ) → mark_at p q ≡ m → (r : Option (List ℕ)) → IsRank ps qs r → (s : Option (List ℕ)) → IsRank (p ∷ ps) qs s
      → IsRank (p ∷ ps) (q ∷ qs) (or_else (meet_row m r) (skip_row p.binding s))
  unfolding or_else meet_row
  position_is none e r j s k = skipped_is (λ m row f a. some-ne-none m (sym f ∙ e)) p.binding refl s k
  position_is (some m) e none j s k = skipped_is (λ m row f a. j row a) p.binding refl s k
  position_is (some m) e (some r) j s k = record { aligned = meet e j.aligned; highest = λ row. above_skip e j }

only_end : {row : List ℕ} → Aligned [] [] row → lower [] row ≡ false
unfolding lower
only_end end = refl

pub rank_is : (key : List Part) (qs : List Position) → IsRank key qs (rank_of key qs)
unfolding rank_of
rank_is [] [] = record { aligned = end; highest = λ row. only_end }
rank_is [] (q ∷ qs) = λ row a. elim a [ ]
rank_is (p ∷ ps) [] = λ row a. elim a [ ]
rank_is (p ∷ ps) (q ∷ qs) = position_is p ps q qs (mark_at p q) refl (rank_of ps qs) (rank_is ps qs) (rank_of (p ∷ ps) qs) (rank_is (p ∷ ps) qs)

pub ranks_same : {key : List Part} {qs : List Position} {r s : List ℕ} → Ranks key qs r → Ranks key qs s → r ≡ s
ranks_same {r} {s} j k = not_lower_equal r s (j.highest s k.aligned) (k.highest r j.aligned)

-- ---- Who beats the rest

-- what holds below n, and of n
at_last : (P : ℕ → Type 0) {n j : ℕ} → j < suc n → (j < n → P j) → P n → P j
at_last P {n} {j} h f g = at (order j n)
  where
    at : Order j n → P j
    at (below k) = f k
    at (equal k) = rw k g
    at (above k) = absurd (omega arith)

module _ (keys : List (List Part)) (qs : List Position) where
  pub beats_one : (i j : ℕ) → Beats keys qs i → Beats keys qs j → i ≡ j
  beats_one i j a b = at (order i j)
    where
      at : Order i j → i ≡ j
      at (below h) = absurd (not_both (a.after j b.row h b.inside b.ranks) (b.before i a.row h a.ranks))
      at (equal h) = h
      at (above h) = absurd (not_both (b.after i a.row h a.inside a.ranks) (a.before j b.row h b.ranks))

  -- entry i beats the rest of the first n
  record Leads (n i : ℕ) (row : List ℕ) : Type 0 where
    inside : i < n
    ranks : Ranks (get_or keys i []) qs row
    before : (j : ℕ) (other : List ℕ) → j < i → Ranks (get_or keys j []) qs other → lower row other ≡ false
    after : (j : ℕ) (other : List ℕ) → i < j → j < n → Ranks (get_or keys j []) qs other → lower other row ≡ true

  -- b is right about the first n
  abbrev IsBest : ℕ → Best → Type 0
  IsBest n no_entry = (j : ℕ) (row : List ℕ) → j < n → Aligned (get_or keys j []) qs row → ⊥
  IsBest n (best i row) = Leads n i row

  -- it ranks no lower than any of the first n
  leads_all : {n i : ℕ} {row : List ℕ} → Leads n i row → (j : ℕ) (other : List ℕ) → j < n → Ranks (get_or keys j []) qs other → lower row other ≡ false
  leads_all {n} {i} {row} l j other h k = at (order j i)
    where
      at : Order j i → lower row other ≡ false
      at (below z) = l.before j other z k
      at (equal z) = l.ranks.highest other (rw z at k.aligned)
      at (above z) = lower_asym other row (l.after j other z h k)

  -- entry n ranks lower, if it aligns
  stays : {n i : ℕ} {row : List ℕ} → Leads n i row → ((other : List ℕ) → Ranks (get_or keys n []) qs other → lower other row ≡ true)
      → Leads (suc n) i row
  stays {row} l f = record {
    inside = omega (arith, l.inside);
    ranks = l.ranks;
    before = l.before;
    after = λ j other z h. at_last (λ j. Ranks (get_or keys j []) qs other → lower other row ≡ true) h (l.after j other z) (f other);
  }

  -- entry n ranks no lower than any before it
  follows : {n : ℕ} {row : List ℕ} → Ranks (get_or keys n []) qs row
      → ((j : ℕ) (other : List ℕ) → j < n → Ranks (get_or keys j []) qs other → lower row other ≡ false) → Leads (suc n) n row
  follows k f = record { inside = omega arith; ranks = k; before = f; after = λ j other z h g. absurd (omega arith) }

  better_is : (n : ℕ) (b : Best) → IsBest n b → (r : Option (List ℕ)) → IsRank (get_or keys n []) qs r → IsBest (suc n) (better n r b)
  unfolding better
  better_is n no_entry l none k = λ j row h. at_last (λ j. Aligned (get_or keys j []) qs row → ⊥) h (l j row) (k row)
  better_is n (best i s) l none k = stays l (λ other f. absurd (k other f.aligned))
  better_is n no_entry l (some r) k = follows k (λ j other h f. absurd (l j other h f.aligned))
  better_is n (best i s) l (some r) k = at (lower r s) refl
    where
      at : (c : Bool) → lower r s ≡ c → IsBest (suc n) (if c then best i s else best n r)
      at true e = stays l (λ other f. rw (ranks_same f k) e)
      at false e = follows k (λ j other h f. not_lower_trans r s other e (leads_all l j other h f))

  best_from_lem : (m n : ℕ) → n + m ≡ length keys → (b : Best) → IsBest n b → IsBest (length keys) (best_from (drop n keys) qs n b)
  unfolding best_from
  best_from_lem zero n e b l = let z : n ≡ length keys = omega arith in rw (z, drop-length) (rw z at l)
  best_from_lem (suc m) n e b l =
      let h : n < length keys = omega arith in
      let key = get_or keys n [] in
      rw (drop-cons keys n [] h) (best_from_lem m (suc n) (omega arith) (better n (rank_of key qs) b) (better_is n b l (rank_of key qs) (rank_is key qs)))

  best_is : IsBest (length keys) (best_of keys qs)
  unfolding best_of
  best_is = best_from_lem (length keys) 0 (omega arith) no_entry (λ j row h a. omega arith)

  pub best_beats : (i : ℕ) (row : List ℕ) → best_of keys qs ≡ best i row → Beats keys qs i
  best_beats i row e =
      let l : Leads (length keys) i row = rw e at best_is in
      record { inside = l.inside; row = row; ranks = l.ranks; before = l.before; after = l.after }

  pub best_none : best_of keys qs ≡ no_entry → (j : ℕ) (row : List ℕ) → j < length keys → Aligned (get_or keys j []) qs row → ⊥
  best_none e = rw e at best_is

  pub one_beats : OneBeats keys qs
  one_beats = record {
    if_any = λ j row h a. at j row h a (best_of keys qs) refl;
    else_none = λ f i b. f i b.row b.inside b.ranks.aligned;
  }
    where
      at : (j : ℕ) (row : List ℕ) → j < length keys → Aligned (get_or keys j []) qs row → (b : Best) → best_of keys qs ≡ b
          → (i : ℕ) × Beats keys qs i × ((k : ℕ) → Beats keys qs k → k ≡ i)
      at j row h a no_entry e = absurd (best_none e j row h a)
      at j row h a (best i r) e = let w = best_beats i r e in (i, w, λ k b. beats_one k i b w)

  pub beats_best : (i : ℕ) → Beats keys qs i → (row : List ℕ) × (best_of keys qs ≡ best i row)
  beats_best i b = at (best_of keys qs) refl
    where
      at : (c : Best) → best_of keys qs ≡ c → (row : List ℕ) × (best_of keys qs ≡ best i row)
      at no_entry e = absurd (best_none e i b.row b.inside b.ranks.aligned)
      at (best k r) e = (r, rw (beats_one i k b (best_beats k r e)) e)

-- ---- Entries left out

module _ {A : Type 0} (key : A → List Part) (keep : A → Bool) (d : A) (xs : List A) (qs : List Position) where
  abbrev keys : List (List Part)
  keys = map key xs

  abbrev kept : List (List Part)
  kept = map key (filter keep xs)

  -- where those kept stand among all
  abbrev there : Places keep d (filter keep xs) xs
  there = places keep d xs

  place_inside : (k : ℕ) → k < length kept → there.place k < length keys
  place_inside k h = rw length-map (there.inside k (rw length-map at h))

  place_key : (k : ℕ) → k < length kept → get_or kept k [] ≡ get_or keys (there.place k) []
  place_key k h =
      let z : k < length (filter keep xs) = rw length-map at h in
      get_d_map key (filter keep xs) k d [] z ∙ ap key (there.element k) ∙ sym (get_d_map key xs (there.place k) d [] (there.inside k z))

  beats_there : (k : ℕ) → k < length kept → Beats keys qs (there.place k) → Beats kept qs k
  beats_there k h b = record {
    inside = h;
    row = b.row;
    ranks = rw (place_key k h) b.ranks;
    before = λ j other z f. b.before (there.place j) other (there.rises j k z) (rw (place_key j (omega arith)) at f);
    after = λ j other z g f. b.after (there.place j) other (there.rises k j z) (place_inside j g) (rw (place_key j g) at f);
  }

  pub beats_kept : (i : ℕ) → Beats keys qs i → keep (get_or xs i d) ≡ true
      → (k : ℕ) × Beats kept qs k × (get_or (filter keep xs) k d ≡ get_or xs i d)
  beats_kept i b e =
      let r = there.back i (rw length-map at b.inside) e in
      let h : r.0 < length kept = rw length-map r.1 in
      (r.0, beats_there r.0 h (rw r.2 b), there.element r.0 ∙ ap (λ (n : ℕ). get_or xs n d) r.2)

  pub none_kept : ((j : ℕ) (row : List ℕ) → j < length keys → Aligned (get_or keys j []) qs row → ⊥)
      → (j : ℕ) (row : List ℕ) → j < length kept → Aligned (get_or kept j []) qs row → ⊥
  none_kept f j row h a = f (there.place j) row (place_inside j h) (rw (place_key j h) at a)
