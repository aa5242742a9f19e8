-- For each part of a key the best row that reaches it, over one position after another. Assumes nothing.
use mathlib.Core.List.{List, [], ◌∷◌, ◌++◌, append-nil}
use mathlib.Core.Option.{Option, some, none}
use mathlib.Core.Path.{◌≡◌, refl, sym, ap, ◌∙◌}
use Prim.Native.Nat.{ℕ, zero, suc, ◌≤◌, ◌<◌}
use native.Mathlib.Omega.{arith}
use lib.ListN.{length, get_or, drop, length-drop, drop_of_length-le}
use lib.Seq.{drop-cons, append_snoc}
use Rattle.definition.specs.Lists.{or_else}
use Rattle.definition.specs.Text.{Binding, tight, loose, Part}
use Rattle.definition.specs.Query.{Position}
use Rattle.definition.specs.Matching.{mark_at}
use Rattle.definition.specs.Ranking.{meet_row, skip_row, rank_of}
use Rattle.key.specs.Keys.{no_part}
use Rattle.marks.proofs.Rows.{skip_of, extended}
use Rattle.laws.proofs.Ranks.{rank_short, rank_past}

-- ---- Rows and what follows them

unfoldable pub joined : Option (List ℕ) → Option (List ℕ) → Option (List ℕ)
joined none s = none
joined (some r) none = none
joined (some r) (some s) = some (r ++ s)

or_none : {A : Type 0} (o : Option A) → or_else o none ≡ o
unfolding or_else
or_none none = refl
or_none (some a) = refl

or_assoc : {A : Type 0} (a b c : Option A) → or_else (or_else a b) c ≡ or_else a (or_else b c)
unfolding or_else
or_assoc none b c = refl
or_assoc (some a) b c = refl

joined_none : (r : Option (List ℕ)) → joined r none ≡ none
unfolding joined
joined_none none = refl
joined_none (some r) = refl

joined_right : (r a b : Option (List ℕ)) → joined r (or_else a b) ≡ or_else (joined r a) (joined r b)
unfolding joined or_else
joined_right none a b = refl
joined_right (some r) none b = refl
joined_right (some r) (some a) b = refl

joined_left : (r s t : Option (List ℕ)) → joined (or_else r s) t ≡ or_else (joined r t) (joined s t)
unfolding joined or_else
joined_left none s t = refl
joined_left (some r) s none = sym (joined_none s)
joined_left (some r) s (some t) = refl

joined_meet : (r : Option (List ℕ)) (m : Option ℕ) (s : Option (List ℕ)) → joined r (meet_row m s) ≡ joined (extended r m) s
unfolding joined meet_row extended
joined_meet none m s = refl
joined_meet (some r) none s = refl
joined_meet (some r) (some m) none = refl
joined_meet (some r) (some m) (some s) = ap some (sym (append_snoc r m s))

joined_skip : (r : Option (List ℕ)) (b : Binding) (s : Option (List ℕ)) → joined r (skip_row b s) ≡ joined (extended r (skip_of b)) s
unfolding joined skip_row extended skip_of
joined_skip none b s = refl
joined_skip (some r) tight s = refl
joined_skip (some r) loose none = refl
joined_skip (some r) loose (some s) = ap some (sym (append_snoc r 0 s))

joined_end : (r : Option (List ℕ)) → joined r (some []) ≡ r
unfolding joined
joined_end none = refl
joined_end (some r) = ap some (append-nil r)

joined_first : (s : Option (List ℕ)) → joined (some []) s ≡ s
unfolding joined
joined_first none = refl
joined_first (some s) = refl

-- ---- The last part at the last position

rank_one : (p : Part) (q : Position) → rank_of (p ∷ []) (q ∷ []) ≡ meet_row (mark_at p q) (some [])
unfolding rank_of skip_row
rank_one p q = at p.binding ∙ or_none (meet_row (mark_at p q) (some []))
  where
    at : (b : Binding) → or_else (meet_row (mark_at p q) (some [])) (skip_row b none) ≡ or_else (meet_row (mark_at p q) (some [])) none
    at tight = refl
    at loose = refl

joined_one : (r : Option (List ℕ)) (m : Option ℕ) → joined r (meet_row m (some [])) ≡ extended r m
joined_one r m = joined_meet r m (some []) ∙ joined_end (extended r m)

-- ---- The last of n that there is

unfoldable pub latest : ℕ → (ℕ → Option (List ℕ)) → Option (List ℕ)
latest zero f = none
latest (suc n) f = or_else (f n) (latest n f)

latest_none : (n : ℕ) (f : ℕ → Option (List ℕ)) → ((j : ℕ) → j < n → f j ≡ none) → latest n f ≡ none
unfolding latest or_else
latest_none zero f h = refl
latest_none (suc n) f h = rw (h n (omega arith)) (latest_none n f (λ j k. h j (omega arith)))

latest_last : (n : ℕ) (f : ℕ → Option (List ℕ)) → ((j : ℕ) → j < n → f j ≡ none) → latest (suc n) f ≡ f n
unfolding latest
latest_last n f h = rw (latest_none n f h) (or_none (f n))

latest_first : (n : ℕ) (f : ℕ → Option (List ℕ)) → ((j : ℕ) → 0 < j → f j ≡ none) → latest (suc n) f ≡ f 0
unfolding latest or_else
latest_first zero f h = or_none (f 0)
latest_first (suc n) f h = rw (h (suc n) (omega arith)) (latest_first n f h)

-- each of f is a match, m, and after it a skip, s; g has each skip before the match of the part before it
latest_turned : (f g m s : ℕ → Option (List ℕ)) (n : ℕ) → ((j : ℕ) → j ≤ n → f j ≡ or_else (m j) (s j)) → g 0 ≡ s 0
    → ((j : ℕ) → j < n → g (suc j) ≡ or_else (s (suc j)) (m j)) → latest (suc n) f ≡ or_else (m n) (latest (suc n) g)
unfolding latest
latest_turned f g m s zero h e k = rw (h 0 (omega arith), e) (or_assoc (m 0) (s 0) none)
latest_turned f g m s (suc n) h e k =
    rw (h (suc n) (omega arith), latest_turned f g m s n (λ j l. h j (omega arith)) e (λ j l. k j (omega arith)), k n (omega arith))
    (or_assoc (m (suc n)) (s (suc n)) (or_else (m n) (latest (suc n) g)) ∙ ap (or_else (m (suc n))) (sym (or_assoc (s (suc n)) (m n) (latest (suc n) g))))

-- ---- The key's highest row, from what reaches each part

module _ (ks : List Part) where
  abbrev pub part : ℕ → Part
  part j = get_or ks j no_part

  -- what the rows lead to, the last part's first
  unfoldable pub reached : ℕ → (ℕ → Option (List ℕ)) → List Position → Option (List ℕ)
  reached top rows qs = latest (suc top) (λ j. joined (rows j) (rank_of (drop j ks) qs))

  rank_at : (j : ℕ) (q : Position) (qs : List Position) → j < length ks
      → rank_of (drop j ks) (q ∷ qs) ≡ or_else (meet_row (mark_at (part j) q) (rank_of (drop (suc j) ks) qs)) (skip_row (part j).binding (rank_of (drop j ks) qs))
  unfolding rank_of
  rank_at j q qs h = rw (drop-cons ks j no_part h) refl

  pub reached_first : (top : ℕ) (rows : ℕ → Option (List ℕ)) (qs : List Position) → rows 0 ≡ some [] → ((j : ℕ) → 0 < j → rows j ≡ none)
      → reached top rows qs ≡ rank_of ks qs
  unfolding reached joined
  reached_first top rows qs e h =
      latest_first top (λ j. joined (rows j) (rank_of (drop j ks) qs)) (λ j k. rw (h j k) refl)
      ∙ rw e (joined_first (rank_of ks qs))

  pub reached_turned : (top : ℕ) (rows next : ℕ → Option (List ℕ)) (q : Position) (qs : List Position) → suc top ≡ length ks → 0 < length qs
      → next 0 ≡ extended (rows 0) (skip_of (part 0).binding)
      → ((j : ℕ) → j < top → next (suc j) ≡ or_else (extended (rows (suc j)) (skip_of (part (suc j)).binding)) (extended (rows j) (mark_at (part j) q)))
      → reached top rows (q ∷ qs) ≡ reached top next qs
  unfolding reached
  reached_turned top rows next q qs z l e h =
      latest_turned f g m s top fs gs0 gss ∙ rw (m_last) (unfold or_else in refl)
    where
      f : ℕ → Option (List ℕ)
      f j = joined (rows j) (rank_of (drop j ks) (q ∷ qs))

      g : ℕ → Option (List ℕ)
      g j = joined (next j) (rank_of (drop j ks) qs)

      m : ℕ → Option (List ℕ)
      m j = joined (extended (rows j) (mark_at (part j) q)) (rank_of (drop (suc j) ks) qs)

      s : ℕ → Option (List ℕ)
      s j = joined (extended (rows j) (skip_of (part j).binding)) (rank_of (drop j ks) qs)

      fs : (j : ℕ) → j ≤ top → f j ≡ or_else (m j) (s j)
      fs j k =
          rw (rank_at j q qs (omega arith), joined_right (rows j), joined_meet (rows j), joined_skip (rows j)) refl

      gs0 : g 0 ≡ s 0
      gs0 = rw e refl

      gss : (j : ℕ) → j < top → g (suc j) ≡ or_else (s (suc j)) (m j)
      gss j k = rw (h j k) (joined_left _ _ _)

      m_last : m top ≡ none
      m_last = rw (drop_of_length-le ks {i = suc top} (omega arith), rank_past qs l) (joined_none _)

  -- one position is left: only the last part leads to an alignment
  pub reached_last : (top : ℕ) (rows : ℕ → Option (List ℕ)) (q : Position) → suc top ≡ length ks
      → reached top rows (q ∷ []) ≡ extended (rows top) (mark_at (part top) q)
  unfolding reached
  reached_last top rows q z =
      let last : drop top ks ≡ part top ∷ [] =
      drop-cons ks top no_part (omega arith) ∙ ap (λ (l : List Part). part top ∷ l) (drop_of_length-le ks {i = suc top} (omega arith)) in
      latest_last top (λ j. joined (rows j) (rank_of (drop j ks) (q ∷ []))) few ∙ rw (last, rank_one) (joined_one (rows top) (mark_at (part top) q))
    where
      few : (j : ℕ) → j < top → joined (rows j) (rank_of (drop j ks) (q ∷ [])) ≡ none
      few j h = rw (rank_short (drop j ks) (q ∷ []) (omega (arith, length-drop j ks))) (joined_none (rows j))
