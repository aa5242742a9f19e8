-- The striking_off rule, of any list of entries and of those that came through something. Assumes nothing.
use mathlib.Core.Bool.{Bool, true, false, not}
use mathlib.Core.List.{List, [], ◌∷◌, map}
use mathlib.Core.Logic.{◌↔◌, ◌⊎◌, inl, inr}
use mathlib.Core.Option.{some, none}
use mathlib.Core.Path.{◌≡◌, refl, sym, ap, ◌∙◌}
use Prim.Native.Nat.{ℕ, suc, ◌<◌}
use native.Mathlib.Omega.{arith}
use lib.ListN.{length, get_or}
use Rattle.definition.specs.Text.{Part, Entry}
use Rattle.definition.specs.Query.{Position, Query, positions, malformed, past_limit}
use Rattle.definition.specs.Matching.{Aligned, Beats}
use Rattle.definition.specs.Ranking.{Best, no_entry, best, best_of}
use Rattle.definition.specs.Lookup.{keys_of, value_of, answer_of}
use Rattle.definition.specs.ThirdTerm.{Through, entries, left_out, numbered, NoneThroughBeats, SameBytesWithout, EqualJustWhen, StrikingOff}
use Rattle.laws.proofs.Lists.{not_both, get_d_map}
use Rattle.laws.proofs.Ranking.{best_beats, best_none, beats_one, beats_best, beats_kept, none_kept}

-- ---- The answer is the value of the entry that beats the rest

abbrev blank : Entry
blank = record { parts = []; value = [] }

some_none : {A : Type 0} {a : A} → some a ≡ none → ⊥
some_none e = let z : ◌≡◌ {A = ℕ} 0 1 = cc in omega arith

pub answer_beats : (es : List Entry) (qs : List Position) (i : ℕ) → Beats (keys_of es) qs i → answer_of es (positions qs) ≡ some (get_or es i blank).value
unfolding answer_of value_of
answer_beats es qs i b = rw (beats_best (keys_of es) qs i b).1 refl

pub answer_none : (es : List Entry) (qs : List Position)
    → ((j : ℕ) (row : List ℕ) → j < length (keys_of es) → Aligned (get_or (keys_of es) j []) qs row → ⊥) → answer_of es (positions qs) ≡ none
unfolding answer_of value_of
answer_none es qs none-aligns = at (best_of (keys_of es) qs) refl
  where
    at : (b : Best) → best_of (keys_of es) qs ≡ b → value_of es b ≡ none
    at no_entry e = refl
    at (best i row) e =
        let w = best_beats (keys_of es) qs i row e in
        absurd (none-aligns i w.row w.inside w.ranks.aligned)

-- ---- When the two answers are equal

module _ {A : Type 0} (t : Through A) where
  abbrev key : A → List Part
  key x = (t.entry x).parts

  abbrev keep : A → Bool
  keep x = not (t.came x)

  keys_in : (xs : List A) → keys_of (entries t xs) ≡ map key xs
  keys_in [] = refl
  keys_in (x ∷ xs) = ap (λ (l : List (List Part)). key x ∷ l) (keys_in xs)

  pub length_keys : (xs : List A) → length (keys_of (entries t xs)) ≡ length xs
  length_keys [] = refl
  length_keys (x ∷ xs) = ap suc (length_keys xs)

module _ {A : Type 0} (t : Through A) (xs : List A) (qs : List Position) where
  abbrev ys : List A
  ys = left_out t xs

  abbrev Equal : Type 0
  Equal = answer_of (entries t xs) (positions qs) ≡ answer_of (entries t ys) (positions qs)

  abbrev Just : Type 0
  Just = NoneThroughBeats t xs (positions qs) ⊎ SameBytesWithout t xs (positions qs)

  answered : (zs : List A) (i : ℕ) → Beats (keys_of (entries t zs)) qs i → answer_of (entries t zs) (positions qs) ≡ some (t.entry (numbered t zs i)).value
  answered zs i b =
      let h : i < length zs = omega (arith, b.inside, length_keys t zs) in
      answer_beats (entries t zs) qs i b ∙ ap (λ (e : Entry). some e.value) (get_d_map t.entry zs i t.absent blank h)

  -- nothing aligns
  when_none : best_of (keys_of (entries t xs)) qs ≡ no_entry → Equal ↔ Just
  when_none e =
      let nothing-aligns = best_none (keys_of (entries t xs)) qs e in
      let kept = none_kept (key t) (keep t) t.absent xs qs (rw (← keys_in t xs) nothing-aligns) in (
        λ _. inl (λ i b. absurd (nothing-aligns i b.row b.inside b.ranks.aligned)),
        λ _. answer_none (entries t xs) qs nothing-aligns ∙ sym (answer_none (entries t ys) qs (rw (keys_in t ys) kept)),
      )

  module _ (i : ℕ) (b : Beats (keys_of (entries t xs)) qs i) where
    -- an entry that did not come through it beats the rest in both lists
    when_apart : t.came (numbered t xs i) ≡ false → Equal ↔ Just
    when_apart h =
        let k = beats_kept (key t) (keep t) t.absent xs qs i (rw (← keys_in t xs) b) (rw h refl) in (
          λ _. inl (λ j w. ap (λ (n : ℕ). t.came (numbered t xs n)) (beats_one (keys_of (entries t xs)) qs j i w b) ∙ h),
          λ _. answered xs i b ∙ ap (λ (x : A). some (t.entry x).value) (sym k.2) ∙ sym (answered ys k.0 (rw (keys_in t ys) k.1)),
        )

    when_through : t.came (numbered t xs i) ≡ true → Equal ↔ Just
    when_through h = (to, from)
      where
        found : (r : Best) → best_of (keys_of (entries t ys)) qs ≡ r → Equal → Just
        found no_entry e q =
            absurd (some_none (sym (answered xs i b) ∙ q ∙ answer_none (entries t ys) qs (best_none (keys_of (entries t ys)) qs e)))
        found (best k row) e q =
            let w = best_beats (keys_of (entries t ys)) qs k row e in
            let s : some (t.entry (numbered t xs i)).value ≡ some (t.entry (numbered t ys k)).value = sym (answered xs i b) ∙ q ∙ answered ys k w in
            inr (record { winner = i; beats = b; through = h; other = k; beats_left = w; same_bytes = cc })

        to : Equal → Just
        to q = found (best_of (keys_of (entries t ys)) qs) refl q

        from : Just → Equal
        from (inl f) = absurd (not_both h (f i b))
        from (inr s) =
            answered xs s.winner s.beats ∙ ap (λ (v : List ℕ). some v) s.same_bytes ∙ sym (answered ys s.other s.beats_left)

  equal_positions : EqualJustWhen t xs (positions qs)
  equal_positions = at (best_of (keys_of (entries t xs)) qs) refl
    where
      side : (i : ℕ) → Beats (keys_of (entries t xs)) qs i → (c : Bool) → t.came (numbered t xs i) ≡ c → Equal ↔ Just
      side i b true h = when_through i b h
      side i b false h = when_apart i b h

      at : (r : Best) → best_of (keys_of (entries t xs)) qs ≡ r → Equal ↔ Just
      at no_entry e = when_none e
      at (best i row) e = side i (best_beats (keys_of (entries t xs)) qs i row e) (t.came (numbered t xs i)) refl

pub striking_off : StrikingOff
unfolding answer_of
striking_off A t xs (positions qs) = equal_positions t xs qs
striking_off A t xs malformed = (λ _. inl (λ i b. absurd b), λ _. refl)
striking_off A t xs (past_limit k) = (λ _. inl (λ i b. absurd b), λ _. refl)
