-- The place of a name among the files of an archive, and the walk to it. Assumes nothing.
use Rattle.std.specs.Prelude.{Ok, Err, if◌then◌else◌}
use mathlib.Core.Bool.{Bool, true, false, not}
use mathlib.Core.List.{List, [], ◌∷◌, map}
use mathlib.Core.Path.{◌≡◌, refl, sym, ap, ◌∙◌}
use Prim.Native.Nat.{ℕ, suc, ◌+◌, ◌≤◌, ◌<◌}
use native.Mathlib.Omega.{arith}
use lib.ListN.{length, drop}
use Rattle.definition.specs.Lists.{all, any, lower}
use Rattle.definition.specs.Archive.{File, number_at, files_of, rising, laid_out}
use Rattle.laws.proofs.Lists.{and_true, and_both, eq_same, same_sym, lower_differ, not_lower_equal, all_map}
use Rattle.laws.proofs.Archive.{laid_out_says, rising_first, rising_rest}
use Rattle.archive.specs.declared.Member.{Member}
use Rattle.archive.specs.Walk.{lengths_at, name_start, member_at, file_in}
use Rattle.archive.proofs.Walk.{laid_fits, Walking, walking_first, walking_turn, walking_next, walking_end}
use Rattle.archive_slot.specs.declared.Slot.{Slot}
use Rattle.archive_slot.specs.Slots.{below, on_it, place_for, slot_for}

abbrev pub names : List File → List (List ℕ)
names fs = map (λ f. f.name) fs

-- ---- The place of a name among files that rise

-- no file has a name that stands below them all
above_off : (n : List ℕ) (fs : List File) → all (λ g. lower n g.name) fs ≡ true → on_it n fs ≡ false
unfolding on_it any all
above_off n [] h = refl
above_off n (f ∷ fs) h =
    let a = and_true (lower n f.name) (all (λ g. lower n g.name) fs) h in
    rw (same_sym n f.name (lower_differ n f.name a.0)) (above_off n fs a.1)

module _ (n : List ℕ) (f : File) (fs : List File) where
  below_passed : lower f.name n ≡ true → below n (f ∷ fs) ≡ suc (below n fs)
  unfolding below
  below_passed h = rw h refl

  pub on_passed : lower f.name n ≡ true → on_it n (f ∷ fs) ≡ on_it n fs
  unfolding on_it any
  on_passed h = rw (lower_differ f.name n h) refl

  below_here : lower f.name n ≡ false → below n (f ∷ fs) ≡ 0
  unfolding below
  below_here h = rw h refl

  pub on_same : f.name ≡ n → on_it n (f ∷ fs) ≡ true
  unfolding on_it any
  on_same e = rw (eq_same f.name n e) refl

  on_here : lower f.name n ≡ false → rising (names (f ∷ fs)) ≡ true → on_it n (f ∷ fs) ≡ not (lower n f.name)
  unfolding rising
  on_here h k = at (lower n f.name) refl
    where
      at : (b : Bool) → lower n f.name ≡ b → on_it n (f ∷ fs) ≡ not b
      at true e = above_off n (f ∷ fs) (rw (all_map (lower n) (λ g. g.name) (f ∷ fs)) at (rising_first n (names (f ∷ fs)) (and_both e k)))
      at false e = on_same (not_lower_equal f.name n h e)

pub below_most : (n : List ℕ) (fs : List File) → below n fs ≤ length fs
unfolding below
below_most n [] = omega arith
below_most n (f ∷ fs) = at (lower f.name n) (below_most n fs)
  where
    at : (b : Bool) → below n fs ≤ length fs → (if b then suc (below n fs) else 0) ≤ suc (length fs)
    at true ih = omega arith
    at false ih = omega arith

-- ---- The walk to it

pub record Seeking (s n : List ℕ) (count at j : ℕ) : Type 0 where
  pub walk : Walking s count at j
  pub rises : rising (names (drop j (files_of s))) ≡ true
  pub index : below n (files_of s) ≡ j + below n (drop j (files_of s))
  pub on : on_it n (files_of s) ≡ on_it n (drop j (files_of s))

pub seeking_first : (s n : List ℕ) (count : ℕ) → (count ≡ number_at s 0) × (count < 65536) → laid_out s ≡ true → Seeking s n count (lengths_at count) 0
seeking_first s n count ec h = record {
  walk = walking_first s count ec (laid_fits s h);
  rises = (laid_out_says s h).rises;
  index = omega arith;
  on = refl;
}

module _ {s n : List ℕ} {count at j : ℕ} (r : Seeking s n count at j) where
  place_is : below n (files_of s) ≡ j → record { index = j; at = at } ≡ place_for n s
  unfolding place_for
  place_is i =
      let p : at ≡ name_start (below n (files_of s)) s = r.walk.place ∙ ap (λ x. name_start x s) (sym i) in
      (λ k. record { index = sym i k; at = p k })

  slot_free : below n (files_of s) ≡ j → on_it n (files_of s) ≡ false → Err (record { index = j; at = at }) ≡ slot_for n s
  unfolding slot_for
  slot_free i t = rw t (ap Err (place_is i))

  pub seeking_done : count ≤ j → Err (record { index = count; at = at }) ≡ slot_for n s
  unfolding below on_it any
  seeking_done h =
      let e = walking_end r.walk h in
      let z : count ≡ j = omega (arith, r.walk.standing.j_most) in
      rw z (slot_free (omega (arith, r.index, ap (below n) e)) (r.on ∙ ap (on_it n) e))

  module _ (h : j < count) {m : Member} (e : m ≡ member_at s j at) where
    turn : drop j (files_of s) ≡ file_in s m ∷ drop (j + 1) (files_of s)
    turn = walking_turn r.walk h e

    pub seeking_next : lower (file_in s m).name n ≡ true → Seeking s n count m.end (j + 1)
    seeking_next low = record {
      walk = walking_next r.walk h e;
      rises = rising_rest (file_in s m).name (names (drop (j + 1) (files_of s))) (rw turn at r.rises);
      index = omega (arith, r.index, ap (below n) turn, below_passed n (file_in s m) (drop (j + 1) (files_of s)) low);
      on = r.on ∙ ap (on_it n) turn ∙ on_passed n (file_in s m) (drop (j + 1) (files_of s)) low;
    }

    module _ (low : lower (file_in s m).name n ≡ false) where
      on_turn : on_it n (files_of s) ≡ not (lower n (file_in s m).name)
      on_turn = r.on ∙ ap (on_it n) turn ∙ on_here n (file_in s m) (drop (j + 1) (files_of s)) low (rw turn at r.rises)

      index_here : below n (files_of s) ≡ j
      index_here = omega (arith, r.index, ap (below n) turn, below_here n (file_in s m) (drop (j + 1) (files_of s)) low)

      pub seeking_here : lower n (file_in s m).name ≡ true → Err (record { index = j; at = at }) ≡ slot_for n s
      seeking_here e = slot_free index_here (on_turn ∙ ap not e)

      pub seeking_taken : lower n (file_in s m).name ≡ false → Ok (record { index = j; at = at }) ≡ slot_for n s
      unfolding slot_for
      seeking_taken e = rw (on_turn ∙ ap not e) (ap Ok (place_is index_here))

-- ---- What a caller learns

module _ (n s : List ℕ) {slot : Slot} where
  pub slot_ok : Ok slot ≡ slot_for n s → (on_it n (files_of s) ≡ true) × (slot ≡ place_for n s)
  unfolding slot_for
  slot_ok e = at (on_it n (files_of s)) e
    where
      at : (b : Bool) → Ok slot ≡ (if b then Ok (place_for n s) else Err (place_for n s)) → (b ≡ true) × (slot ≡ place_for n s)
      at true h = (refl, cc)
      at false h = (cc, cc)

  pub slot_err : Err slot ≡ slot_for n s → (on_it n (files_of s) ≡ false) × (slot ≡ place_for n s)
  unfolding slot_for
  slot_err e = at (on_it n (files_of s)) e
    where
      at : (b : Bool) → Err slot ≡ (if b then Ok (place_for n s) else Err (place_for n s)) → (b ≡ false) × (slot ≡ place_for n s)
      at true h = (cc, cc)
      at false h = (refl, cc)
