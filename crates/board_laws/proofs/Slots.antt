-- The slots of a board, as a list: one more, and one that leaves. Assumes nothing.
use Rattle.std.specs.Prelude.{if◌then◌else◌}
use mathlib.Core.Bool.{Bool, true, false, ◌&&◌, ◌||◌, not}
use mathlib.Core.List.{List, [], ◌∷◌, ◌++◌, map}
use mathlib.Core.Path.{◌≡◌, refl, sym, ap, ◌∙◌}
use Prim.Native.Nat.{ℕ, zero, suc, ◌+◌, ◌≤◌, ◌<◌}
use native.Mathlib.Omega.{arith}
use lib.Dec.{eqb}
use lib.ListN.{length, take, drop}
use borrow.Author.Tests.{eqb-true, eq-eqb, ne_eqb, not-true}
use Rattle.definition.specs.Lists.{any, take_while, filter}
use Rattle.definition.specs.Image.{is_image}
use Rattle.definition.specs.Board.{Arrival, Pack, kept, has_number, each, are_slots}
use Rattle.laws.proofs.Lists.{Order, below, equal, above, order, not_both, eqb_sym, and_true, and_both, any_append}

-- is there one of that number?
abbrev pub has_slot : ℕ → List Arrival → Bool
has_slot n slots = any (λ a. eqb n a.number) slots

-- another number
abbrev pub is_other : ℕ → Arrival → Bool
is_other n a = not (eqb n a.number)

pub slot_present : (n : ℕ) (slots : List Arrival) → any (has_number n) (map kept slots) ≡ has_slot n slots
unfolding any
slot_present n [] = refl
slot_present n (a ∷ slots) = ap (λ (b : Bool). eqb n a.number || b) (slot_present n slots)

pub or_false : (a b : Bool) → (a || b) ≡ false → (a ≡ false) × (b ≡ false)
or_false true b e = absurd (not_both refl e)
or_false false b e = (refl, e)

-- ---- What slots are

pub record Slots (a : Arrival) (slots : List Arrival) : Type 0 where
  pub nonzero : eqb a.number 0 ≡ false
  pub alone : has_slot a.number slots ≡ false
  pub image : is_image a.contents a.bodies ≡ true
  pub others : are_slots slots ≡ true

pub slots_are : (a : Arrival) (slots : List Arrival) → are_slots (a ∷ slots) ≡ true → Slots a slots
unfolding are_slots
slots_are a slots h =
    let x = not (eqb a.number 0) in
    let y = not (has_slot a.number slots) in
    let z = is_image a.contents a.bodies in
    let p = and_true (x && y && z) (are_slots slots) h in
    let q = and_true (x && y) z p.0 in
    let r = and_true x y q.0 in
    record { nonzero = not-true (eqb a.number 0) r.0; alone = not-true (has_slot a.number slots) r.1; image = q.1; others = p.1 }

pub are_slots_lem : (a : Arrival) (slots : List Arrival) → Slots a slots → are_slots (a ∷ slots) ≡ true
unfolding are_slots
are_slots_lem a slots s =
    let x : not (eqb a.number 0) ≡ true = rw s.nonzero refl in
    let y : not (has_slot a.number slots) ≡ true = rw s.alone refl in
    and_both (and_both (and_both x y) s.image) s.others

-- ---- No two have one number

another : (f : ℕ → Arrival) (n i m : ℕ) → has_slot n (each f i m) ≡ false → (j : ℕ) → i ≤ j → j < i + m → eqb n (f j).number ≡ false
unfolding any each
another f n i zero h j a b = absurd (omega arith)
another f n i (suc m) h j a b =
    let o = or_false (eqb n (f i).number) (has_slot n (each f (suc i) m)) h in
    at (order i j) o.0 (λ z. another f n (suc i) m o.1 j z (omega arith))
  where
    at : Order i j → eqb n (f i).number ≡ false → (i < j → eqb n (f j).number ≡ false) → eqb n (f j).number ≡ false
    at (below z) here later = later z
    at (equal z) here later = rw (← z) here
    at (above z) here later = absurd (omega arith)

slots_apart : (f : ℕ → Arrival) (i m : ℕ) → are_slots (each f i m) ≡ true → (j k : ℕ) → i ≤ j → j < k → k < i + m → eqb (f j).number (f k).number ≡ false
unfolding each
slots_apart f i zero h j k a b c = absurd (omega arith)
slots_apart f i (suc m) h j k a b c =
    let s = slots_are (f i) (each f (suc i) m) h in
    at (order i j) (another f (f i).number (suc i) m s.alone k (omega arith) (omega arith)) (λ z. slots_apart f (suc i) m s.others j k z b (omega arith))
  where
    at : Order i j → eqb (f i).number (f k).number ≡ false → (i < j → eqb (f j).number (f k).number ≡ false) → eqb (f j).number (f k).number ≡ false
    at (below z) here later = later z
    at (equal z) here later = rw (← z) here
    at (above z) here later = absurd (omega arith)

-- the number of slot i is that of slot k just if they are one
pub own_number : (f : ℕ → Arrival) (m : ℕ) → are_slots (each f 0 m) ≡ true → (i k : ℕ) → i < m → k < m → eqb (f i).number (f k).number ≡ eqb k i
own_number f m h i k a b = at (order i k)
  where
    at : Order i k → eqb (f i).number (f k).number ≡ eqb k i
    at (below z) = slots_apart f 0 m h i k (omega arith) z (omega arith) ∙ sym (ne_eqb k i (λ e. omega (arith, z, e)))
    at (equal z) = rw z (eq-eqb (f k).number (f k).number refl ∙ sym (eq-eqb k k refl))
    at (above z) =
        eqb_sym (f i).number (f k).number ∙ slots_apart f 0 m h k i (omega arith) z (omega arith) ∙ sym (ne_eqb k i (λ e. omega (arith, z, e)))

-- ---- One more

pub slots_append : (slots : List Arrival) (a : Arrival) → are_slots slots ≡ true → eqb a.number 0 ≡ false → has_slot a.number slots ≡ false
    → is_image a.contents a.bodies ≡ true → are_slots (slots ++ a ∷ []) ≡ true
unfolding any
slots_append [] a h n p i = are_slots_lem a [] (record { nonzero = n; alone = refl; image = i; others = unfold are_slots in refl })
slots_append (x ∷ slots) a h n p i =
    let s = slots_are x slots h in
    let o = or_false (eqb a.number x.number) (has_slot a.number slots) p in
    let e : (eqb x.number a.number || false) ≡ false = rw (eqb_sym x.number a.number, o.0) refl in
    are_slots_lem x (slots ++ a ∷ []) (record {
      nonzero = s.nonzero;
      alone = any_append (λ b. eqb x.number b.number) slots (a ∷ []) ∙ rw (s.alone, e) refl;
      image = s.image;
      others = slots_append slots a s.others n o.1 i;
    })

-- ---- One that leaves

module _ (n : ℕ) where
  any_filtered : (p : Arrival → Bool) (slots : List Arrival) → any p slots ≡ false → any p (filter (is_other n) slots) ≡ false
  unfolding any filter
  any_filtered p [] h = refl
  any_filtered p (a ∷ slots) h =
      let o = or_false (p a) (any p slots) h in
      at (is_other n a) o.0 (any_filtered p slots o.1)
    where
      at : (b : Bool) → p a ≡ false → any p (filter (is_other n) slots) ≡ false
          → any p (if b then a ∷ filter (is_other n) slots else filter (is_other n) slots) ≡ false
      at true e ih = rw (e, ih) refl
      at false e ih = ih

  pub slots_without : (slots : List Arrival) → are_slots slots ≡ true → are_slots (filter (is_other n) slots) ≡ true
  unfolding filter
  slots_without [] h = h
  slots_without (a ∷ slots) h =
      let s = slots_are a slots h in
      at s (is_other n a) (slots_without slots s.others)
    where
      at : Slots a slots → (b : Bool) → are_slots (filter (is_other n) slots) ≡ true
          → are_slots (if b then a ∷ filter (is_other n) slots else filter (is_other n) slots) ≡ true
      at s true ih =
          are_slots_lem a (filter (is_other n) slots) (record {
            nonzero = s.nonzero;
            alone = any_filtered (λ o. eqb a.number o.number) slots s.alone;
            image = s.image;
            others = ih;
          })
      at s false ih = ih

  -- none is left out where there is none of that number
  all_others : (slots : List Arrival) → has_slot n slots ≡ false → filter (is_other n) slots ≡ slots
  unfolding any filter
  all_others [] h = refl
  all_others (a ∷ slots) h =
      let o = or_false (eqb n a.number) (has_slot n slots) h in
      rw o.0 (ap (λ (l : List Arrival). a ∷ l) (all_others slots o.1))

  -- how many stand before it
  abbrev pub before : List Arrival → ℕ
  before slots = length (take_while (is_other n) slots)

  -- those before it, and those behind it
  pub slot_leaves : (slots : List Arrival) → are_slots slots ≡ true → has_slot n slots ≡ true
      → (before slots < length slots) × (take (before slots) slots ++ drop (suc (before slots)) slots ≡ filter (is_other n) slots)
  unfolding any filter take_while
  slot_leaves [] h p = absurd (not_both p refl)
  slot_leaves (a ∷ slots) h p = at (eqb n a.number) refl (slots_are a slots h) p (slot_leaves slots)
    where
      at : (b : Bool) → eqb n a.number ≡ b → Slots a slots → (b || has_slot n slots) ≡ true
          → (are_slots slots ≡ true → has_slot n slots ≡ true
          → (before slots < length slots) × (take (before slots) slots ++ drop (suc (before slots)) slots ≡ filter (is_other n) slots))
          → let i = length (if not b then a ∷ take_while (is_other n) slots else []) in
          (i < suc (length slots))
          × (take i (a ∷ slots) ++ drop (suc i) (a ∷ slots) ≡ (if not b then a ∷ filter (is_other n) slots else filter (is_other n) slots))
      at true e s p ih =
          let f : has_slot n slots ≡ false = rw (eqb-true n a.number e) s.alone in
          (omega arith, sym (all_others slots f))
      at false e s p ih =
          let r = ih s.others p in
          (omega (arith, r.0), ap (λ (l : List Arrival). a ∷ l) r.1)

  pub kept_without : (slots : List Arrival) → map kept (filter (is_other n) slots) ≡ filter (λ p. not (has_number n p)) (map kept slots)
  unfolding filter
  kept_without [] = refl
  kept_without (a ∷ slots) = at (is_other n a) (kept_without slots)
    where
      at : (b : Bool) → map kept (filter (is_other n) slots) ≡ filter (λ p. not (has_number n p)) (map kept slots)
          → map kept (if b then a ∷ filter (is_other n) slots else filter (is_other n) slots)
          ≡ (if b then kept a ∷ filter (λ p. not (has_number n p)) (map kept slots) else filter (λ p. not (has_number n p)) (map kept slots))
      at true ih = ap (λ (l : List Pack). kept a ∷ l) ih
      at false ih = ih
