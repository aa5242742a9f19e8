-- A copy that goes on where it stopped, and the bytes that end a run of plain ones. Assumes nothing.
use Rattle.std.specs.Prelude.{if◌then◌else◌}
use mathlib.Core.Bool.{Bool, true, false, not}
use mathlib.Core.List.{List, append_assoc}
use mathlib.Core.Path.{◌≡◌, refl, sym, ap, ◌∙◌}
use Prim.Native.Nat.{ℕ, ◌+◌, ◌-◌, ◌≤◌, ◌<◌}
use native.Mathlib.Numerals.{add-one}
use native.Mathlib.Omega.{arith}
use lib.Dec.{ltb}
use lib.ListN.{length, get_or, set, drop}
use lib.Seq.{paste, paste-zero, paste-suc, length-paste, take-paste, drop-paste, take-add, drop-drop}
use borrow.Author.Tests.{ne_eqb, lt-ltb, le-ltb, ltb-true, ltb-false}
use Rattle.definition.specs.Bytes.{newline, backslash}
use Rattle.blocks.specs.Either.{either}
use Rattle.copies.specs.Plain.{is_plain, stepped}

-- d has become e: the first i bytes of s are copied into it, from `at` on
pub record Copied (d : List ℕ) (at : ℕ) (s e : List ℕ) (i : ℕ) : Type 0 where
  pub inside : i ≤ length s
  pub same : e ≡ paste d at s i
  pub long : length e ≡ length d

module _ (d : List ℕ) (at : ℕ) (s : List ℕ) where
  pub copied_none : Copied d at s d 0
  copied_none = record { inside = omega arith; same = paste-zero d at s; long = refl }

  -- a copy, and another behind it
  pub paste_more : (i k : ℕ) → at + i ≤ length d → i ≤ length s → paste (paste d at s i) (at + i) (drop i s) k ≡ paste d at s (i + k)
  paste_more i k h g =
      let e : at + i + k ≡ at + (i + k) = omega arith in
      let rest : drop (at + i + k) (paste d at s i) ≡ drop (at + (i + k)) d =
      sym (drop-drop k (at + i) (paste d at s i)) ∙ ap (drop k) (drop-paste d at s i (omega arith) g) ∙ drop-drop k (at + i) d ∙ ap (λ (n : ℕ). drop n d) e in
      rw (take-paste d at s i (omega arith) g, rest, take-add i k s) (simp append_assoc)

  pub copied_to : at + length s ≤ length d → (n : ℕ) (f : List ℕ) → n ≤ length s → f ≡ paste d at s n → Copied d at s f n
  copied_to fits n f h g = record { inside = h; same = g; long = ap length g ∙ length-paste d at s n (omega arith) h }

  module _ (fits : at + length s ≤ length d) {e : List ℕ} {i : ℕ} (c : Copied d at s e i) where
    pub copied_more : (k : ℕ) (f : List ℕ) → i + k ≤ length s → f ≡ paste e (at + i) (drop i s) k → Copied d at s f (i + k)
    copied_more k f h g = copied_to fits (i + k) f h (g ∙ rw c.same (paste_more i k (omega (arith, c.inside)) c.inside))

    pub copied_byte : i < length s → Copied d at s (set e (at + i) (get_or s i 0)) (i + 1)
    copied_byte h = copied_to fits (i + 1) _ (omega arith) (rw (add-one, c.same) (paste-suc d at s i 0 (omega arith) h))

    pub copied_all : length s ≤ i → e ≡ paste d at s (length s)
    copied_all h =
        let k : i ≡ length s = omega (arith, c.inside) in
        rw (← k) c.same

-- ---- A step

module _ (n from size : ℕ) where
  pub step_short : n - from < size → from ≡ stepped n from size
  unfolding stepped
  step_short h = rw (lt-ltb _ _ h) refl

  pub step_on : size ≤ n - from → from + size ≡ stepped n from size
  unfolding stepped
  step_on h = rw (le-ltb _ _ h) refl

  -- half of what is left is at most a step
  pub step_left : (r : ℕ) → r ≡ stepped n from size → n - from < size + size → n - r < size
  unfolding stepped
  step_left r e h = at (ltb (n - from) size) refl (rw e refl)
    where
      at : (b : Bool) → ltb (n - from) size ≡ b → r ≡ (if b then from else from + size) → n - r < size
      at true f g = omega (arith, ltb-true (n - from) size f, g)
      at false f g = omega (arith, ltb-false (n - from) size f, g)

  step_inside : (r : ℕ) → r ≡ stepped n from size → from ≤ n → (from ≤ r) × (r ≤ n)
  unfolding stepped
  step_inside r e h = at (ltb (n - from) size) refl (rw e refl)
    where
      at : (b : Bool) → ltb (n - from) size ≡ b → r ≡ (if b then from else from + size) → (from ≤ r) × (r ≤ n)
      at true f g = (omega (arith, g), omega (arith, g))
      at false f g = (omega (arith, g), omega (arith, ltb-false (n - from) size f, g))

-- what a step copies behind what was copied
pub copied_step : (d : List ℕ) (at : ℕ) (s : List ℕ) → at + length s ≤ length d → {e : List ℕ} {from : ℕ} → Copied d at s e from
    → (size r : ℕ) (f : List ℕ) → r ≡ stepped (length s) from size → f ≡ paste e (at + from) (drop from s) (r - from) → Copied d at s f r
copied_step d at s fits {e} {from} c size r f g h =
    let i = step_inside (length s) from size r g c.inside in
    let k : from + (r - from) ≡ r = omega (arith, i.0) in
    rw k at (copied_more d at s fits c (r - from) f (rw k i.1) h)

-- ---- Plain bytes

module _ (c : ℕ) where
  pub plain_not : is_plain c ≡ not (either newline backslash c)
  unfolding is_plain
  plain_not = refl

  pub plain_byte : (c ≡ newline → ⊥) → (c ≡ backslash → ⊥) → is_plain c ≡ true
  unfolding is_plain either
  plain_byte p q = rw (ne_eqb c newline p, ne_eqb c backslash q) refl

  pub newline_ends : c ≡ newline → is_plain c ≡ false
  unfolding is_plain either
  newline_ends e = rw e refl

  pub backslash_ends : c ≡ backslash → is_plain c ≡ false
  unfolding is_plain either
  backslash_ends e = rw e refl
