-- A loop that counts the bytes at the front of a text that pass a test, and the text after them. Assumes nothing.
use mathlib.Core.Bool.{Bool, true, false, ◌||◌, not}
use mathlib.Core.List.{List, [], ◌∷◌}
use mathlib.Core.Path.{◌≡◌, refl, ap, ◌∙◌}
use Prim.Native.Nat.{ℕ, zero, suc, ◌+◌, ◌-◌, ◌≤◌, ◌<◌}
use native.Mathlib.Omega.{arith}
use lib.ListN.{length, get_or, take, drop, length-drop}
use lib.Seq.{drop-drop}
use Rattle.definition.specs.Lists.{any, take_while, drop_while}
use Rattle.laws.proofs.Lists.{not_both, part_rest, drop_run, length_take_while_le, run_more, run_stop, run_end}

-- the first i pass, and those that are left make up the rest of the run
pub record Passed (p : ℕ → Bool) (t : List ℕ) (i : ℕ) : Type 0 where
  pub inside : i ≤ length t
  pub same : length (take_while p t) ≡ i + length (take_while p (drop i t))

module _ (p : ℕ → Bool) (t : List ℕ) where
  pub passed_none : Passed p t 0
  passed_none = record { inside = omega arith; same = omega arith }

  module _ {i : ℕ} (d : Passed p t i) where
    pub passed_more : i < length t → p (get_or t i 0) ≡ true → Passed p t (i + 1)
    passed_more h e = record { inside = omega arith; same = omega (arith, d.same, run_more p t i 0 h e) }

    pub passed_stop : i < length t → p (get_or t i 0) ≡ false → i ≡ length (take_while p t)
    passed_stop h e = omega (arith, d.same, run_stop p t i 0 h e)

    pub passed_end : length t ≤ i → i ≡ length (take_while p t)
    passed_end h = omega (arith, d.same, run_end p t i h)

    pub passed_all : length t ≤ i → length t ≡ length (take_while p t)
    passed_all h = omega (arith, passed_end h, d.inside)

  -- what follows a run of n, as the borrow checker gives it
  module _ (n : ℕ) (e : n ≡ length (take_while p t)) where
    pub run_inside : n ≤ length t
    run_inside = omega (arith, length_take_while_le p t)

    pub run_rest : take (length t - n) (drop n t) ≡ drop_while p t
    run_rest = part_rest t n ∙ rw e (drop_run p t)

-- a block with nothing that ends the run
module _ (p q : ℕ → Bool) (opposite : (c : ℕ) → p c ≡ not (q c)) where
  run_block : (k : ℕ) (t : List ℕ) → k ≤ length t → any q (take k t) ≡ false → length (take_while p t) ≡ k + length (take_while p (drop k t))
  unfolding any take_while
  run_block zero t h e = omega arith
  run_block (suc k) [] h e = absurd (omega arith)
  run_block (suc k) (c ∷ t) h e = at (q c) refl e (run_block k t (omega arith))
    where
      at : (x : Bool) → q c ≡ x → (x || any q (take k t)) ≡ false
          → (any q (take k t) ≡ false → length (take_while p t) ≡ k + length (take_while p (drop k t)))
          → length (take_while p (c ∷ t)) ≡ suc k + length (take_while p (drop k t))
      at true f g ih = absurd (not_both refl g)
      at false f g ih =
          let passes : p c ≡ true = opposite c ∙ ap not f in
          rw passes (omega (arith, ih g))

  pub passed_block : {t : List ℕ} {i : ℕ} → Passed p t i → (k : ℕ) → i + k ≤ length t → any q (take k (drop i t)) ≡ false → Passed p t (i + k)
  passed_block {t} {i} d k h e =
      let more = run_block k (drop i t) (omega (arith, length-drop i t)) e in
      record { inside = h; same = omega (arith, d.same, rw drop-drop at more) }

-- two tests that agree
module _ (p q : ℕ → Bool) (same : (c : ℕ) → p c ≡ q c) where
  pub take_while_agree : (t : List ℕ) → take_while p t ≡ take_while q t
  unfolding take_while
  take_while_agree [] = refl
  take_while_agree (c ∷ t) = rw (same c, take_while_agree t) refl

  pub drop_while_agree : (t : List ℕ) → drop_while p t ≡ drop_while q t
  unfolding drop_while
  drop_while_agree [] = refl
  drop_while_agree (c ∷ t) = rw (same c, drop_while_agree t) refl
