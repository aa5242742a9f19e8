-- A row's name and a path, compared in place from their end. Assumes nothing.
use mathlib.Core.Bool.{Bool, true, false}
use mathlib.Core.List.{List}
use mathlib.Core.Path.{◌≡◌, refl, sym, ap, ◌∙◌}
use Prim.Native.Nat.{ℕ, ◌+◌, ◌-◌, ◌≤◌, ◌<◌}
use native.Mathlib.Omega.{arith}
use lib.ListN.{length, take, drop, get_or, length-drop, drop_of_length-le}
use lib.Seq.{get_or-drop, get_or-take, drop-cons, drop-length, length-take-le}
use Rattle.definition.specs.Lists.{same}
use Rattle.laws.proofs.Lists.{same_eq, eq_same}
use Rattle.paths.proofs.Folders.{next_is}

long : (s k : List ℕ) (at : ℕ) → at + length k ≤ length s → length (take (length k) (drop at s)) ≡ length k
long s k at h = length-take-le (length k) (drop at s) (rw length-drop (omega arith))

byte : (s k : List ℕ) (at i : ℕ) → i < length k → get_or (take (length k) (drop at s)) i 0 ≡ get_or s (at + i) 0
byte s k at i h = get_or-take (length k) (drop at s) i 0 h ∙ get_or-drop at s i 0

-- from byte i on what stands at a place is k
pub record Ending (s k : List ℕ) (at i : ℕ) : Type 0 where
  pub i_most : i ≤ length k
  pub inside : at + length k ≤ length s
  pub so_far : drop i (take (length k) (drop at s)) ≡ drop i k

pub ending_first : (s k : List ℕ) (at : ℕ) → at + length k ≤ length s → Ending s k at (length k)
ending_first s k at h = record {
  i_most = omega arith;
  inside = h;
  so_far = drop_of_length-le (take (length k) (drop at s)) {i = length k} (omega (arith, long s k at h)) ∙ sym (drop-length k);
}

module _ {s k : List ℕ} {at i : ℕ} (m : Ending s k at i) where
  pub ending_all : i ≤ 0 → same (take (length k) (drop at s)) k ≡ true
  ending_all h = let z : i ≡ 0 = omega arith in eq_same (take (length k) (drop at s)) k (rw z at m.so_far)

  module _ (h : 0 < i) where
    there : get_or (take (length k) (drop at s)) (i - 1) 0 ≡ get_or s (at + (i - 1)) 0
    there = byte s k at (i - 1) (omega arith)

    pub ending_off : (get_or s (at + (i - 1)) 0 ≡ get_or k (i - 1) 0 → ⊥) → same (take (length k) (drop at s)) k ≡ false
    ending_off f = at_off (same (take (length k) (drop at s)) k) refl
      where
        at_off : (b : Bool) → same (take (length k) (drop at s)) k ≡ b → b ≡ false
        at_off true e = absurd (f (sym there ∙ ap (λ l. get_or l (i - 1) 0) (same_eq (take (length k) (drop at s)) k e)))
        at_off false e = refl

    pub ending_on : get_or s (at + (i - 1)) 0 ≡ get_or k (i - 1) 0 → Ending s k at (i - 1)
    ending_on e = record {
      i_most = omega arith;
      inside = m.inside;
      so_far =
          let l : i - 1 < length k = omega arith in
          rw (drop-cons (take (length k) (drop at s)) (i - 1) 0 (omega (arith, long s k at m.inside)), drop-cons k (i - 1) 0 l, there ∙ e, next_is i h, m.so_far)
          refl;
    }
