-- What a copy leaves, word by word or of the library, in the definition's words. Assumes nothing.
use mathlib.Core.List.{List, ◌++◌, append_assoc}
use mathlib.Core.Path.{◌≡◌, sym, ap, ◌∙◌}
use Prim.Native.Nat.{ℕ, ◌+◌, ◌-◌, ◌≤◌, ◌<◌}
use native.Mathlib.Numerals.{add-one}
use native.Mathlib.Omega.{arith}
use lib.ListN.{length, get_or, set, take, drop}
use lib.Seq.{paste, paste-zero, paste-suc, drop-drop, slice, length-slice}
use Rattle.std.specs.List.{copy_within}
use Rattle.std.proofs.lemmas.Slice.{between_is}
use Rattle.definition.specs.Adding.{over}
use Rattle.laws.proofs.Adding.{over_paste}

-- i elements of s stand in xs, from `at` on; the rest is as in d
pub record Stored (d : List ℕ) (at : ℕ) (s xs : List ℕ) (i : ℕ) : Type 0 where
  pub same : xs ≡ paste d at s i
  pub most : i ≤ length s

module _ (d : List ℕ) (at : ℕ) (s : List ℕ) (fits : at + length s ≤ length d) where
  pub stored_first : Stored d at s d 0
  stored_first = record { same = paste-zero d at s; most = omega arith }

  pub stored_more : {xs : List ℕ} {i : ℕ} → Stored d at s xs i → i < length s → (x : ℕ) → x ≡ get_or s i 0 → Stored d at s (set xs (at + i) x) (i + 1)
  stored_more {xs} {i} h k x e = record {
    same =
        (λ t. set (h.same t) (at + i) (e t))
        ∙ paste-suc d at s i 0 (omega arith) k
        ∙ ap (paste d at s) (sym (add-one i));
    most = omega arith;
  }

  pub stored_all : {xs : List ℕ} {i : ℕ} → Stored d at s xs i → length s ≤ i → xs ≡ over at s d
  stored_all {xs} {i} h k =
      let e : i ≡ length s = omega (arith, h.most) in
      h.same ∙ ap (paste d at s) e ∙ over_paste at s d

-- a part of so many elements, copied over
pub part_over : (d s : List ℕ) (at n : ℕ) {ys : List ℕ} → n ≡ length s → ys ≡ s → take at d ++ (ys ++ drop n (drop at d)) ≡ over at s d
unfolding over
part_over d s at n e f = rw (f, e, drop-drop (length s) at d) (sym (append_assoc (take at d) s (drop (at + length s) d)))

-- a part moved within its list
pub within_over : (d : List ℕ) (from to at : ℕ) → to ≤ length d
    → copy_within d from to at ≡ over at (slice from to d) d
unfolding over
within_over d from to at k =
    ap (λ (l : List ℕ). take at d ++ l ++ drop (at + (to - from)) d) (between_is d from to)
    ∙ ap (λ (n : ℕ). take at d ++ slice from to d ++ drop (at + n) d) (sym (length-slice from to d k))
