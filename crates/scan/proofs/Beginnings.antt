-- What an answer of `starts_with` says. Assumes nothing.
use Rattle.std.specs.Prelude.{if◌then◌else◌}
use mathlib.Core.Bool.{Bool, true, false}
use mathlib.Core.List.{List, [], ◌∷◌}
use mathlib.Core.Option.{some, none}
use mathlib.Core.Path.{◌≡◌, refl, sym, ◌∙◌}
use Prim.Native.Nat.{ℕ, ◌≤◌}
use native.Mathlib.Omega.{arith}
use lib.Dec.{eqb}
use lib.ListN.{length, drop}
use Rattle.definition.specs.Parsing.{after}
use Rattle.laws.proofs.Lists.{not_both, Suffix, suffix_drop}
use Rattle.scan.specs.Scanned.{starts_with}

-- what follows the word, if it stands there
pub after_starts : (w t : List ℕ) → after w t ≡ (if starts_with w t then some (drop (length w) t) else none)
unfolding starts_with after
after_starts [] t = refl
after_starts (b ∷ w) [] = refl
after_starts (b ∷ w) (c ∷ t) = at (eqb b c) (after_starts w t)
  where
    at : (x : Bool) → after w t ≡ (if starts_with w t then some (drop (length w) t) else none)
        → (if x then after w t else none) ≡ (if (if x then starts_with w t else false) then some (drop (length w) t) else none)
    at true ih = ih
    at false ih = refl

starts_long : (w t : List ℕ) → starts_with w t ≡ true → length w ≤ length t
unfolding starts_with
starts_long [] t e = omega arith
starts_long (b ∷ w) [] e = absurd (not_both e refl)
starts_long (b ∷ w) (c ∷ t) e = at (eqb b c) e (starts_long w t)
  where
    at : (x : Bool) → (if x then starts_with w t else false) ≡ true → (starts_with w t ≡ true → length w ≤ length t) → length (b ∷ w) ≤ length (c ∷ t)
    at true f ih = omega (arith, ih f)
    at false f ih = absurd (not_both f refl)

-- r is the answer
module _ (w t : List ℕ) (r : Bool) (e : r ≡ starts_with w t) where
  pub starts_no : r ≡ false → after w t ≡ none
  starts_no h = after_starts w t ∙ rw (← e, h) refl

  pub starts_yes : r ≡ true → (after w t ≡ some (drop (length w) t)) × (length w ≤ length t)
  starts_yes h = (after_starts w t ∙ rw (← e, h) refl, starts_long w t (sym e ∙ h))

pub after_suffix : (w : List ℕ) {t s : List ℕ} → Suffix t s → (u : List ℕ) → after w t ≡ some u → Suffix u s
after_suffix w {t} {s} x u e = at (starts_with w t) refl (sym (after_starts w t) ∙ e)
  where
    at : (b : Bool) → starts_with w t ≡ b → (if b then some (drop (length w) t) else none) ≡ some u → Suffix u s
    at true f k =
        let d : drop (length w) t ≡ u = cc in
        rw d at (suffix_drop x (length w) (starts_long w t f))
    at false f k = absurd (let z : ◌≡◌ {A = ℕ} 0 1 = cc in omega arith)
