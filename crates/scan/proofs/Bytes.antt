-- What a byte is, from what it is compared with. Assumes nothing.
use mathlib.Core.Bool.{Bool, true, ◌||◌, or-false}
use mathlib.Core.Path.{◌≡◌, refl, ◌∙◌}
use Prim.Native.Nat.{ℕ, ◌≤◌, ◌<◌}
use native.Mathlib.Omega.{arith}
use lib.Dec.{eqb, leb}
use borrow.Author.Tests.{le-leb, ne_eqb}
use Rattle.definition.specs.Bytes.{within, is_digit, is_name}
use Rattle.laws.proofs.Lists.{in_range, below_range, above_range}

module _ (a b c : ℕ) where
  from_range : a ≤ c → within a b c ≡ leb c b
  from_range h = rw (le-leb a c h) refl

module _ (c : ℕ) where
  -- a name's byte, by each test of it
  by_tests : {u l d m n : Bool} → within 65 90 c ≡ u → within 97 122 c ≡ l → within 48 57 c ≡ d → eqb c 95 ≡ m → eqb c 45 ≡ n
      → is_name c ≡ (u || l || d || m || n)
  unfolding is_name is_digit
  by_tests u l d m n = rw (u, l, d, m, n) refl

  pub name_lower : 97 ≤ c → is_name c ≡ leb c 122
  name_lower h =
      by_tests (above_range 65 90 c (omega arith)) (from_range 97 122 c h) (above_range 48 57 c (omega arith))
      (ne_eqb c 95 (λ e. omega arith)) (ne_eqb c 45 (λ e. omega arith))
      ∙ or-false _ ∙ or-false _ ∙ or-false _

  pub name_upper : 65 ≤ c → c ≤ 90 → is_name c ≡ true
  unfolding is_name
  name_upper h k = rw (in_range 65 90 c h k) refl

  pub name_mark : 90 < c → c < 97 → is_name c ≡ eqb c 95
  name_mark h k =
      by_tests (above_range 65 90 c h) (below_range 97 122 c k) (above_range 48 57 c (omega arith)) refl
      (ne_eqb c 45 (λ e. omega arith))
      ∙ or-false _

  pub name_digit : 48 ≤ c → c < 65 → is_name c ≡ leb c 57
  name_digit h k =
      by_tests (below_range 65 90 c k) (below_range 97 122 c (omega arith)) (from_range 48 57 c h) (ne_eqb c 95 (λ e. omega arith))
      (ne_eqb c 45 (λ e. omega arith))
      ∙ or-false _ ∙ or-false _

  pub name_minus : c < 48 → is_name c ≡ eqb c 45
  name_minus h =
      by_tests (below_range 65 90 c (omega arith)) (below_range 97 122 c (omega arith)) (below_range 48 57 c h) (ne_eqb c 95 (λ e. omega arith)) refl
