-- std's words for what its methods give, and the definition's words for the same. Assumes nothing.
use Rattle.std.proofs.Common.{ℕ, ◌+◌, Option, Some, None, not, ltb, arith, ◌∙◌, List, [], ◌∷◌, Bool, true, false, cond, ◌&&◌, length, take, eqb, refl, ap, ◌≡◌}
use Rattle.std.specs.Prelude.{if◌then◌else◌}
use Rattle.std.specs.Cmp.Lexicographic.{pointwise}
use Rattle.std.specs.List.{prefix_len, position}
use Rattle.std.specs.Option.{unwrap_or}
use borrow.Author.Tests.{ltb-false}
use Rattle.laws.proofs.Lists.{length_take_while_le}
use Rattle.definition.specs.Lists.{take_while, same}
use Rattle.scan.specs.Scanned.{starts_with}

-- how many pass at the front: `text.iter().position(|c| q(*c)).unwrap_or(text.len())`, where q says that p fails
module _ (p q : ℕ → Bool) (opposite : (c : ℕ) → p c ≡ not (q c)) where
  prefix_len_not : (t : List ℕ) → prefix_len (λ x. not (q x)) t ≡ length (take_while p t)
  unfolding take_while
  prefix_len_not [] = refl
  prefix_len_not (c ∷ t) = rw (← opposite c) (at (p c) (prefix_len_not t))
    where
      at : (b : Bool) → prefix_len (λ x. not (q x)) t ≡ length (take_while p t)
          → cond b (1 + prefix_len (λ x. not (q x)) t) 0 ≡ length (if b then c ∷ take_while p t else [])
      at true e = omega (arith, e)
      at false e = refl

  unwrap_or_position : (t : List ℕ) → unwrap_or (position q t) (length t) ≡ length (take_while p t)
  unwrap_or_position t = at (ltb n (length t)) refl ∙ prefix_len_not t
    where
      n : ℕ
      n = prefix_len (λ x. not (q x)) t

      at : (b : Bool) → ltb n (length t) ≡ b → unwrap_or (cond b (Some n) None) (length t) ≡ n
      at true e = refl
      at false e = omega (arith, ltb-false n (length t) e, prefix_len_not t, length_take_while_le p t)

  -- r is what `position` gave
  pub position_run_by : (t : List ℕ) {r : Option ℕ} → r ≡ position q t → unwrap_or r (length t) ≡ length (take_while p t)
  position_run_by t e = ap (λ (o : Option ℕ). unwrap_or o (length t)) e ∙ unwrap_or_position t

-- the same, where q is `!p`
pub position_run : (p : ℕ → Bool) (t : List ℕ) {r : Option ℕ} → r ≡ position (λ x. not (p x)) t → unwrap_or r (length t) ≡ length (take_while p t)
position_run p = position_run_by p (λ x. not (p x)) (λ c. twice (p c))
  where
    twice : (b : Bool) → b ≡ not (not b)
    twice true = refl
    twice false = refl

-- `a == b`
pub same_pointwise : (xs ys : List ℕ) → pointwise eqb xs ys ≡ same xs ys
unfolding same
same_pointwise [] [] = refl
same_pointwise [] (y ∷ ys) = refl
same_pointwise (x ∷ xs) [] = refl
same_pointwise (x ∷ xs) (y ∷ ys) = ap (λ (b : Bool). eqb x y && b) (same_pointwise xs ys)

-- `text.starts_with(word)`
pub starts_with_pointwise : (w t : List ℕ) → pointwise eqb w (take (length w) t) ≡ starts_with w t
unfolding starts_with
starts_with_pointwise [] t = refl
starts_with_pointwise (b ∷ w) [] = refl
starts_with_pointwise (b ∷ w) (c ∷ t) = at (eqb b c) (starts_with_pointwise w t)
  where
    at : (x : Bool) → pointwise eqb w (take (length w) t) ≡ starts_with w t → (x && pointwise eqb w (take (length w) t)) ≡ (if x then starts_with w t else false)
    at true e = e
    at false e = refl
