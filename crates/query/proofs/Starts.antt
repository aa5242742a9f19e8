-- Where the parts of a text begin, as the code comes to them. Assumes nothing.
use Rattle.std.specs.Prelude.{if◌then◌else◌}
use mathlib.Core.Bool.{Bool, true, false, ◌&&◌, not}
use mathlib.Core.List.{List, [], ◌∷◌, ◌++◌}
use mathlib.Core.Path.{◌≡◌, refl, sym, ap, ◌∙◌}
use Prim.Native.Nat.{ℕ, zero, suc, ◌+◌, ◌-◌, ◌≤◌, ◌<◌}
use native.Mathlib.Omega.{arith}
use lib.Dec.{eqb}
use lib.ListN.{length, get_or, drop}
use borrow.Author.Tests.{eqb-true}
use Rattle.definition.specs.Lists.{take_while, drop_while}
use Rattle.definition.specs.Bytes.{dot, is_digit, is_name}
use Rattle.laws.proofs.Lists.{drop_while_le}
use Rattle.query.specs.Splits.{starts_from}

-- of a text of n bytes t is left
module _ (n : ℕ) where
  abbrev pub starts_left : Bool → List ℕ → List ℕ
  starts_left named t = starts_from named (n - length t) t

  -- a part begins nowhere in its own bytes
  run_on : (t : List ℕ) → length t ≤ n → starts_left true t ≡ starts_left true (drop_while is_name t)
  unfolding starts_from drop_while
  run_on [] h = refl
  run_on (c ∷ t) h = at (is_name c) refl (run_on t (omega arith))
    where
      at : (b : Bool) → is_name c ≡ b → starts_left true t ≡ starts_left true (drop_while is_name t)
          → starts_left true (c ∷ t) ≡ starts_left true (if b then drop_while is_name t else c ∷ t)
      at true e ih = let z : n - suc (length t) + 1 ≡ n - length t = omega arith in rw (e, z) ih
      at false e ih = refl

  -- nor after it
  run_over : (t : List ℕ) → starts_left true (drop_while is_name t) ≡ starts_left false (drop_while is_name t)
  unfolding starts_from drop_while
  run_over [] = refl
  run_over (c ∷ t) = at (is_name c) refl (run_over t)
    where
      at : (b : Bool) → is_name c ≡ b → starts_left true (drop_while is_name t) ≡ starts_left false (drop_while is_name t)
          → starts_left true (if b then drop_while is_name t else c ∷ t) ≡ starts_left false (if b then drop_while is_name t else c ∷ t)
      at true e ih = ih
      at false e ih = rw e refl

  -- nor in dots
  dots_over : (t : List ℕ) → length t ≤ n → starts_left false t ≡ starts_left false (drop_while (eqb dot) t)
  unfolding starts_from drop_while
  dots_over [] h = refl
  dots_over (c ∷ t) h = at (eqb dot c) refl (dots_over t (omega arith))
    where
      at : (b : Bool) → eqb dot c ≡ b → starts_left false t ≡ starts_left false (drop_while (eqb dot) t)
          → starts_left false (c ∷ t) ≡ starts_left false (if b then drop_while (eqb dot) t else c ∷ t)
      at true e ih =
          let z : n - suc (length t) + 1 ≡ n - length t = omega arith in
          let f : is_name c ≡ false = ap is_name (sym (eqb-true dot c e)) ∙ (unfold is_name is_digit in refl) in
          rw (f, z) ih
      at false e ih = refl

  -- the first part, and those after it and its dots
  pub starts_more : (t : List ℕ) → length t ≤ n → 0 < length (take_while is_name t)
      → starts_left false t ≡ (n - length t) ∷ starts_left false (drop_while (eqb dot) (drop_while is_name t))
  unfolding starts_from take_while drop_while
  starts_more [] h k = absurd (omega arith)
  starts_more (c ∷ t) h k = at (is_name c) refl k
    where
      at : (b : Bool) → is_name c ≡ b → 0 < length (if b then c ∷ take_while is_name t else [])
          → starts_left false (c ∷ t) ≡ (n - suc (length t)) ∷ starts_left false (drop_while (eqb dot) (if b then drop_while is_name t else c ∷ t))
      at true e k =
          let z : n - suc (length t) + 1 ≡ n - length t = omega arith in
          rw (e, z)
          (ap (λ (l : List ℕ). (n - suc (length t)) ∷ l)
          (run_on t (omega arith) ∙ run_over t ∙ dots_over (drop_while is_name t) (omega (arith, drop_while_le is_name t))))
      at false e k = absurd (omega arith)

pub starts_end : (named : Bool) (at : ℕ) (t : List ℕ) → length t ≤ 0 → starts_from named at t ≡ []
unfolding starts_from
starts_end named at [] h = refl
starts_end named at (c ∷ t) h = absurd (omega arith)

-- parts begin within the text
pub starts_inside : (named : Bool) (at : ℕ) (t : List ℕ) (i : ℕ) → i < length (starts_from named at t) → get_or (starts_from named at t) i 0 < at + length t
unfolding starts_from
starts_inside named at [] i h = absurd (omega arith)
starts_inside named at (c ∷ t) i h = by (is_name c && not named) i h (starts_inside (is_name c) (at + 1) t)
  where
    on : List ℕ
    on = starts_from (is_name c) (at + 1) t

    by : (b : Bool) (i : ℕ) → i < length ((if b then at ∷ [] else []) ++ on)
        → ((j : ℕ) → j < length on → get_or on j 0 < at + 1 + length t)
        → get_or ((if b then at ∷ [] else []) ++ on) i 0 < at + suc (length t)
    by true zero h ih = omega arith
    by true (suc i) h ih = omega (arith, ih i (omega arith))
    by false i h ih = omega (arith, ih i (omega arith))

-- and none of them is empty
pub starts_some : (named : Bool) (at : ℕ) (t : List ℕ) (i : ℕ) → i < length (starts_from named at t)
    → (at ≤ get_or (starts_from named at t) i 0) × (0 < length (take_while is_name (drop (get_or (starts_from named at t) i 0 - at) t)))
unfolding starts_from take_while
starts_some named at [] i h = absurd (omega arith)
starts_some named at (c ∷ t) i h = by (is_name c) refl (not named) i h (starts_some (is_name c) (at + 1) t)
  where
    on : List ℕ
    on = starts_from (is_name c) (at + 1) t

    Some : ℕ → Type 0
    Some x = (at ≤ x) × (0 < length (take_while is_name (drop (x - at) (c ∷ t))))

    later : (x : ℕ) → (at + 1 ≤ x) × (0 < length (take_while is_name (drop (x - (at + 1)) t))) → Some x
    later x s = let z : x - at ≡ suc (x - (at + 1)) = omega arith in (omega arith, rw z s.1)

    first : is_name c ≡ true → Some at
    first e = let z : at - at ≡ 0 = omega arith in (omega arith, rw (z, e) (omega arith))

    by : (a : Bool) → is_name c ≡ a → (b : Bool) (i : ℕ) → i < length ((if a && b then at ∷ [] else []) ++ on)
        → ((j : ℕ) → j < length on → (at + 1 ≤ get_or on j 0) × (0 < length (take_while is_name (drop (get_or on j 0 - (at + 1)) t))))
        → Some (get_or ((if a && b then at ∷ [] else []) ++ on) i 0)
    by true e true zero h ih = first e
    by true e true (suc i) h ih = later (get_or on i 0) (ih i (omega arith))
    by true e false i h ih = later (get_or on i 0) (ih i h)
    by false e b i h ih = later (get_or on i 0) (ih i h)

pub part_some : (t : List ℕ) (i : ℕ) → i < length (starts_from false 0 t) → 0 < length (take_while is_name (drop (get_or (starts_from false 0 t) i 0) t))
part_some t i h = let z : get_or (starts_from false 0 t) i 0 - 0 ≡ get_or (starts_from false 0 t) i 0 = omega arith in rw z at (starts_some false 0 t i h).1
