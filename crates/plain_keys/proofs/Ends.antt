-- A text that ends with a newline: what is no newline has a byte after it. Assumes nothing.
use Rattle.std.specs.Prelude.{if◌then◌else◌}
use mathlib.Core.Bool.{Bool, true, false}
use mathlib.Core.List.{List, [], ◌∷◌}
use mathlib.Core.Path.{◌≡◌, refl, ap, ◌∙◌}
use Prim.Native.Nat.{ℕ, suc, ◌+◌, ◌-◌, ◌<◌}
use native.Mathlib.Omega.{arith}
use native.Mathlib.Decide.{dec_lt}
use lib.ListN.{length, get_or, take, drop, length-drop}
use lib.Seq.{get_or-drop}
use Rattle.definition.specs.Lists.{take_while}
use Rattle.definition.specs.Bytes.{newline, is_digit, is_name, is_binding}
use Rattle.laws.proofs.Lists.{not_both, part_rest}
use Rattle.scan.proofs.Runs.{Passed, passed_none, passed_more, passed_stop}
use Rattle.plain_keys.specs.Ended.{Ended}

module _ {t : List ℕ} (e : Ended t) where
  pub goes_on : (i : ℕ) → i < length t → (get_or t i 0 ≡ newline → ⊥) → i + 1 < length t
  goes_on i h n = at (dec_lt (i + 1) (length t))
    where
      at : Dec (i + 1 < length t) → i + 1 < length t
      at (yes k) = k
      at (no k) =
          let z : i ≡ length t - 1 = omega arith in
          absurd (n (ap (λ (j : ℕ). get_or t j 0) z ∙ e.last))

  pub name_on : (i : ℕ) → i < length t → is_name (get_or t i 0) ≡ true → i + 1 < length t
  name_on i h f = goes_on i h (λ k. not_both f (ap is_name k ∙ unfold is_name is_digit in refl))

  pub binding_on : (i : ℕ) → i < length t → is_binding (get_or t i 0) ≡ true → i + 1 < length t
  binding_on i h f = goes_on i h (λ k. not_both f (ap is_binding k ∙ unfold is_binding in refl))

  -- as the borrow checker gives it
  pub ended_rest : (n : ℕ) → n < length t → Ended (take (length t - n) (drop n t))
  ended_rest n h =
      let z : n + (length t - n - 1) ≡ length t - 1 = omega arith in
      rw (part_rest t n) (record {
        some = omega (arith, length-drop n t);
        last = rw (length-drop n t, get_or-drop n t (length t - n - 1) 0, z) e.last;
      })

pub rest_first : (t : List ℕ) (n : ℕ) → get_or (take (length t - n) (drop n t)) 0 0 ≡ get_or t n 0
rest_first t n =
    let z : n + 0 ≡ n = omega arith in
    rw (part_rest t n, get_or-drop n t 0 0, z) refl

-- a run of bytes that a newline is not of ends before the text does
pub run_ends : (p : ℕ → Bool) → p newline ≡ false → (t : List ℕ) → Ended t → length (take_while p t) < length t
unfolding take_while
run_ends p n [] e = absurd (omega (arith, e.some))
run_ends p n (c ∷ []) e = rw (ap p e.last ∙ n) (omega arith)
run_ends p n (c ∷ d ∷ t) e = at (p c) (run_ends p n (d ∷ t) (rw (part_rest (c ∷ d ∷ t) 1) at (ended_rest e 1 (omega arith))))
  where
    at : (b : Bool) → length (take_while p (d ∷ t)) < length (d ∷ t) → length (if b then c ∷ take_while p (d ∷ t) else []) < suc (length (d ∷ t))
    at true ih = omega (arith, ih)
    at false ih = omega arith

pub name_ends : (t : List ℕ) → Ended t → length (take_while is_name t) < length t
name_ends = run_ends is_name (unfold is_name is_digit in refl)

-- ---- A name's bytes

-- the first i are a name's, and the text goes on
pub record Naming (t : List ℕ) (i : ℕ) : Type 0 where
  pub run : Passed is_name t i
  pub inside : i < length t

pub naming_first : {t : List ℕ} → Ended t → Naming t 0
naming_first {t} e = record { run = passed_none is_name t; inside = e.some }

pub naming_more : {t : List ℕ} → Ended t → {i : ℕ} → Naming t i → is_name (get_or t i 0) ≡ true → Naming t (i + 1)
naming_more {t} e {i} n f = record { run = passed_more is_name t n.run n.inside f; inside = name_on e i n.inside f }

pub naming_over : {t : List ℕ} {i : ℕ} → Naming t i → is_name (get_or t i 0) ≡ false → (i ≡ length (take_while is_name t)) × (i < length t)
naming_over {t} n f = (passed_stop is_name t n.run n.inside f, n.inside)
