-- How `parse_binding` goes through a run of bindings. Assumes nothing.
use mathlib.Core.Bool.{Bool, true, false, ◌||◌, or-false, or_assoc}
use mathlib.Core.List.{List, [], ◌∷◌}
use mathlib.Core.Path.{◌≡◌, refl, sym, ap, ◌∙◌}
use Prim.Native.Nat.{ℕ, ◌+◌, ◌≤◌, ◌<◌}
use native.Mathlib.Numerals.{add-one}
use native.Mathlib.Omega.{arith}
use lib.Dec.{eqb}
use lib.ListN.{length, get_or, drop}
use lib.Seq.{drop-cons}
use Rattle.definition.specs.Lists.{any, take_while}
use Rattle.definition.specs.Bytes.{star, is_binding}
use Rattle.laws.proofs.Lists.{eqb_sym}
use Rattle.scan.proofs.Runs.{Passed, passed_none, passed_more, passed_stop, passed_end}
use Rattle.components.specs.Parts.{Bound}

abbrev is_loose : List ℕ → Bool
is_loose t = any (eqb star) (take_while is_binding t)

-- i bytes of the run are passed, and l says whether one is a `*`
pub record Binding-at (t : List ℕ) (l : Bool) (i : ℕ) : Type 0 where
  pub run : Passed is_binding t i
  pub loose : is_loose t ≡ (l || is_loose (drop i t))

pub binding_first : (t : List ℕ) → Binding-at t false 0
binding_first t = record { run = passed_none is_binding t; loose = refl }

-- where the run is over no `*` is left
run_over : (t : List ℕ) (i : ℕ) → length (take_while is_binding (drop i t)) ≡ 0 → is_loose (drop i t) ≡ false
unfolding any
run_over t i e = at (take_while is_binding (drop i t)) e
  where
    at : (u : List ℕ) → length u ≡ 0 → any (eqb star) u ≡ false
    at [] h = refl
    at (x ∷ u) h = absurd (omega arith)

module _ {t : List ℕ} {l : Bool} {i : ℕ} (b : Binding-at t l i) where
  over : i ≡ length (take_while is_binding t) → Bound t (record { loose = l; len = i })
  over e = record {
    loose = sym (b.loose ∙ ap (λ (x : Bool). l || x) (run_over t i (omega (arith, b.run.same))) ∙ or-false l);
    len = e;
  }

  pub binding_end : length t ≤ i → Bound t (record { loose = l; len = length t })
  binding_end h =
      let e : i ≡ length t = omega (arith, b.run) in
      rw e at (over (passed_end is_binding t b.run h))

  module _ (h : i < length t) where
    pub binding_stop : is_binding (get_or t i 0) ≡ false → Bound t (record { loose = l; len = i })
    binding_stop e = over (passed_stop is_binding t b.run h e)

    pub binding_more : is_binding (get_or t i 0) ≡ true → Binding-at t (l || eqb (get_or t i 0) star) (i + 1)
    unfolding take_while any
    binding_more e =
        let one : is_loose (drop i t) ≡ (eqb (get_or t i 0) star || is_loose (drop (i + 1) t)) =
        rw (add-one, drop-cons t i 0 h, e, eqb_sym star (get_or t i 0)) refl in
        record {
          run = passed_more is_binding t b.run h e;
          loose = b.loose ∙ ap (λ (x : Bool). l || x) one ∙ sym (or_assoc l _ _);
        }
