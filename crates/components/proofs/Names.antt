-- What `next_component_name` finds. Assumes nothing.
use Rattle.std.specs.Prelude.{None, if◌then◌else◌}
use mathlib.Core.Bool.{Bool, true, false}
use mathlib.Core.List.{List, [], ◌∷◌}
use mathlib.Core.Path.{◌≡◌, refl, sym, ap, ◌∙◌}
use Prim.Native.Nat.{ℕ, ◌<◌}
use native.Mathlib.Omega.{arith}
use lib.Dec.{eqb}
use lib.ListN.{length, take, drop}
use borrow.Author.Tests.{eq-eqb, ne_eqb, eqb-true}
use Rattle.definition.specs.Lists.{take_while, drop_while}
use Rattle.definition.specs.Bytes.{question, is_digit, is_name}
use Rattle.definition.specs.Text.{component_at}
use Rattle.laws.proofs.Lists.{not_both, eqb_sym, take_run, drop_run, length_take_while_le}
use Rattle.scan.specs.Scanned.{starts_with}
use Rattle.components.specs.Parts.{component_if, Begins, Begun}

-- no `?` and no name
pub no_name : (t : List ℕ) → length (take_while is_name t) ≡ 0 → starts_with (question ∷ []) t ≡ false → Begun t None
unfolding component_at take_while starts_with
no_name [] h e = λ b. refl
no_name (c ∷ t) h e = name (is_name c) refl h
  where
    wild : (x : Bool) → eqb question c ≡ x → (if x then true else false) ≡ false → eqb c question ≡ false
    wild true f g = absurd (not_both refl g)
    wild false f g = eqb_sym c question ∙ f

    name : (x : Bool) → is_name c ≡ x → length (if x then c ∷ take_while is_name t else []) ≡ 0 → Begun (c ∷ t) None
    name true f g = absurd (omega arith)
    name false f g = λ b. rw (wild (eqb question c) refl e, f) refl

pub wild : (t : List ℕ) → starts_with (question ∷ []) t ≡ true → Begins t (record { named = false; len = 1 })
unfolding component_at component_if starts_with
wild [] e = absurd (not_both e refl)
wild (c ∷ t) e = at (eqb question c) refl e
  where
    at : (x : Bool) → eqb question c ≡ x → (if x then true else false) ≡ true → Begins (c ∷ t) (record { named = false; len = 1 })
    at false f g = absurd (not_both g refl)
    at true f g =
        let is : c ≡ question = sym (eqb-true question c f) in
        record {
          is = λ b. rw (eq-eqb c question is) refl;
          bytes = rw is refl;
          some = omega arith;
          inside = omega arith;
        }

pub name_there : (t : List ℕ) (n : ℕ) → n ≡ length (take_while is_name t) → 0 < n → Begins t (record { named = true; len = n })
unfolding component_at component_if take_while
name_there [] n g h = absurd (omega arith)
name_there (c ∷ t) n g h = at (is_name c) refl g
  where
    at : (x : Bool) → is_name c ≡ x → n ≡ length (if x then c ∷ take_while is_name t else []) → Begins (c ∷ t) (record { named = true; len = n })
    at false f k = absurd (omega arith)
    at true f k =
        let whole : take_while is_name (c ∷ t) ≡ c ∷ take_while is_name t = rw f refl in
        let taken : take n (c ∷ t) ≡ c ∷ take_while is_name t = ap (λ (i : ℕ). take i (c ∷ t)) g ∙ take_run is_name (c ∷ t) ∙ whole in
        let left : drop n (c ∷ t) ≡ drop_while is_name t = ap (λ (i : ℕ). drop i (c ∷ t)) g ∙ drop_run is_name (c ∷ t) ∙ unfold drop_while in rw f refl in
        record {
          is = λ b. rw (ne_eqb c question (λ e. not_both f (ap is_name e ∙ unfold is_name is_digit in refl)), f, taken, left) refl;
          bytes = refl;
          some = h;
          inside = omega (arith, g, length_take_while_le is_name (c ∷ t));
        }
