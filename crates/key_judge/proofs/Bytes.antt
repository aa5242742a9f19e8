-- A byte of a key is a binding, `?` or a byte of a name, and no two of them. Assumes nothing.
use mathlib.Core.Bool.{true, false}
use mathlib.Core.Logic.{◌⊎◌, inl, inr, ⊎_elim}
use mathlib.Core.Path.{◌≡◌, refl, ap, ◌∙◌}
use Prim.Native.Nat.{ℕ}
use lib.Dec.{eqb}
use borrow.Author.Tests.{ne_eqb}
use Rattle.definition.specs.Bytes.{dot, star, question, is_digit, is_name, is_binding}
use Rattle.laws.proofs.Lists.{not_both}
use Rattle.laws.proofs.Keys.{binding_either}

module _ (c : ℕ) where
  pub binding : (c ≡ star) ⊎ (c ≡ dot) → is_binding c ≡ true
  unfolding is_binding
  binding h = ⊎_elim (λ e. rw e refl) (λ e. rw e refl) h

  pub no_binding : ((c ≡ star) ⊎ (c ≡ dot) → ⊥) → is_binding c ≡ false
  unfolding is_binding
  no_binding h = rw (ne_eqb c dot (λ e. h (inr e)), ne_eqb c star (λ e. h (inl e))) refl

pub binding_not_wild : (c : ℕ) → is_binding c ≡ true → eqb c question ≡ false
binding_not_wild c e = ⊎_elim (λ d. rw d refl) (λ d. rw d refl) (binding_either c e)

pub wild_no_binding : is_binding question ≡ false
unfolding is_binding
wild_no_binding = refl

pub name_not_wild : (c : ℕ) → is_name c ≡ true → eqb c question ≡ false
name_not_wild c k = ne_eqb c question (λ q. not_both k (ap is_name q ∙ (unfold is_name is_digit in refl)))
