-- When the comparing call's answer is of both lookups. Assumes nothing.
use Rattle.std.specs.Prelude.{Option, Some, None, Ok, Err}
use mathlib.Core.Path.{◌≡◌, refl}
use Prim.Native.Nat.{ℕ}
use native.Mathlib.Omega.{arith}
use Rattle.definition.specs.Reading.{Answer}
use Rattle.definition.specs.Lookup.{Reply, given, no_value, refused as refusedLookup, Place}
use Rattle.refusal.specs.Numbers.{number}
use Rattle.refusal.specs.declared.Refusal.{Refusal}
use Rattle.lookup.specs.declared.Place as lookup
use Rattle.lookup.specs.Replies.{replied}
use Rattle.comparison.specs.Answering.{both, refused_by, answering}

pub answering_both : {a b : Reply Place} {second : Answer} (x y : Reply Place) (z : Answer) → both a b second ≡ answering x y z → (a ≡ x) × (b ≡ y) × (second ≡ z)
unfolding answering
answering_both (given p) y z e = (cc, cc, cc)
answering_both no_value y z e = (cc, cc, cc)
answering_both (refusedLookup k) y z e = absurd (let z : ◌≡◌ {A = ℕ} 0 1 = cc in omega arith)

pub answers_both : (a b : Reply Place) (second : Answer) → ((k : ℕ) → a ≡ refusedLookup k → ⊥) → answering a b second ≡ both a b second
unfolding answering
answers_both (given p) b second h = refl
answers_both no_value b second h = refl
answers_both (refusedLookup k) b second h = absurd (h k refl)

-- the first lookup found something or nothing
pub first_answers : (a : Option lookup.Place) (x y : Reply Place) (second : Answer) → replied (Ok a) ≡ x → both (replied (Ok a)) y second ≡ answering x y second
unfolding answering
first_answers (Some p) x y second e = rw (← e) refl
first_answers None x y second e = rw (← e) refl

-- or it is refused
pub first_refuses : (k : Refusal) (x y : Reply Place) (second : Answer) → replied (Err k) ≡ x → refused_by (number k) ≡ answering x y second
unfolding answering
first_refuses k x y second e = rw (← e) refl
