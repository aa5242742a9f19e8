-- The readings of a value that was looked up. Assumes nothing.
use Rattle.std.specs.Prelude.{if◌then◌else◌, Result, Ok, Some, None}
use Rattle.std.specs.Prelude.{Option as Answer}
use mathlib.Core.Bool.{Bool, true, false}
use mathlib.Core.List.{List}
use mathlib.Core.Option.{Option, some, none}
use mathlib.Core.Path.{◌≡◌, refl, sym, ap}
use Prim.Native.Nat.{ℕ}
use native.Mathlib.Omega.{arith}
use Rattle.definition.specs.Query.{Bounds}
use Rattle.definition.specs.Lookup.{Reply, given, no_value, refused, Place, get_bytes_within, bytes_at}
use Rattle.definition.specs.Value.{is_utf8, replied, read_as, as_string, bytes_or, shown_by, shown_within}
use Rattle.lookup.specs.Replies.{replied as looked_up}
use Rattle.lookup.specs.declared.Place as code
use Rattle.refusal.specs.declared.Refusal.{Refusal}
use Rattle.booleans.specs.Readings.{boolean_in}
use Rattle.readings.specs.Replies.{truth_replied}
use Rattle.readings.specs.Showing.{shown_at}

-- what any reading of the value's bytes makes of a reply
module _ {A : Type 0} (f : Place → Option A) (r : Reply Place) where
  pub read_refused : (k : ℕ) → refused k ≡ r → refused k ≡ read_as f r
  unfolding read_as
  read_refused k e = rw (← e) refl

  pub read_none : no_value ≡ r → no_value ≡ read_as f r
  unfolding read_as
  read_none e = rw (← e) refl

  pub read_given : (p : Place) (o : Option A) → given p ≡ r → o ≡ f p → replied o ≡ read_as f r
  unfolding read_as
  read_given p o e h = rw (← e, ← h) refl

-- a string is what was found, if it is well formed, and else none
module _ (bodies : List ℕ) (r : Reply Place) where
  pub string_refused : (k : ℕ) → refused k ≡ r → refused k ≡ as_string bodies r
  unfolding as_string
  string_refused k e = read_refused _ r k e

  pub string_none : no_value ≡ r → no_value ≡ as_string bodies r
  unfolding as_string
  string_none e = read_none _ r e

  pub string_read : (p : Place) (b : Bool) → given p ≡ r → is_utf8 (bytes_at bodies p) ≡ b → replied (if b then some p else none) ≡ as_string bodies r
  unfolding as_string
  string_read p b e u = read_given _ r p _ e (ap (λ (x : Bool). if x then some p else none) (sym u))

-- it is then a value that is found
pub string_found : (bodies : List ℕ) (q : Place) (r : Reply Place) → given q ≡ as_string bodies r → given q ≡ r
unfolding as_string read_as replied
string_found bodies q (given p) e = kept (is_utf8 (bytes_at bodies p)) e
  where
    kept : (b : Bool) → given q ≡ replied (if b then some p else none) → given q ≡ given p
    kept true e = e
    kept false e = absurd (let z : ◌≡◌ {A = ℕ} 0 1 = cc in omega arith)
string_found bodies q no_value e = absurd (let z : ◌≡◌ {A = ℕ} 0 1 = cc in omega arith)
string_found bodies q (refused k) e = absurd (let z : ◌≡◌ {A = ℕ} 0 1 = cc in omega arith)

-- a reading's answer, where there is one
pub truth_given : (o : Answer Bool) → truth_replied (Ok o) ≡ replied (boolean_in o)
unfolding replied boolean_in
truth_given (Some b) = refl
truth_given None = refl

module _ (most : Bounds) (contents bodies name class : List ℕ) where
  -- what is shown of the answer of a lookup is what the lookup shows
  pub shows : (r : Result (Answer code.Place) Refusal) (default bytes : List ℕ) (atBodies atDefault starts : ℕ × ℕ) → looked_up r ≡ get_bytes_within most contents bodies name class
      → (bytes ≡ bytes_or bodies default (looked_up r)) × (starts ≡ shown_at (looked_up r) atBodies atDefault)
      → (bytes ≡ shown_within most contents bodies name class default) × (starts ≡ shown_at (get_bytes_within most contents bodies name class) atBodies atDefault)
  unfolding shown_by
  shows r default bytes atBodies atDefault starts e s = rw e at s
