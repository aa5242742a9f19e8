-- What `parse_include` learns on its way, and what its answer says. Assumes nothing.
use Rattle.std.specs.Prelude as rattle
use Rattle.std.specs.Prelude.{Some, None}
use mathlib.Core.List.{List}
use mathlib.Core.Option.{Option, some, none}
use mathlib.Core.Path.{◌≡◌, refl, ap, ◌∙◌}
use Prim.Native.Nat.{ℕ, ◌+◌, ◌-◌, ◌≤◌}
use native.Mathlib.Omega.{arith}
use lib.ListN.{length, take, drop}
use Rattle.definition.specs.Lists.{ascii, take_while, drop_while}
use Rattle.definition.specs.Parsing.{◌>>=◌, after}
use Rattle.definition.specs.Bytes.{is_space}
use Rattle.definition.specs.Text.{in_quotes, include_of}
use Rattle.laws.proofs.Lists.{part_rest, take_run, length_take_while_le, Suffix, suffix_whole, suffix_part, suffix_run}
use Rattle.directives.specs.Directives.{name_on, named_in, include_at}
use Rattle.directives.specs.declared.Named.{Named}
use Rattle.scan.proofs.Beginnings.{after_suffix}
use Rattle.scan.proofs.Runs.{run_rest}

-- ---- The way

-- a part from n on
abbrev from : ℕ → List ℕ → List ℕ
from n t = take (length t - n) (drop n t)

-- t has `include`, and u follows it
pub record Worded (t u : List ℕ) : Type 0 where
  pub is : name_on t ≡ (after (ascii "\"") (drop_while is_space u) >>= λ v. after (ascii "\"") (drop_while in_quotes v) >>= λ w. some v)
  pub left : Suffix u t

-- and a quote, and v follows that
pub record Opened (t v : List ℕ) : Type 0 where
  pub is : name_on t ≡ (after (ascii "\"") (drop_while in_quotes v) >>= λ w. some v)
  pub left : Suffix v t

module _ (t line : List ℕ) (e : line ≡ drop_while is_space t) where
  pub no_word : after (ascii "include") line ≡ none → ◌≡◌ {A = rattle.Option Named} None (include_at t)
  unfolding include_at name_on named_in
  no_word h = rw (← e, h) refl

  pub worded : (after (ascii "include") line ≡ some (drop 7 line)) × (7 ≤ length line) → Worded t (from 7 line)
  unfolding name_on
  worded h = record {
    is = rw (← e, h.0, part_rest line 7) refl;
    left = suffix_part {u = line} (rw e (suffix_run (suffix_whole t) is_space)) 7 h.1;
  }

module _ {t u : List ℕ} (d : Worded t u) (quoted : List ℕ) (e : quoted ≡ drop_while is_space u) where
  pub no_quote : after (ascii "\"") quoted ≡ none → ◌≡◌ {A = rattle.Option Named} None (include_at t)
  unfolding include_at named_in
  no_quote h = rw (d.is, ← e, h) refl

  pub opened : (after (ascii "\"") quoted ≡ some (drop 1 quoted)) × (1 ≤ length quoted) → Opened t (from 1 quoted)
  opened h = record {
    is = d.is ∙ rw (← e, h.0, part_rest quoted 1) refl;
    left = suffix_part {u = quoted} (rw e (suffix_run d.left is_space)) 1 h.1;
  }

module _ {t v : List ℕ} (d : Opened t v) (n : ℕ) (e : n ≡ length (take_while in_quotes v)) where
  pub no_end : after (ascii "\"") (from n v) ≡ none → ◌≡◌ {A = rattle.Option Named} None (include_at t)
  unfolding include_at named_in
  no_end h = rw (d.is, ← run_rest in_quotes v n e, h) refl

  pub named : (w : List ℕ) → after (ascii "\"") (from n v) ≡ some w → Some (record { start = length t - length v; size = n }) ≡ include_at t
  unfolding include_at named_in
  named w h = rw (d.is, ← run_rest in_quotes v n e, h, ← e) refl

-- ---- The answer

-- the name that an answer points at
unfoldable pub included_name : List ℕ → rattle.Option Named → Option (List ℕ)
included_name t (Some r) = some (take r.size (drop r.start t))
included_name t None = none

-- the place lies within a text of length m
abbrev pub NamedWithin : rattle.Option Named → ℕ → Type 0
NamedWithin (Some r) m = r.start + r.size ≤ m
NamedWithin None m = Unit {0}

-- r is the include that the definition has after the `#`
pub record IncludeFound (t : List ℕ) (r : rattle.Option Named) : Type 0 where
  pub name : included_name t r ≡ include_of t
  pub inside : NamedWithin r (length t)

pub include_found : (t : List ℕ) → IncludeFound t (include_at t)
unfolding include_at name_on named_in include_of included_name
include_found t = let r = word (after (ascii "include") (drop_while is_space t)) (after_suffix _ (run t (suffix_whole t))) in record { name = r.0; inside = r.1 }
  where
    -- v gives the place, and n the name
    Agree : Option (List ℕ) → Option (List ℕ) → Type 0
    Agree v n = (included_name t (named_in (length t) v) ≡ n) × NamedWithin (named_in (length t) v) (length t)

    run : (u : List ℕ) → Suffix u t → Suffix (drop_while is_space u) t
    run u s = suffix_run s is_space

    closed : (v : List ℕ) → Suffix v t → (o : Option (List ℕ)) → Agree (o >>= λ w. some v) (o >>= λ w. some (take_while in_quotes v))
    closed v s none = (refl, tt)
    closed v s (some w) = (rw s.same (ap some (take_run in_quotes v)), omega (arith, s.most, length_take_while_le in_quotes v))

    opened : (o : Option (List ℕ)) → ((v : List ℕ) → o ≡ some v → Suffix v t)
        → Agree (o >>= λ v. after (ascii "\"") (drop_while in_quotes v) >>= λ w. some v) (o >>= λ v. after (ascii "\"") (drop_while in_quotes v) >>= λ w. some (take_while in_quotes v))
    opened none s = (refl, tt)
    opened (some v) s = closed v (s v refl) (after (ascii "\"") (drop_while in_quotes v))

    word : (o : Option (List ℕ)) → ((u : List ℕ) → o ≡ some u → Suffix u t)
        → Agree (o >>= λ u. after (ascii "\"") (drop_while is_space u) >>= λ v. after (ascii "\"") (drop_while in_quotes v) >>= λ w. some v)
        (o >>= λ u. after (ascii "\"") (drop_while is_space u) >>= λ v. after (ascii "\"") (drop_while in_quotes v) >>= λ w. some (take_while in_quotes v))
    word none s = (refl, tt)
    word (some u) s = opened (after (ascii "\"") (drop_while is_space u)) (after_suffix _ (run u (s u refl)))
