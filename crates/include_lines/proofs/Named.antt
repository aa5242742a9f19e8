-- The includes by their places are the definition's. Assumes nothing.
use Rattle.std.specs.Prelude.{Option, Some, None}
use mathlib.Core.Bool.{Bool, true, false}
use mathlib.Core.List.{List, [], ◌∷◌, ◌++◌, map, map-append}
use mathlib.Core.Path.{◌≡◌, refl, sym, ap, ◌∙◌}
use Prim.Native.Nat.{ℕ, zero, suc, ◌+◌, ◌-◌, ◌≤◌, ◌<◌}
use native.Mathlib.Omega.{arith}
use lib.ListN.{length, take, drop, drop_of_length-le}
use lib.Dec.{ltb}
use lib.Seq.{drop-drop}
use borrow.Author.Tests.{ltb-true, ltb-false}
use Rattle.definition.specs.Parsing.{found}
use Rattle.definition.specs.Text.{skipped, include, entry, line_at, lines_of}
use Rattle.definition.specs.Text as text
use Rattle.laws.proofs.Parsing.{many_stop, many_more}
use Rattle.laws.proofs.Keys.{line_shrinks}
use Rattle.parser.specs.Putting.{entry_from, line_after}
use Rattle.lines.specs.Places.{line_in}
use Rattle.lines.specs.declared.Directive.{Directive}
use Rattle.lines.specs.declared.Line.{Line}
use Rattle.lines.specs.declared.Line.TheVariants.{Skip, Include, Entry}
use Rattle.lines.proofs.Lined.{Lined}
use Rattle.include_lines.specs.Includes.{included_by, includes_of, name_in, taken, placed, includes_from, starting_with, naming}
use Rattle.include_lines.proofs.Passing.{entry_found, line_is, line_takes, line_turn, looking_first, looking_done}

pub lines_end : lines_of [] ≡ []
unfolding lines_of line_at
lines_end = ap (λ p. p.items) (many_stop line_at line_shrinks [] refl)

pub lines_step : (t : List ℕ) (l : text.Line) (u : List ℕ) → line_at t ≡ found l u → lines_of t ≡ l ∷ lines_of u
unfolding lines_of
lines_step t l u e = ap (λ p. p.items) (many_more line_at line_shrinks t l u e)

-- the name of the line at `at`, if it is an include
unfoldable named : ℕ → List ℕ → Line → List (List ℕ)
named at t l = map (name_in t) (placed at l)

includes_step : (t : List ℕ) (at : ℕ) (l : Line) → Lined (drop at t) (line_at (drop at t)) l
    → named at t l ++ includes_of (drop (taken (drop at t) l) (drop at t)) ≡ includes_of (drop at t)
unfolding named placed taken includes_of included_by
includes_step t at (Skip n) l = rw (lines_step (drop at t) skipped (drop n (drop at t)) l.is) refl
includes_step t at (Include d) l =
    rw (lines_step (drop at t) (include (take d.size (drop d.start (drop at t)))) (drop d.end (drop at t)) l.is, drop-drop d.start at t) refl
includes_step t at (Entry r) l =
    rw (lines_step (drop at t) (entry (entry_from (drop at t) r.value)) (drop (line_after (drop at t) r.value) (drop at t)) (entry_found (drop at t) l)) refl

names_end : (t : List ℕ) (from : ℕ) → length t ≤ from → map (name_in t) (includes_from from t) ≡ includes_of (drop from t)
unfolding includes_of included_by
names_end t from h = ap (map (name_in t)) (looking_done (looking_first t from) h) ∙ rw (drop_of_length-le t h, lines_end) refl

-- in k lines or fewer
names_in : (k : ℕ) (t : List ℕ) (from : ℕ) → length t ≤ from + k → map (name_in t) (includes_from from t) ≡ includes_of (drop from t)
unfolding named
names_in zero t from h = names_end t from (omega arith)
names_in (suc k) t from h = by (ltb from (length t)) refl (names_in k t)
  where
    onward : from < length t → (l : Line) → l ≡ line_in (take (length t - from) (drop from t))
        → ((at : ℕ) → length t ≤ at + k → map (name_in t) (includes_from at t) ≡ includes_of (drop at t)) → map (name_in t) (includes_from from t) ≡ includes_of (drop from t)
    onward q l e ih =
        ap (map (name_in t)) (line_turn t from q e)
        ∙ map-append (name_in t) (placed from l) (includes_from (from + taken (drop from t) l) t)
        ∙ ap (λ ns. named from t l ++ ns)
        (ih (from + taken (drop from t) l) (omega (arith, (line_takes t from q e).some)) ∙ ap includes_of (sym (drop-drop (taken (drop from t) l) from t)))
        ∙ includes_step t from l (line_is t from q e)

    by : (b : Bool) → ltb from (length t) ≡ b
        → ((at : ℕ) → length t ≤ at + k → map (name_in t) (includes_from at t) ≡ includes_of (drop at t)) → map (name_in t) (includes_from from t) ≡ includes_of (drop from t)
    by true e ih = onward (ltb-true from (length t) e) (line_in (take (length t - from) (drop from t))) refl ih
    by false e ih = names_end t from (ltb-false from (length t) e)

pub names_are : (t : List ℕ) (from : ℕ) → map (name_in t) (includes_from from t) ≡ includes_of (drop from t)
names_are t from = names_in (length t) t from (omega arith)

pub names_next : (t : List ℕ) (from : ℕ) (r : Option Directive) → includes_from from t ≡ starting_with t r → includes_of (drop from t) ≡ naming t r
names_next t from (Some d) e = sym (names_are t from) ∙ ap (map (name_in t)) e ∙ ap (λ ns. take d.size (drop d.start t) ∷ ns) (names_are t d.end)
names_next t from None e = sym (names_are t from) ∙ ap (map (name_in t)) e
