-- The depth of a reading (document 02 (x)): what a smaller one leaves out, and where it leaves out nothing. Assumes nothing.
use Rattle.std.specs.Prelude.{if◌then◌else◌}
use mathlib.Core.Bool.{Bool, true, false, ◌||◌}
use mathlib.Core.List.{List, [], ◌∷◌, ◌++◌}
use mathlib.Core.Option.{Option, some, none}
use mathlib.Core.Path.{◌≡◌, refl, sym, ap, ◌∙◌}
use Prim.Native.Nat.{ℕ, zero, suc, ◌+◌, ◌≤◌, ◌<◌}
use native.Mathlib.Omega.{arith}
use lib.Dec.{leb, ltb}
use lib.ListN.{length, length-append}
use borrow.Author.Tests.{le-leb, lt-leb, le-ltb, ltb-false}
use Rattle.definition.specs.Lists.{any, filter}
use Rattle.definition.specs.Limits.{greatest_depth}
use Rattle.definition.specs.Archive.{File, files_of, body_of, folder_of, path_of}
use Rattle.definition.specs.Text.{Line, skipped, include, entry, lines_of}
use Rattle.definition.specs.Including.{Chain, Event, opened, entered, events_of, opening, seeking, including, events, events_of_all, chain_of}
use Rattle.definition.specs.Reading.{met, start, too_deep, reading}
use Rattle.definition.specs.Nesting.{is_within, MeetsWithin, opens, finds, includes_where, finds_at, MeetsAll, ReadsAll, AcceptedBelow}
use Rattle.laws.proofs.Lists.{not_both, filter_append}
use Rattle.laws.proofs.Struck.{body_events, file_events}
use Rattle.laws.proofs.Limits.{limits_fewer}
use Rattle.laws.proofs.Reading.{Reads, accepted_reads, reads_outcome}

below_length : (ch : Chain) (g : List ℕ) → length (ch ++ g ∷ []) ≡ length ch + 1
below_length ch g = length-append ch (g ∷ [])

-- ---- With chains of at most k files

module _ (k : ℕ) where
  abbrev kept : List Event → List Event
  kept es = filter (is_within k) es

  -- below a longer chain nothing stays
  events_of_gone : (inc : List ℕ → List Event) (ch : Chain) (ls : List Line) → k < length ch → ((n : List ℕ) → kept (inc n) ≡ [])
      → kept (events_of inc ch ls) ≡ []
  unfolding events_of filter
  events_of_gone inc ch [] h f = refl
  events_of_gone inc ch (skipped ∷ ls) h f = events_of_gone inc ch ls h f
  events_of_gone inc ch (include n ∷ ls) h f = rw (filter_append (is_within k) (inc n) (events_of inc ch ls), f n) (events_of_gone inc ch ls h f)
  events_of_gone inc ch (entry e ∷ ls) h f = rw (lt-leb (length ch) k h) (events_of_gone inc ch ls h f)

  opening_gone : (ch : Chain) (r : List ℕ → List Event) (o : Option (List ℕ)) → k < length ch → ((b : List ℕ) → kept (r b) ≡ [])
      → kept (opening ch r o) ≡ []
  unfolding opening filter
  opening_gone ch r none h f = refl
  opening_gone ch r (some b) h f = rw (lt-leb (length ch) k h) (f b)

  seeking_gone : (f : List ℕ → List Event) (o : Option (List ℕ)) → ((g : List ℕ) → kept (f g) ≡ []) → kept (seeking f o) ≡ []
  unfolding seeking filter
  seeking_gone f none h = refl
  seeking_gone f (some g) h = h g

  including_gone : (e : ℕ) (fs : List File) (folder : List ℕ) (ch : Chain) (n : List ℕ) → k ≤ length ch → kept (including e fs folder ch n) ≡ []
  unfolding including filter
  including_gone zero fs folder ch n h = refl
  including_gone (suc e) fs folder ch n h =
      seeking_gone (file_events e fs ch) (path_of folder n)
      (λ g.
      let longer : k < length (ch ++ g ∷ []) = omega (arith, below_length ch g) in
      let long : k ≤ length (ch ++ g ∷ []) = omega (arith, below_length ch g) in
      opening_gone (ch ++ g ∷ []) (body_events e fs ch g) (body_of fs g) longer
      (λ b.
      events_of_gone (including e fs (folder_of g) (ch ++ g ∷ [])) (ch ++ g ∷ []) (lines_of b) longer
      (λ m. including_gone e fs (folder_of g) (ch ++ g ∷ []) m long)))

  -- elsewhere the lines stay, and of their includes what is kept
  events_of_kept : (inc inc' : List ℕ → List Event) (ch : Chain) (ls : List Line) → length ch ≤ k → ((n : List ℕ) → inc n ≡ kept (inc' n))
      → events_of inc ch ls ≡ kept (events_of inc' ch ls)
  unfolding events_of filter
  events_of_kept inc inc' ch [] h f = refl
  events_of_kept inc inc' ch (skipped ∷ ls) h f = events_of_kept inc inc' ch ls h f
  events_of_kept inc inc' ch (include n ∷ ls) h f =
      rw (filter_append (is_within k) (inc' n) (events_of inc' ch ls), f n, events_of_kept inc inc' ch ls h f) refl
  events_of_kept inc inc' ch (entry e ∷ ls) h f = rw (le-leb (length ch) k h, events_of_kept inc inc' ch ls h f) refl

  opening_kept : (ch : Chain) (r r' : List ℕ → List Event) (o : Option (List ℕ)) → length ch ≤ k → ((b : List ℕ) → r b ≡ kept (r' b))
      → opening ch r o ≡ kept (opening ch r' o)
  unfolding opening filter
  opening_kept ch r r' none h f = refl
  opening_kept ch r r' (some b) h f = rw (le-leb (length ch) k h, f b) refl

  seeking_kept : (f f' : List ℕ → List Event) (o : Option (List ℕ)) → ((g : List ℕ) → f g ≡ kept (f' g)) → seeking f o ≡ kept (seeking f' o)
  unfolding seeking filter
  seeking_kept f f' none h = refl
  seeking_kept f f' (some g) h = h g

  module _ (fs : List File) where
    -- d depths are left below a chain, and with it that makes k
    including_kept : (d e : ℕ) (folder : List ℕ) (ch : Chain) (n : List ℕ) → length ch + d ≡ k → d ≤ e
        → including d fs folder ch n ≡ kept (including e fs folder ch n)
    unfolding including
    including_kept zero e folder ch n h l = sym (including_gone e fs folder ch n (omega arith))
    including_kept (suc d) zero folder ch n h l = absurd (omega arith)
    including_kept (suc d) (suc e) folder ch n h l =
        seeking_kept (file_events d fs ch) (file_events e fs ch) (path_of folder n)
        (λ g.
        let fits : length (ch ++ g ∷ []) ≤ k = omega (arith, below_length ch g) in
        let left : length (ch ++ g ∷ []) + d ≡ k = omega (arith, below_length ch g) in
        opening_kept (ch ++ g ∷ []) (body_events d fs ch g) (body_events e fs ch g) (body_of fs g) fits
        (λ b.
        events_of_kept (including d fs (folder_of g) (ch ++ g ∷ [])) (including e fs (folder_of g) (ch ++ g ∷ [])) (ch ++ g ∷ []) (lines_of b) fits
        (λ m. including_kept d e (folder_of g) (ch ++ g ∷ []) m left (omega arith))))

    events_of_all_kept : (e : ℕ) (ts : List (List ℕ)) → k ≤ e → events_of_all k fs ts ≡ kept (events_of_all e fs ts)
    unfolding events_of_all events filter
    events_of_all_kept e [] l = refl
    events_of_all_kept e (t ∷ ts) l =
        rw (
          filter_append (is_within k) (events e fs t) (events_of_all e fs ts),
          ← events_of_kept (including k fs [] []) (including e fs [] []) [] (lines_of t) (omega arith) (λ n. including_kept k e [] [] n (omega arith) l),
          events_of_all_kept e ts l,
        )
        refl

pub meets_within : MeetsWithin
meets_within d e texts archive l = events_of_all_kept d (files_of archive) e texts l

-- ---- Where no text at depth d has an include that finds a file

or_neither : (a b : Bool) → (a || b) ≡ false → (a ≡ false) × (b ≡ false)
or_neither false b h = (refl, h)
or_neither true b h = absurd (not_both refl h)

module _ (fs : List File) where
  -- lines whose includes find no such file, with what an include of each name adds
  events_of_same : (test : List ℕ → List ℕ → Bool) (folder : List ℕ) (inc inc' : List ℕ → List Event) (ch : Chain) (ls : List Line)
      → ((n : List ℕ) → finds test fs (path_of folder n) ≡ false → inc n ≡ inc' n) → any (includes_where test fs folder) ls ≡ false
      → events_of inc ch ls ≡ events_of inc' ch ls
  unfolding events_of any includes_where
  events_of_same test folder inc inc' ch [] f h = refl
  events_of_same test folder inc inc' ch (skipped ∷ ls) f h = events_of_same test folder inc inc' ch ls f h
  events_of_same test folder inc inc' ch (include n ∷ ls) f h =
      let a = or_neither (finds test fs (path_of folder n)) (any (includes_where test fs folder) ls) h in
      rw (f n a.0, events_of_same test folder inc inc' ch ls f a.1) refl
  events_of_same test folder inc inc' ch (entry e ∷ ls) f h = ap (λ (l : List Event). entered ch e ∷ l) (events_of_same test folder inc inc' ch ls f h)

  -- an include that finds nothing adds nothing
  opening_none : (ch : Chain) (r : List ℕ → List Event) (o : Option (List ℕ)) → opens (λ _. true) o ≡ false → opening ch r o ≡ []
  unfolding opening opens
  opening_none ch r none h = refl
  opening_none ch r (some b) h = absurd (not_both refl h)

  seeking_none : (e : ℕ) (ch : Chain) (o : Option (List ℕ)) → finds (λ file body. true) fs o ≡ false → seeking (file_events e fs ch) o ≡ []
  unfolding seeking finds
  seeking_none e ch none h = refl
  seeking_none e ch (some g) h = opening_none (ch ++ g ∷ []) (body_events e fs ch g) (body_of fs g) h

  including_none : (e : ℕ) (folder : List ℕ) (ch : Chain) (n : List ℕ) → finds (λ file body. true) fs (path_of folder n) ≡ false
      → [] ≡ including e fs folder ch n
  unfolding including
  including_none zero folder ch n h = refl
  including_none (suc e) folder ch n h = sym (seeking_none e ch (path_of folder n) h)

  opening_same : (test : List ℕ → Bool) (ch : Chain) (r r' : List ℕ → List Event) (o : Option (List ℕ)) → ((b : List ℕ) → test b ≡ false → r b ≡ r' b)
      → opens test o ≡ false → opening ch r o ≡ opening ch r' o
  unfolding opening opens
  opening_same test ch r r' none f h = refl
  opening_same test ch r r' (some b) f h = ap (λ (l : List Event). opened ch ∷ l) (f b h)

  seeking_same : (test : List ℕ → List ℕ → Bool) (f f' : List ℕ → List Event) (o : Option (List ℕ))
      → ((g : List ℕ) → opens (test g) (body_of fs g) ≡ false → f g ≡ f' g) → finds test fs o ≡ false → seeking f o ≡ seeking f' o
  unfolding seeking finds
  seeking_same test f f' none h k = refl
  seeking_same test f f' (some g) h k = h g k

  text_same : (d e : ℕ) (folder : List ℕ) (ch : Chain) (t : List ℕ) → d ≤ e → finds_at d fs folder t ≡ false
      → events_of (including d fs folder ch) ch (lines_of t) ≡ events_of (including e fs folder ch) ch (lines_of t)
  unfolding finds_at including
  text_same zero e folder ch t l h =
      events_of_same (λ file body. true) folder (including 0 fs folder ch) (including e fs folder ch) ch (lines_of t) (λ n k. including_none e folder ch n k) h
  text_same (suc d) zero folder ch t l h = absurd (omega arith)
  text_same (suc d) (suc e) folder ch t l h =
      events_of_same (λ file body. finds_at d fs (folder_of file) body) folder (including (suc d) fs folder ch) (including (suc e) fs folder ch) ch (lines_of t)
      (λ n k.
      seeking_same (λ file body. finds_at d fs (folder_of file) body) (file_events d fs ch) (file_events e fs ch) (path_of folder n)
      (λ g j.
      opening_same (finds_at d fs (folder_of g)) (ch ++ g ∷ []) (body_events d fs ch g) (body_events e fs ch g) (body_of fs g)
      (λ b i. text_same d e (folder_of g) (ch ++ g ∷ []) b (omega arith) i) j) k) h

  events_of_all_same : (d e : ℕ) (ts : List (List ℕ)) → d ≤ e → any (finds_at d fs []) ts ≡ false → events_of_all d fs ts ≡ events_of_all e fs ts
  unfolding events_of_all events any
  events_of_all_same d e [] l h = refl
  events_of_all_same d e (t ∷ ts) l h =
      let a = or_neither (finds_at d fs [] t) (any (finds_at d fs []) ts) h in
      rw (text_same d e [] [] t l a.0, events_of_all_same d e ts l a.1) refl

pub meets_all : MeetsAll
meets_all d e texts archive l h = events_of_all_same (files_of archive) d e texts l h

shallower : (d e : ℕ) → d ≤ e → too_deep e ≡ false → too_deep d ≡ false
shallower d e l h = le-ltb greatest_depth d (omega (arith, ltb-false greatest_depth e h))

pub reads_all : ReadsAll
unfolding reading
reads_all d e texts archive contents bodies l k h = rw (meets_all d e texts archive l h, k, shallower d e l k) refl

-- ---- Accepted at a depth, so at every smaller one

pub accepted_below : AcceptedBelow
accepted_below d e texts archive contents bodies contents' bodies' l enough h =
    let r = accepted_reads e texts archive contents bodies h in
    let s : Reads d texts archive contents' bodies' =
    record {
      long = enough;
      fit = r.fit;
      is_laid_out = r.is_laid_out;
      shallow = shallower d e l r.shallow;
      limits = rw (meets_within d e texts archive l) (limits_fewer (is_within d) start (met e texts archive) r.limits);
    }
    in
    rw (reads_outcome d texts archive contents' bodies' s) refl
