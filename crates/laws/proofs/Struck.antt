-- Striking a file off takes away just what came through it: entries and opens. Assumes nothing.
use Rattle.std.specs.Prelude.{if◌then◌else◌}
use mathlib.Core.Bool.{Bool, true, false, ◌||◌, not, or-true, or-false}
use mathlib.Core.List.{List, [], ◌∷◌, ◌++◌}
use mathlib.Core.Option.{Option, some, none}
use mathlib.Core.Path.{◌≡◌, refl, sym, ap, ◌∙◌}
use Prim.Native.Nat.{ℕ, zero, suc}
use Rattle.definition.specs.Lists.{any, filter, same}
use Rattle.definition.specs.Archive.{File, body_of, folder_of, path_of}
use Rattle.definition.specs.Text.{Line, skipped, include, entry, lines_of}
use Rattle.definition.specs.Including.{Chain, Event, opened, entered, events_of, opening, seeking, including, events, events_of_all, chain_of, Entered, entries_of}
use Rattle.definition.specs.ThirdTerm.{came_through, through_file, left_out}
use Rattle.laws.proofs.Lists.{same_eq, any_append, filter_append}

-- gs are the files fs without `file`, as far as finding can tell
pub record Lacks (fs gs : List File) (file : List ℕ) : Type 0 where
  pub gone : body_of gs file ≡ none
  pub others : (n : List ℕ) → same file n ≡ false → body_of gs n ≡ body_of fs n

-- what a file's body adds, and what the file does, with d depths left below it
abbrev pub body_events : ℕ → List File → Chain → List ℕ → List ℕ → List Event
body_events d fs ch g b = events_of (including d fs (folder_of g) (ch ++ g ∷ [])) (ch ++ g ∷ []) (lines_of b)

abbrev pub file_events : ℕ → List File → Chain → List ℕ → List Event
file_events d fs ch g = opening (ch ++ g ∷ []) (body_events d fs ch g) (body_of fs g)

module _ (file : List ℕ) where
  -- is the file on the chain?
  abbrev pub on : Chain → Bool
  on ch = any (same file) ch

  abbrev pub apart : Event → Bool
  apart e = not (on (chain_of e))

  -- what came through that file left out
  abbrev pub events_without : List Event → List Event
  events_without es = filter apart es

  on_below : (ch : Chain) (n : List ℕ) → on (ch ++ n ∷ []) ≡ (on ch || same file n)
  unfolding any
  on_below ch n = any_append (same file) ch (n ∷ []) ∙ ap (λ (b : Bool). on ch || b) (or-false (same file n))

  -- ---- Below a chain with the file on it nothing stays

  events_of_gone : (inc : List ℕ → List Event) (ch : Chain) (ls : List Line) → on ch ≡ true → ((n : List ℕ) → events_without (inc n) ≡ [])
      → events_without (events_of inc ch ls) ≡ []
  unfolding events_of filter
  events_of_gone inc ch [] h f = refl
  events_of_gone inc ch (skipped ∷ ls) h f = events_of_gone inc ch ls h f
  events_of_gone inc ch (include n ∷ ls) h f = rw (filter_append apart (inc n) (events_of inc ch ls), f n) (events_of_gone inc ch ls h f)
  events_of_gone inc ch (entry e ∷ ls) h f = rw h (events_of_gone inc ch ls h f)

  opening_gone : (ch : Chain) (r : List ℕ → List Event) (o : Option (List ℕ)) → on ch ≡ true → ((b : List ℕ) → events_without (r b) ≡ [])
      → events_without (opening ch r o) ≡ []
  unfolding opening filter
  opening_gone ch r none h f = refl
  opening_gone ch r (some b) h f = rw h (f b)

  still_on : (ch : Chain) (n : List ℕ) → on ch ≡ true → on (ch ++ n ∷ []) ≡ true
  still_on ch n h = rw (on_below ch n, h) refl

  seeking_gone : (f : List ℕ → List Event) (o : Option (List ℕ)) → ((g : List ℕ) → events_without (f g) ≡ []) → events_without (seeking f o) ≡ []
  unfolding seeking filter
  seeking_gone f none h = refl
  seeking_gone f (some g) h = h g

  including_gone : (d : ℕ) (fs : List File) (folder : List ℕ) (ch : Chain) (n : List ℕ) → on ch ≡ true → events_without (including d fs folder ch n) ≡ []
  unfolding including filter
  including_gone zero fs folder ch n h = refl
  including_gone (suc d) fs folder ch n h =
      seeking_gone (file_events d fs ch) (path_of folder n)
      (λ g.
      opening_gone (ch ++ g ∷ []) (body_events d fs ch g) (body_of fs g) (still_on ch g h)
      (λ b.
      events_of_gone (including d fs (folder_of g) (ch ++ g ∷ [])) (ch ++ g ∷ []) (lines_of b) (still_on ch g h)
      (λ m. including_gone d fs (folder_of g) (ch ++ g ∷ []) m (still_on ch g h))))

  -- ---- Elsewhere all stays but what came through the file

  events_of_struck : (inc inc' : List ℕ → List Event) (ch : Chain) (ls : List Line) → on ch ≡ false → ((n : List ℕ) → inc' n ≡ events_without (inc n))
      → events_of inc' ch ls ≡ events_without (events_of inc ch ls)
  unfolding events_of filter
  events_of_struck inc inc' ch [] h f = refl
  events_of_struck inc inc' ch (skipped ∷ ls) h f = events_of_struck inc inc' ch ls h f
  events_of_struck inc inc' ch (include n ∷ ls) h f =
      rw (filter_append apart (inc n) (events_of inc ch ls), f n, events_of_struck inc inc' ch ls h f) refl
  events_of_struck inc inc' ch (entry e ∷ ls) h f = rw (h, events_of_struck inc inc' ch ls h f) refl

  opening_struck : (ch : Chain) (r r' : List ℕ → List Event) (o : Option (List ℕ)) → on ch ≡ false → ((b : List ℕ) → r' b ≡ events_without (r b))
      → opening ch r' o ≡ events_without (opening ch r o)
  unfolding opening filter
  opening_struck ch r r' none h f = refl
  opening_struck ch r r' (some b) h f = rw (h, f b) refl

  seeking_struck : (f f' : List ℕ → List Event) (o : Option (List ℕ)) → ((g : List ℕ) → f' g ≡ events_without (f g))
      → seeking f' o ≡ events_without (seeking f o)
  unfolding seeking filter
  seeking_struck f f' none h = refl
  seeking_struck f f' (some g) h = h g

  module _ (fs gs : List File) (lacks : Lacks fs gs file) where
    Struck : ℕ → Type 0
    Struck d = (folder : List ℕ) (ch : Chain) (n : List ℕ) → on ch ≡ false → including d gs folder ch n ≡ events_without (including d fs folder ch n)

    -- an include of g, by whether g is the file
    at_file : (d : ℕ) (ch : Chain) (g : List ℕ) → same file g ≡ true → file_events d gs ch g ≡ events_without (file_events d fs ch g)
    unfolding opening
    at_file d ch g e =
        let k : on (ch ++ g ∷ []) ≡ true = rw (on_below ch g, e) (or-true (on ch)) in
        let nothing-there : body_of gs g ≡ none = rw (← same_eq file g e) lacks.gone in
        rw nothing-there
        (sym (opening_gone (ch ++ g ∷ []) (body_events d fs ch g) (body_of fs g) k
        (λ b. events_of_gone (including d fs (folder_of g) (ch ++ g ∷ [])) (ch ++ g ∷ []) (lines_of b) k (λ m. including_gone d fs (folder_of g) (ch ++ g ∷ []) m k))))

    at_other : (d : ℕ) → Struck d → (ch : Chain) (g : List ℕ) → on ch ≡ false → same file g ≡ false
        → file_events d gs ch g ≡ events_without (file_events d fs ch g)
    unfolding Struck
    at_other d ih ch g h e =
        let k : on (ch ++ g ∷ []) ≡ false = rw (on_below ch g, h, e) refl in
        rw (lacks.others g e)
        (opening_struck (ch ++ g ∷ []) (body_events d fs ch g) (body_events d gs ch g) (body_of fs g) k
        (λ b. events_of_struck (including d fs (folder_of g) (ch ++ g ∷ [])) (including d gs (folder_of g) (ch ++ g ∷ [])) (ch ++ g ∷ []) (lines_of b) k
        (λ m. ih (folder_of g) (ch ++ g ∷ []) m k)))

    including_struck : (d : ℕ) → Struck d
    unfolding including filter Struck
    including_struck zero folder ch n h = refl
    including_struck (suc d) folder ch n h =
        seeking_struck (file_events d fs ch) (file_events d gs ch) (path_of folder n) (λ g. at g (same file g) refl (including_struck d))
      where
        at : (g : List ℕ) (b : Bool) → same file g ≡ b → Struck d → file_events d gs ch g ≡ events_without (file_events d fs ch g)
        at g true e ih = at_file d ch g e
        at g false e ih = at_other d ih ch g h e

    events_struck : (d : ℕ) (t : List ℕ) → events d gs t ≡ events_without (events d fs t)
    unfolding events any Struck
    events_struck d t = events_of_struck (including d fs [] []) (including d gs [] []) [] (lines_of t) refl (λ n. including_struck d [] [] n refl)

    -- the events read with the file struck off are those read with it, less those that came through it
    pub events_of_all_struck : (d : ℕ) (ts : List (List ℕ)) → events_of_all d gs ts ≡ events_without (events_of_all d fs ts)
    unfolding events_of_all filter
    events_of_all_struck d [] = refl
    events_of_all_struck d (t ∷ ts) =
        rw (filter_append apart (events d fs t) (events_of_all d fs ts), events_struck d t, events_of_all_struck d ts) refl

  -- ---- Of the entries and the opens

  pub entries_without : (es : List Event) → entries_of (events_without es) ≡ left_out (through_file file) (entries_of es)
  unfolding filter entries_of came_through
  entries_without [] = refl
  entries_without (opened ch ∷ es) = at (on ch) (entries_without es)
    where
      at : (b : Bool) → entries_of (events_without es) ≡ left_out (through_file file) (entries_of es)
          → entries_of (if not b then opened ch ∷ events_without es else events_without es) ≡ left_out (through_file file) (entries_of es)
      at true ih = ih
      at false ih = ih
  entries_without (entered ch e ∷ es) = at (on ch) (entries_without es)
    where
      x : Entered
      x = record { chain = ch; entry = e }

      at : (b : Bool) → entries_of (events_without es) ≡ left_out (through_file file) (entries_of es)
          → entries_of (if not b then entered ch e ∷ events_without es else events_without es)
          ≡ (if not b then x ∷ left_out (through_file file) (entries_of es) else left_out (through_file file) (entries_of es))
      at true ih = ih
      at false ih = ap (λ (l : List Entered). x ∷ l) ih
