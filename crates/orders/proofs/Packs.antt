-- Packs in any order: what rearranged include lines give under one key. Assumes nothing.
use Rattle.std.specs.Prelude.{if◌then◌else◌}
use mathlib.Core.Bool.{Bool, true, false}
use mathlib.Core.List.{List, [], ◌∷◌, ◌++◌, flatten}
use mathlib.Core.Option.{Option, some, none}
use mathlib.Core.Path.{◌≡◌, refl, sym, ap, ◌∙◌}
use Prim.Native.Nat.{ℕ, zero, suc}
use native.Mathlib.Omega.{arith}
use Rattle.definition.specs.Lists.{filter}
use Rattle.definition.specs.Archive.{File, body_of, folder_of, path_of}
use Rattle.definition.specs.Text.{Part, Entry, Line, skipped, include, entry, lines_of}
use Rattle.definition.specs.Including.{Chain, Event, opened, entered, events_of, opening, seeking, including, Entered, entries_of}
use Rattle.definition.specs.Reading.{plain}
use Rattle.definition.specs.Orders.{outermost}
use Rattle.laws.proofs.Lists.{filter_append}
use Rattle.orders.proofs.Agreeing.{key_eq, has_key, under}
use Rattle.orders.proofs.IncludeLines.{sought, file_adds, line_adds}
use Rattle.orders.proofs.Joined.{Each, each_both, each_join, joined}

-- ---- Entries and their outermost file

pub entries_append : (xs ys : List Event) → entries_of (xs ++ ys) ≡ entries_of xs ++ entries_of ys
unfolding entries_of
entries_append [] ys = refl
entries_append (opened ch ∷ xs) ys = entries_append xs ys
entries_append (entered ch e ∷ xs) ys = ap (λ (l : List Entered). record { chain = ch; entry = e } ∷ l) (entries_append xs ys)

module _ (file : List ℕ) where
  abbrev pub Through : Entered → Type 0
  Through x = outermost x ≡ file

  abbrev AllThrough : List Event → Type 0
  AllThrough es = Each Through (entries_of es)

  events_of_through : (inc : List ℕ → List Event) (ch : Chain) (ls : List Line) → ((n : List ℕ) → AllThrough (inc n)) → AllThrough (events_of inc (file ∷ ch) ls)
  unfolding events_of entries_of Each
  events_of_through inc ch [] f = tt
  events_of_through inc ch (skipped ∷ ls) f = events_of_through inc ch ls f
  events_of_through inc ch (include n ∷ ls) f =
      rw (entries_append (inc n) (events_of inc (file ∷ ch) ls))
      (each_join Through (entries_of (inc n)) (entries_of (events_of inc (file ∷ ch) ls)) (f n) (events_of_through inc ch ls f))
  events_of_through inc ch (entry e ∷ ls) f = (refl, events_of_through inc ch ls f)

  opening_through : (ch : Chain) (r : List ℕ → List Event) (o : Option (List ℕ)) → ((b : List ℕ) → AllThrough (r b)) → AllThrough (opening ch r o)
  unfolding opening entries_of Each
  opening_through ch r none f = tt
  opening_through ch r (some b) f = f b

  seeking_through : (f : List ℕ → List Event) (o : Option (List ℕ)) → ((g : List ℕ) → AllThrough (f g)) → AllThrough (seeking f o)
  unfolding seeking entries_of Each
  seeking_through f none h = tt
  seeking_through f (some g) h = h g

  including_through : (d : ℕ) (fs : List File) (folder : List ℕ) (ch : Chain) (n : List ℕ) → AllThrough (including d fs folder (file ∷ ch) n)
  unfolding including entries_of Each
  including_through zero fs folder ch n = tt
  including_through (suc d) fs folder ch n =
      seeking_through _ (path_of folder n)
      (λ g.
      opening_through (file ∷ ch ++ g ∷ []) _ (body_of fs g)
      (λ b.
      events_of_through (including d fs (folder_of g) (file ∷ ch ++ g ∷ [])) (ch ++ g ∷ []) (lines_of b)
      (λ m. including_through d fs (folder_of g) (ch ++ g ∷ []) m)))

  pub file_through : (d : ℕ) (fs : List File) → AllThrough (file_adds d fs file)
  unfolding file_adds entries_of Each
  file_through zero fs = tt
  file_through (suc d) fs =
      opening_through (file ∷ []) _ (body_of fs file)
      (λ b. events_of_through (including d fs (folder_of file) (file ∷ [])) [] (lines_of b) (λ m. including_through d fs (folder_of file) [] m))

-- ---- Under one key

-- x and y both have that key only if they came through one file
abbrev pub Agrees : List Part → Entered → Entered → Type 0
Agrees key x y = x.entry.parts ≡ key → y.entry.parts ≡ key → outermost x ≡ outermost y

pub record First (P : Entered → Type 0) (key : List Part) : Type 0 where
  pub it : Entered
  pub has : P it
  pub keyed : has_key key it.entry ≡ true

pub first_under : (P : Entered → Type 0) (key : List Part) (xs : List Entered) (e : Entry) (es : List Entry) → Each P xs → under key (plain xs) ≡ e ∷ es → First P key
unfolding filter Each
first_under P key [] e es h u = let z : ◌≡◌ {A = ℕ} 0 1 = cc in absurd (omega arith)
first_under P key (x ∷ xs) e es h u = at (has_key key x.entry) refl u (first_under P key xs e es h.1)
  where
    at : (b : Bool) → has_key key x.entry ≡ b → (if b then x.entry ∷ under key (plain xs) else under key (plain xs)) ≡ e ∷ es
        → (under key (plain xs) ≡ e ∷ es → First P key) → First P key
    at true k v ih = record { it = x; has = h.0; keyed = k }
    at false k v ih = ih v

plain_append : (xs ys : List Entered) → plain (xs ++ ys) ≡ plain xs ++ plain ys
plain_append [] ys = refl
plain_append (x ∷ xs) ys = ap (λ (l : List Entry). x.entry ∷ l) (plain_append xs ys)

module _ (d : ℕ) (fs : List File) where
  -- what a path gives
  abbrev pub gives : Option (List ℕ) → List Entered
  gives o = entries_of (seeking (file_adds d fs) o)

  abbrev pub line_gives : List ℕ → List Entered
  line_gives l = gives (sought l)

  pub entries_joined : (ls : List (List ℕ)) → entries_of (joined (line_adds d fs) ls) ≡ joined line_gives ls
  unfolding entries_of flatten
  entries_joined [] = refl
  entries_joined (l ∷ ls) =
      entries_append (line_adds d fs l) (joined (line_adds d fs) ls) ∙ ap (λ (xs : List Entered). line_gives l ++ xs) (entries_joined ls)

  module _ (key : List Part) where
    abbrev pub under_path : Option (List ℕ) → List Entry
    under_path o = under key (plain (gives o))

    abbrev pub under_line : List ℕ → List Entry
    under_line l = under_path (sought l)

    pub under_joined : (ls : List (List ℕ)) → under key (plain (joined line_gives ls)) ≡ joined under_line ls
    unfolding filter flatten
    under_joined [] = refl
    under_joined (l ∷ ls) =
        ap (under key) (plain_append (line_gives l) (joined line_gives ls))
        ∙ filter_append (has_key key) (plain (line_gives l)) (plain (joined line_gives ls))
        ∙ ap (λ (es : List Entry). under_line l ++ es) (under_joined ls)

    -- two paths that both give something under it are one
    pub files_one : (f g : List ℕ) → First (λ x. Each (Agrees key x) (gives (some g)) × Through f x) key → (e : Entry) (es : List Entry)
        → under_path (some g) ≡ e ∷ es → f ≡ g
    unfolding seeking
    files_one f g a e es u =
        let b = first_under (λ y. Agrees key a.it y × Through g y) key (gives (some g)) e es
        (each_both (Agrees key a.it) (Through g) (gives (some g)) a.has.0 (file_through g d fs)) u in
        sym a.has.1
        ∙ b.has.0 (sym (key_eq key a.it.entry.parts a.keyed)) (sym (key_eq key b.it.entry.parts b.keyed))
        ∙ b.has.1
