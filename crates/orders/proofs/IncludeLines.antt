-- What a main text of include lines alone meets: for each line, what the file that it looks for adds. Assumes nothing.
use Rattle.std.specs.Prelude.{if◌then◌else◌}
use mathlib.Core.Bool.{Bool, true, false, ◌&&◌}
use mathlib.Core.List.{List, [], ◌∷◌, ◌++◌, flatten, map, append-nil}
use mathlib.Core.Option.{Option, some, none, some-ne-none}
use mathlib.Core.Path.{◌≡◌, refl, sym, ap, ◌∙◌}
use Prim.Native.Nat.{ℕ, zero, suc}
use lib.Dec.{eqb}
use borrow.Author.Tests.{eqb-true}
use Rattle.definition.specs.Lists.{ascii, all, take_while, drop_while}
use Rattle.definition.specs.Parsing.{found, Parsed, at_most, many, ◌>>=◌, after}
use Rattle.definition.specs.Bytes.{newline, hash, is_space, not_newline}
use Rattle.definition.specs.Archive.{File, files_of, body_of, folder_of, path_of}
use Rattle.definition.specs.Text.{Line, skipped, include, in_quotes, include_of, directive_of, line_end, line_at, lines_of}
use Rattle.definition.specs.Including.{Event, events_of, opening, seeking, including, events, events_of_all}
use Rattle.definition.specs.Reading.{met}
use Rattle.definition.specs.Orders.{name_included, is_there, are_includes, text_of_lines}
use Rattle.laws.proofs.Lists.{not_both, and_true, drop_while_append}
use Rattle.laws.proofs.Parsing.{many_more}
use Rattle.laws.proofs.Keys.{line_shrinks}

-- ---- A line before its newline

after_append : (bs t u v : List ℕ) → after bs t ≡ some u → after bs (t ++ v) ≡ some (u ++ v)
unfolding after
after_append [] t u v e = let f : t ≡ u = cc in rw f refl
after_append (b ∷ bs) [] u v e = absurd (some-ne-none u (sym e))
after_append (b ∷ bs) (c ∷ t) u v e = at (eqb b c) e (after_append bs t u v)
  where
    at : (x : Bool) → (if x then after bs t else none) ≡ some u → (after bs t ≡ some u → after bs (t ++ v) ≡ some (u ++ v))
        → (if x then after bs (t ++ v) else none) ≡ some (u ++ v)
    at true f ih = ih f
    at false f ih = absurd (some-ne-none u (sym f))

-- what stops a run stops it there
module _ (p : ℕ → Bool) (c : ℕ) (stops : p c ≡ false) (u : List ℕ) where
  drop_while_stop : (t : List ℕ) → drop_while p (t ++ c ∷ u) ≡ drop_while p t ++ c ∷ u
  unfolding drop_while
  drop_while_stop [] = rw stops refl
  drop_while_stop (d ∷ t) = at (p d) (drop_while_stop t)
    where
      at : (b : Bool) → drop_while p (t ++ c ∷ u) ≡ drop_while p t ++ c ∷ u
          → (if b then drop_while p (t ++ c ∷ u) else d ∷ t ++ c ∷ u) ≡ (if b then drop_while p t else d ∷ t) ++ c ∷ u
      at true ih = ih
      at false ih = refl

  take_while_stop : (t : List ℕ) → take_while p (t ++ c ∷ u) ≡ take_while p t
  unfolding take_while
  take_while_stop [] = rw stops refl
  take_while_stop (d ∷ t) = at (p d) (take_while_stop t)
    where
      at : (b : Bool) → take_while p (t ++ c ∷ u) ≡ take_while p t
          → (if b then d ∷ take_while p (t ++ c ∷ u) else []) ≡ (if b then d ∷ take_while p t else [])
      at true ih = ap (λ (l : List ℕ). d ∷ l) ih
      at false ih = refl

module _ (n u : List ℕ) where
  abbrev closed : List ℕ → Option (List ℕ)
  closed v = after (ascii "\"") (drop_while in_quotes v) >>= (λ w. some (take_while in_quotes v))

  abbrev quoted : List ℕ → Option (List ℕ)
  quoted v = after (ascii "\"") (drop_while is_space v) >>= closed

  closed_append : (v : List ℕ) → closed v ≡ some n → closed (v ++ newline ∷ u) ≡ some n
  closed_append v = at (after (ascii "\"") (drop_while in_quotes v)) refl
    where
      stops : in_quotes newline ≡ false
      stops = unfold not_newline in refl

      at : (o : Option (List ℕ)) → after (ascii "\"") (drop_while in_quotes v) ≡ o → (o >>= (λ w. some (take_while in_quotes v))) ≡ some n
          → closed (v ++ newline ∷ u) ≡ some n
      at none e f = absurd (some-ne-none n (sym f))
      at (some w) e f =
          rw (drop_while_stop in_quotes newline stops u v, after_append (ascii "\"") (drop_while in_quotes v) w (newline ∷ u) e, take_while_stop in_quotes newline stops u v) f

  -- spaces, then some bytes, and then what goes on well goes on so
  spaced_append : (bs : List ℕ) (next : List ℕ → Option (List ℕ)) → ((v : List ℕ) → next v ≡ some n → next (v ++ newline ∷ u) ≡ some n)
      → (t : List ℕ) → (after bs (drop_while is_space t) >>= next) ≡ some n → (after bs (drop_while is_space (t ++ newline ∷ u)) >>= next) ≡ some n
  spaced_append bs next on t = at (after bs (drop_while is_space t)) refl
    where
      stops : is_space newline ≡ false
      stops = unfold is_space in refl

      at : (o : Option (List ℕ)) → after bs (drop_while is_space t) ≡ o → (o >>= next) ≡ some n
          → (after bs (drop_while is_space (t ++ newline ∷ u)) >>= next) ≡ some n
      at none e f = absurd (some-ne-none n (sym f))
      at (some v) e f = rw (drop_while_stop is_space newline stops u t, after_append bs (drop_while is_space t) v (newline ∷ u) e) (on v f)

  include_append : (t : List ℕ) → include_of t ≡ some n → include_of (t ++ newline ∷ u) ≡ some n
  unfolding include_of
  include_append t e = spaced_append (ascii "include") quoted (λ v. spaced_append (ascii "\"") closed closed_append v) t e

  line_ends : (t : List ℕ) → all not_newline t ≡ true → line_end (t ++ newline ∷ u) ≡ newline ∷ u
  unfolding line_end drop_while not_newline
  line_ends t h = drop_while_append not_newline t (newline ∷ u) h

  hash_read : (t : List ℕ) → all not_newline t ≡ true → include_of t ≡ some n → line_at (hash ∷ t ++ newline ∷ u) ≡ found (include n) (newline ∷ u)
  unfolding line_at directive_of
  hash_read t h e = rw (include_append t e, line_ends t h) refl

  line_read : (l : List ℕ) → name_included l ≡ some n → line_at (l ++ newline ∷ u) ≡ found (include n) (newline ∷ u)
  unfolding name_included
  line_read [] e = absurd (some-ne-none n (sym e))
  line_read (c ∷ t) e = at (eqb c hash) (all not_newline t) refl refl e
    where
      at : (a b : Bool) → eqb c hash ≡ a → all not_newline t ≡ b → (if a && b then include_of t else none) ≡ some n
          → line_at (c ∷ t ++ newline ∷ u) ≡ found (include n) (newline ∷ u)
      at true true p q f = rw (eqb-true c hash p) (hash_read t q f)
      at true false p q f = absurd (some-ne-none n (sym f))
      at false b p q f = absurd (some-ne-none n (sym f))

newline_read : (u : List ℕ) → line_at (newline ∷ u) ≡ found skipped u
unfolding line_at
newline_read u = refl

-- an include, and the line's newline
line_first : (l : List ℕ) (n u : List ℕ) → name_included l ≡ some n → lines_of (l ++ newline ∷ u) ≡ include n ∷ skipped ∷ lines_of u
unfolding lines_of
line_first l n u e =
    ap (λ (r : Parsed Line). r.items) (many_more line_at line_shrinks (l ++ newline ∷ u) (include n) (newline ∷ u) (line_read n u l e))
    ∙ ap (λ (r : Parsed Line). include n ∷ r.items) (many_more line_at line_shrinks (newline ∷ u) skipped u (newline_read u))

-- ---- What the lines add

-- the path that a line looks for
abbrev pub sought : List ℕ → Option (List ℕ)
sought l = name_included l >>= path_of []

-- a file that the main text includes, in a reading at that depth
unfoldable pub file_adds : ℕ → List File → List ℕ → List Event
file_adds zero fs file = []
file_adds (suc d) fs file =
    opening (file ∷ []) (λ body. events_of (including d fs (folder_of file) (file ∷ [])) (file ∷ []) (lines_of body)) (body_of fs file)

include_adds : (depth : ℕ) (fs : List File) (n : List ℕ) → including depth fs [] [] n ≡ seeking (file_adds depth fs) (path_of [] n)
unfolding including seeking file_adds
include_adds zero fs n = at (path_of [] n)
  where
    at : (o : Option (List ℕ)) → [] ≡ seeking (file_adds zero fs) o
    at none = refl
    at (some file) = refl
include_adds (suc d) fs n = refl

module _ (depth : ℕ) (fs : List File) where
  abbrev pub line_adds : List ℕ → List Event
  line_adds l = seeking (file_adds depth fs) (sought l)

  abbrev text_adds : List ℕ → List Event
  text_adds t = events_of (including depth fs [] []) [] (lines_of t)

  no_lines : text_adds (text_of_lines []) ≡ []
  unfolding text_of_lines lines_of many at_most events_of
  no_lines = refl

  line_adds_lem : (l n : List ℕ) (ls : List (List ℕ)) → name_included l ≡ some n
      → text_adds (text_of_lines (l ∷ ls)) ≡ seeking (file_adds depth fs) (path_of [] n) ++ text_adds (text_of_lines ls)
  unfolding text_of_lines events_of
  line_adds_lem l n ls e =
      ap (events_of (including depth fs [] []) []) (line_first l n (text_of_lines ls) e)
      ∙ ap (λ (es : List Event). es ++ text_adds (text_of_lines ls)) (include_adds depth fs n)

  lines_add : (ls : List (List ℕ)) → are_includes ls ≡ true → text_adds (text_of_lines ls) ≡ flatten (map line_adds ls)
  unfolding all flatten is_there
  lines_add [] h = no_lines
  lines_add (l ∷ ls) h =
      let a = and_true (is_there (name_included l)) (are_includes ls) h in
      at (name_included l) refl a.0 (lines_add ls a.1)
    where
      at : (o : Option (List ℕ)) → name_included l ≡ o → is_there o ≡ true → text_adds (text_of_lines ls) ≡ flatten (map line_adds ls)
          → text_adds (text_of_lines (l ∷ ls)) ≡ seeking (file_adds depth fs) (o >>= path_of []) ++ flatten (map line_adds ls)
      at none e t ih = absurd (not_both t refl)
      at (some n) e t ih = line_adds_lem l n ls e ∙ ap (λ (es : List Event). seeking (file_adds depth fs) (path_of [] n) ++ es) ih

pub lines_met : (depth : ℕ) (ls : List (List ℕ)) (archive : List ℕ) → are_includes ls ≡ true
    → met depth (text_of_lines ls ∷ []) archive ≡ flatten (map (line_adds depth (files_of archive)) ls)
unfolding events_of_all events
lines_met depth ls archive h = append-nil _ ∙ lines_add depth (files_of archive) ls h
