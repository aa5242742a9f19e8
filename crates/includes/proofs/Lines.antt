-- A text's events, line by line, as a run meets them. Assumes nothing.
use mathlib.Core.List.{List, [], ◌∷◌, ◌++◌}
use mathlib.Core.Option.{Option, some, none}
use mathlib.Core.Path.{◌≡◌, refl, ap}
use Prim.Native.Nat.{ℕ, suc, ◌-◌, ◌≤◌, ◌<◌}
use native.Mathlib.Omega.{arith}
use borrow.Author.Tests.{le-leb, lt-leb}
use Rattle.definition.specs.Limits.{most_opens}
use Rattle.definition.specs.Parsing.{found}
use Rattle.definition.specs.Archive.{File, body_of, folder_of, path_of}
use Rattle.definition.specs.Text.{Entry, skipped, include, entry, line_at, lines_of}
use Rattle.definition.specs.Including.{Chain, events_of, opening, seeking, including, origin_of}
use Rattle.laws.proofs.Parsing.{many_stop}
use Rattle.laws.proofs.Keys.{line_shrinks}
use Rattle.archive_find.proofs.Finding.{Absent}
use Rattle.image.specs.Running.{World, world, Ran, went, stopped, put, counted, open_one, and_then, run}
use Rattle.image.proofs.Runs.{run_append}
use Rattle.plain_lines.proofs.Lines.{lines_step, line_enters, line_skips}
use Rattle.includes.specs.Texts.{text_events}

pub lines_end : lines_of [] ≡ []
unfolding lines_of line_at
lines_end = ap (λ p. p.items) (many_stop line_at line_shrinks [] refl)

module _ (d : ℕ) (fs : List File) (folder : List ℕ) (ch : Chain) (w : World) where
  abbrev rest : List ℕ → World → Ran
  rest u v = run fs v (text_events d fs folder ch u)

  pub text_end : run fs w (text_events d fs folder ch []) ≡ went w
  unfolding text_events events_of run
  text_end = rw lines_end refl

  module _ (t u : List ℕ) where
    pub text_skips : line_at t ≡ found skipped u → rest t w ≡ rest u w
    unfolding text_events
    text_skips e = line_skips fs (including d fs folder ch) ch w t u e

    pub text_enters : (x : Entry) → line_at t ≡ found (entry x) u → rest t w ≡ and_then (put (origin_of fs ch) w x) (rest u)
    unfolding text_events
    text_enters x e = line_enters fs (including d fs folder ch) ch w t u x e

    pub text_includes : (n : List ℕ) → line_at t ≡ found (include n) u → rest t w ≡ and_then (run fs w (including d fs folder ch n)) (rest u)
    unfolding text_events events_of
    text_includes n e =
        rw (lines_step t (include n) u e)
        (run_append fs (including d fs folder ch n) (events_of (including d fs folder ch) ch (lines_of u)) w)

-- ---- An include, by what is found

module _ (fs : List File) (folder : List ℕ) (ch : Chain) (n : List ℕ) (w : World) where
  pub include_deep : went w ≡ run fs w (including 0 fs folder ch n)
  unfolding including run
  include_deep = refl

  module _ (d : ℕ) (h : 0 < d) where
    down : d ≡ suc (d - 1)
    down = omega arith

    -- with a depth left, an include is what is sought
    sought : including d fs folder ch n
        ≡ seeking (λ file. opening (ch ++ file ∷ []) (λ body. text_events (d - 1) fs (folder_of file) (ch ++ file ∷ []) body) (body_of fs file)) (path_of folder n)
    unfolding including text_events
    sought = let back : suc (d - 1) - 1 ≡ d - 1 = omega arith in rw (down, back) refl

    pub include_absent : Absent fs (path_of folder n) → went w ≡ run fs w (including d fs folder ch n)
    unfolding seeking opening run
    include_absent e = rw sought (at (path_of folder n) e)
      where
        at : (o : Option (List ℕ)) → Absent fs o
            → went w ≡ run fs w (seeking (λ file. opening (ch ++ file ∷ []) (λ body. text_events (d - 1) fs (folder_of file) (ch ++ file ∷ []) body) (body_of fs file)) o)
        at none e = refl
        at (some file) e = rw e refl

    module _ (file : List ℕ) (p : path_of folder n ≡ some file) (b : List ℕ) (e : body_of fs file ≡ some b) where
      pub include_full : most_opens ≤ w.totals.opens → stopped 4 w.words w.bytes ≡ run fs w (including d fs folder ch n)
      unfolding seeking opening run open_one and_then
      include_full k = rw (sought, p, e, le-leb most_opens w.totals.opens k) refl

      pub include_reads : w.totals.opens < most_opens
          → run fs (world (counted w.totals) w.words w.bytes) (text_events (d - 1) fs (folder_of file) (ch ++ file ∷ []) b)
          ≡ run fs w (including d fs folder ch n)
      unfolding seeking opening run open_one and_then
      include_reads k = rw (sought, p, e, lt-leb most_opens w.totals.opens k) refl
