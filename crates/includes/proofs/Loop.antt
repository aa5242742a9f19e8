-- The loop over a text's lines: what was read so far, and what is left. Assumes nothing.
use Rattle.std.specs.Prelude.{Ok, Err}
use mathlib.Core.List.{List, [], ◌∷◌}
use mathlib.Core.Path.{◌≡◌, refl, sym, ◌∙◌}
use Prim.Native.Nat.{ℕ, ◌+◌, ◌-◌, ◌≤◌, ◌<◌}
use native.Mathlib.Omega.{arith}
use lib.ListN.{length, take, drop}
use Rattle.definition.specs.Parsing.{found}
use Rattle.definition.specs.Archive.{File}
use Rattle.definition.specs.Text.{Line, skipped, include, entry, line_at, pieces, resource_of}
use Rattle.definition.specs.Including.{Chain, including, origin_of}
use Rattle.laws.proofs.Lists.{part_rest, length_part_rest}
use Rattle.laws.proofs.Keys.{line_shrinks}
use Rattle.image.specs.Running.{World, world, Room, went, stopped, put, and_then, run, answered}
use Rattle.image.specs.declared.Totals.{Totals}
use Rattle.refusal.specs.Numbers.{number}
use Rattle.refusal.specs.declared.Refusal.{Refusal}
use Rattle.image.proofs.Runs.{put_room, run_room}
use Rattle.lines.specs.declared.Directive.{Directive}
use Rattle.lines.specs.declared.Resource.{Resource}
use Rattle.lines.proofs.Lined.{Skips, Includes, Enters}
use Rattle.parser.specs.Putting.{entry_from, Puts}
use Rattle.parser.proofs.Entries.{puts_next, puts_inside}
use Rattle.plain_lines.specs.Lines.{reached, plain_lines}
use Rattle.plain_lines.specs.declared.Ahead.{Ahead}
use Rattle.plain_lines.proofs.Lines.{ahead, Goes, plain_goes}
use Rattle.includes.specs.Texts.{text_events}
use Rattle.includes.proofs.Lines.{text_end, text_skips, text_enters, text_includes}

-- the lines of a text of the reading stand in no file
pub stands_main : (fs : List File) → origin_of fs [] ≡ 0
unfolding origin_of
stands_main fs = refl

-- reading all of t from w₀ comes to the same as reading the rest from here
pub record Reading (origin d : ℕ) (fs : List File) (folder t : List ℕ) (w₀ : World) (s : Totals) (c b rest : List ℕ) : Type 0 where
  pub same : (ch : Chain) → origin_of fs ch ≡ origin → run fs w₀ (text_events d fs folder ch t) ≡ run fs (world s c b) (text_events d fs folder ch rest)
  pub room : Room s c b
  pub words_same : length c ≡ length w₀.words
  pub bytes_same : length b ≡ length w₀.bytes
  pub rest_most : length rest ≤ length t

pub reading_first : {origin d : ℕ} {fs : List File} {folder t : List ℕ} (s : Totals) (c b : List ℕ) → Room s c b → Reading origin d fs folder t (world s c b) s c b t
reading_first s c b r = record { same = λ ch o. refl; room = r; words_same = refl; bytes_same = refl; rest_most = omega arith }

-- a name in the middle of a line, as the code takes it
part_name : (t : List ℕ) (a l : ℕ) → take (a + l - a) (drop a t) ≡ take l (drop a t)
part_name t a l = let e : a + l - a ≡ l = omega arith in rw e refl

-- a line takes a byte or more
shorter : (t : List ℕ) (l : Line) (n : ℕ) → line_at t ≡ found l (drop n t) → length (take (length t - n) (drop n t)) < length t
shorter t l n e = rw (part_rest t n) (line_shrinks t l (drop n t) e)

module _ {origin d : ℕ} {fs : List File} {folder t : List ℕ} {w₀ : World} {s : Totals} {c b rest : List ℕ} (r : Reading origin d fs folder t w₀ s c b rest) where
  abbrev after : ℕ → List ℕ
  after n = take (length rest - n) (drop n rest)

  pub reading_done : length rest ≤ 0 → (ch : Chain) → origin_of fs ch ≡ origin → answered (Ok s) c b ≡ run fs w₀ (text_events d fs folder ch t)
  unfolding answered
  reading_done h ch o = sym (r.same ch o ∙ at rest h)
    where
      at : (u : List ℕ) → length u ≤ 0 → run fs (world s c b) (text_events d fs folder ch u) ≡ went (world s c b)
      at [] h = text_end d fs folder ch (world s c b)
      at (x ∷ u) h = absurd (omega arith)

  -- ---- Lines of the common form

  module _ {c' b' : List ℕ} {a : Ahead} (e : reached a c' b' ≡ plain_lines origin rest s.entries s.used c b) where
    goes : Goes origin rest (world s c b) c' b' a
    goes = plain_goes origin rest s c b r.room e

    pub plain_inside : a.taken ≤ length rest
    plain_inside = goes.inside

    pub reading_plain : length c' ≡ length c → length b' ≡ length b → Reading origin d fs folder t w₀ (ahead s a) c' b' (after a.taken)
    unfolding text_events
    reading_plain hc hb = record {
      same = λ ch o. r.same ch o ∙ rw (part_rest rest a.taken) (goes.same fs (including d fs folder ch) ch o);
      room = goes.room;
      words_same = hc ∙ r.words_same;
      bytes_same = hb ∙ r.bytes_same;
      rest_most = omega (arith, length_part_rest rest a.taken, r.rest_most);
    }

  -- ---- A line that is passed over

  module _ {n : ℕ} (l : Skips rest (line_at rest) n) where
    pub skip_less : length (after n) < length rest
    skip_less = shorter rest skipped n l.is

    pub reading_skip : Reading origin d fs folder t w₀ s c b (after n)
    reading_skip = record {
      same = λ ch o. r.same ch o ∙ text_skips d fs folder ch (world s c b) rest (after n) (rw (part_rest rest n) l.is);
      room = r.room;
      words_same = r.words_same;
      bytes_same = r.bytes_same;
      rest_most = omega (arith, skip_less, r.rest_most);
    }

  -- ---- An include

  module _ {i : Directive} (l : Includes rest (line_at rest) i) where
    abbrev named : List ℕ
    named = take (i.start + i.size - i.start) (drop i.start rest)

    included : (ch : Chain) → run fs (world s c b) (text_events d fs folder ch rest)
        ≡ and_then (run fs (world s c b) (including d fs folder ch named)) (λ v. run fs v (text_events d fs folder ch (after i.end)))
    included ch = text_includes d fs folder ch (world s c b) rest (after i.end) named (rw (part_rest rest i.end, part_name rest i.start i.size) l.is)

    pub include_less : length (after i.end) < length rest
    include_less = shorter rest (include (take i.size (drop i.start rest))) i.end l.is

    pub reading_include : (s' : Totals) (c' b' : List ℕ) → ((ch : Chain) → answered (Ok s') c' b' ≡ run fs (world s c b) (including d fs folder ch named))
        → length c' ≡ length c → length b' ≡ length b → Reading origin d fs folder t w₀ s' c' b' (after i.end)
    unfolding answered and_then
    reading_include s' c' b' f hc hb = record {
      same = λ ch o. r.same ch o ∙ included ch ∙ rw (← f ch) refl;
      room = run_room fs (including d fs folder [] named) (world s c b) (world s' c' b') r.room (sym (f []));
      words_same = hc ∙ r.words_same;
      bytes_same = hb ∙ r.bytes_same;
      rest_most = omega (arith, include_less, r.rest_most);
    }

    pub include_stops : (k : Refusal) (c' b' : List ℕ) → ((ch : Chain) → answered (Err k) c' b' ≡ run fs (world s c b) (including d fs folder ch named))
        → (ch : Chain) → origin_of fs ch ≡ origin → answered (Err k) c' b' ≡ run fs w₀ (text_events d fs folder ch t)
    unfolding answered and_then
    include_stops k c' b' f ch o = sym (r.same ch o ∙ included ch ∙ rw (← f ch) refl)

  -- ---- An entry

  module _ {q : Resource} (l : Enters rest (line_at rest) q) where
    entry_line : line_at rest ≡ found (entry (entry_from rest q.value)) (drop 1 (pieces (drop q.value rest)).rest)
    unfolding resource_of
    entry_line = l.is

    module _ {s' : Totals} {c' b' : List ℕ} {n : ℕ} (p : Puts rest q.value origin (world s c b) c' b' n s') where
      here : line_at rest ≡ found (entry (entry_from rest q.value)) (drop n rest)
      here = entry_line ∙ rw (puts_next l.inside p) refl

      pub entry_inside : n ≤ length rest
      entry_inside = puts_inside l.inside p

      pub entry_less : length (after n) < length rest
      entry_less = shorter rest (entry (entry_from rest q.value)) n here

      pub reading_entry : length c' ≡ length c → length b' ≡ length b → Reading origin d fs folder t w₀ s' c' b' (after n)
      unfolding and_then
      reading_entry hc hb = record {
        same =
            λ ch o. r.same ch o
            ∙ text_enters d fs folder ch (world s c b) rest (after n) (entry_from rest q.value) (rw (part_rest rest n) here)
            ∙ rw (o, p.is) refl;
        room = put_room origin (world s c b) (entry_from rest q.value) (world s' c' b') r.room p.is;
        words_same = hc ∙ r.words_same;
        bytes_same = hb ∙ r.bytes_same;
        rest_most = omega (arith, entry_less, r.rest_most);
      }

    pub entry_stops : (k : Refusal) (c' b' : List ℕ) → put origin (world s c b) (entry_from rest q.value) ≡ stopped (number k) c' b'
        → (ch : Chain) → origin_of fs ch ≡ origin → answered (Err k) c' b' ≡ run fs w₀ (text_events d fs folder ch t)
    unfolding answered and_then
    entry_stops k c' b' p ch o =
        sym (r.same ch o ∙ text_enters d fs folder ch (world s c b) rest (drop 1 (pieces (drop q.value rest)).rest) (entry_from rest q.value) entry_line ∙ rw (o, p) refl)
