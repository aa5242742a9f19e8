-- Lines of the common form, one after another: reading all of a text comes to the same as reading the rest. Assumes nothing.
use Rattle.std.specs.Prelude.{Option, Some, None, if◌then◌else◌}
use mathlib.Core.Bool.{Bool, true, false, ◌&&◌}
use mathlib.Core.List.{List, [], ◌∷◌}
use mathlib.Core.Path.{◌≡◌, refl, sym, ap, ◌∙◌}
use Prim.Native.Nat.{ℕ, zero, suc, ◌+◌, ◌-◌, ◌≤◌, ◌<◌}
use native.Mathlib.Omega.{arith}
use lib.Dec.{eqb, ltb, leb}
use lib.ListN.{length, get_or, drop, length-drop}
use lib.Seq.{drop-drop}
use borrow.Author.Tests.{eqb-true, eqb-false, ltb-true, leb-true, leb-false}
use Rattle.definition.specs.Lists.{take_while, drop_while}
use Rattle.definition.specs.Limits.{most_entries, body_bytes, contents_words}
use Rattle.definition.specs.Parsing.{found}
use Rattle.definition.specs.Bytes.{newline, exclamation, not_newline}
use Rattle.definition.specs.Archive.{File}
use Rattle.definition.specs.Text.{Entry, Line, skipped, entry, line_end, line_at, lines_of}
use Rattle.definition.specs.Including.{Chain, Event, events_of, origin_of}
use Rattle.definition.specs.Reading.{size_of}
use Rattle.laws.proofs.Lists.{and_true, part_rest, drop_run, length_take_while_le}
use Rattle.laws.proofs.Parsing.{many_more}
use Rattle.laws.proofs.Keys.{line_shrinks}
use Rattle.image.specs.Rows.{with_row}
use Rattle.image.specs.Running.{World, world, Room, went, row_for, put, and_then, run}
use Rattle.image.specs.declared.Totals.{Totals}
use Rattle.image.proofs.Runs.{put_room}
use Rattle.parser.proofs.Entries.{put_fits}
use Rattle.plain_keys.specs.Ended.{Ended}
use Rattle.plain_keys.proofs.Ends.{ended_rest}
use Rattle.plain_entries.specs.Entries.{plain_line, with_line}
use Rattle.plain_entries.specs.declared.EntryLine.{EntryLine}
use Rattle.plain_entries.proofs.Entries.{Takes, Taken, line_takes}
use Rattle.plain_lines.specs.Lines.{over_at, Reached, reached, to, over_on, line_on, lines_from, readable, plain_lines}
use Rattle.plain_lines.specs.declared.Ahead.{Ahead}

-- ---- A line, as a run meets it

pub lines_step : (t : List ℕ) (l : Line) (u : List ℕ) → line_at t ≡ found l u → lines_of t ≡ l ∷ lines_of u
unfolding lines_of
lines_step t l u e = ap (λ p. p.items) (many_more line_at line_shrinks t l u e)

pub line_enters : (fs : List File) (including : List ℕ → List Event) (ch : Chain) (w : World) (t u : List ℕ) (x : Entry) → line_at t ≡ found (entry x) u
    → run fs w (events_of including ch (lines_of t)) ≡ and_then (put (origin_of fs ch) w x) (λ v. run fs v (events_of including ch (lines_of u)))
unfolding events_of run
line_enters fs including ch w t u x e = rw (lines_step t (entry x) u e) refl

pub line_skips : (fs : List File) (including : List ℕ → List Event) (ch : Chain) (w : World) (t u : List ℕ) → line_at t ≡ found skipped u
    → run fs w (events_of including ch (lines_of t)) ≡ run fs w (events_of including ch (lines_of u))
unfolding events_of
line_skips fs including ch w t u e = rw (lines_step t skipped u e) refl

-- ---- A line that is passed over

-- a line of n bytes at the front of t is passed over; 0 says nothing
pub record PassedOver (t : List ℕ) (n : ℕ) : Type 0 where
  pub is : 0 < n → line_at t ≡ found skipped (drop n t)
  pub inside : n ≤ length t

other_over : (t : List ℕ) → PassedOver t 0
other_over t = record { is = λ h. absurd (omega arith); inside = omega arith }

empty_over : (t : List ℕ) → 0 < length t → get_or t 0 0 ≡ newline → PassedOver t 1
unfolding line_at
empty_over [] h e = absurd (omega arith)
empty_over (c ∷ t) h e = record { is = λ k. rw e refl; inside = omega arith }

comment_over : (t : List ℕ) → 0 < length t → get_or t 0 0 ≡ exclamation → (n : ℕ) → n ≡ length (take_while not_newline t) → PassedOver t n
unfolding line_at line_end not_newline drop_while
comment_over [] h e n f = absurd (omega arith)
comment_over (c ∷ t) h e n f =
    let left : drop n (c ∷ t) ≡ drop_while not_newline (c ∷ t) = ap (λ (k : ℕ). drop k (c ∷ t)) f ∙ drop_run not_newline (c ∷ t) in
    record { is = λ k. rw (left, e) refl; inside = omega (arith, length_take_while_le not_newline (c ∷ t)) }

pub over_passed : (t : List ℕ) → 0 < length t → PassedOver t (over_at t)
unfolding over_at
over_passed t h = at (eqb (get_or t 0 0) newline) refl (eqb (get_or t 0 0) exclamation) refl
  where
    at : (x : Bool) → eqb (get_or t 0 0) newline ≡ x → (y : Bool) → eqb (get_or t 0 0) exclamation ≡ y → PassedOver t (if x then 1 else if y then length (take_while not_newline t) else 0)
    at true e y f = empty_over t h (eqb-true (get_or t 0 0) newline e)
    at false e true f = comment_over t h (eqb-true (get_or t 0 0) exclamation f) (length (take_while not_newline t)) refl
    at false e false f = other_over t

-- ---- Where a line stands

-- so much of t is read, and there is room for the rest
pub record Stands (t c b : List ℕ) (taken used : ℕ) : Type 0 where
  pub inside : taken ≤ length t
  pub fits : used + (length t - taken) ≤ length b
  pub words_long : length c ≡ contents_words
  pub bytes_long : length b ≡ body_bytes

module _ {t c b : List ℕ} {taken used : ℕ} (p : Stands t c b taken used) (h : taken < length t) where
  rest_some : 0 < length (drop taken t)
  rest_some = omega (arith, h, length-drop taken t)

  pub over_inside : taken + over_at (drop taken t) ≤ length t
  over_inside = omega (arith, (over_passed (drop taken t) rest_some).inside, length-drop taken t, h)

  module _ {store' : List ℕ} {r : EntryLine} (l : Takes (drop taken t) b used store' r) where
    pub line_inside : taken + r.taken ≤ length t
    line_inside = omega (arith, l.inside, length-drop taken t, h)

    -- the row's numbers are small, and so are the totals
    pub line_room : used + (r.key + r.value) ≤ body_bytes
    line_room = omega (arith, l.short, line_inside, p.fits, p.bytes_long)

-- a line, which the rest of a text that ends with a newline begins with
pub line_at_lem : {t : List ℕ} → Ended t → (taken : ℕ) → taken < length t → (b : List ℕ) (used : ℕ)
    → Taken (drop taken t) b used (with_line (drop taken t) b used) (plain_line (drop taken t))
line_at_lem {t} e taken h b used = line_takes (rw (part_rest t taken) at (ended_rest e taken h)) b used

-- ---- The lines

-- the totals after lines that open nothing
abbrev pub ahead : Totals → Ahead → Totals
ahead s r = record { opens = s.opens; entries = r.entries; used = r.used }

-- reading all of t from w comes to the same as reading the rest from here, whatever the archive and whatever includes add, in every chain of
-- that origin
pub record Goes (origin : ℕ) (t : List ℕ) (w : World) (c b : List ℕ) (r : Ahead) : Type 0 where
  pub same : (fs : List File) (including : List ℕ → List Event) (chain : Chain) → origin_of fs chain ≡ origin
      → run fs w (events_of including chain (lines_of t)) ≡ run fs (world (ahead w.totals r) c b) (events_of including chain (lines_of (drop r.taken t)))
  pub room : Room (ahead w.totals r) c b
  pub inside : r.taken ≤ length t

abbrev GoesTo : ℕ → List ℕ → World → Reached → Type 0
GoesTo origin t w z = Goes origin t w z.words z.bytes z.ahead

-- so far the lines go, and there is room for the rest of the text
record Going (origin : ℕ) (t : List ℕ) (w : World) (c b : List ℕ) (taken entries used : ℕ) : Type 0 where
  pub goes : Goes origin t w c b (to taken entries used)
  pub fits : used + (length t - taken) ≤ length b

-- none is read
goes_first : (origin : ℕ) (t : List ℕ) (s : Totals) (c b : List ℕ) → Room s c b → Goes origin t (world s c b) c b (to 0 s.entries s.used)
goes_first origin t s c b r = record { same = λ fs including ch o. refl; room = r; inside = omega arith }

going_first : (origin : ℕ) (t : List ℕ) (s : Totals) (c b : List ℕ) → Room s c b → length t ≤ length b - s.used → Going origin t (world s c b) c b 0 s.entries s.used
going_first origin t s c b r h = record { goes = goes_first origin t s c b r; fits = omega (arith, r.used_most, r.bytes_long) }

module _ {origin : ℕ} {t : List ℕ} {w : World} {c b : List ℕ} {taken entries used : ℕ} (g : Going origin t w c b taken entries used) (h : taken < length t) where
  stands : Stands t c b taken used
  stands = record { inside = g.goes.inside; fits = g.fits; words_long = g.goes.room.words_long; bytes_long = g.goes.room.bytes_long }

  -- a line is passed over
  going_over : 0 < over_at (drop taken t) → Going origin t w c b (taken + over_at (drop taken t)) entries used
  going_over some =
      let n = over_at (drop taken t) in
      let here : line_at (drop taken t) ≡ found skipped (drop (taken + n) t) = rw (drop-drop n taken t) at ((over_passed (drop taken t) (rest_some stands h)).is some) in
      record {
        goes = record {
          same =
              λ fs including ch o. g.goes.same fs including ch o
              ∙ line_skips fs including ch (world (ahead w.totals (to taken entries used)) c b) (drop taken t) (drop (taken + n) t) here;
          room = g.goes.room;
          inside = over_inside stands h;
        };
        fits = omega (arith, g.fits);
      }

  -- a line is stored
  module _ (less : entries < most_entries) {b' : List ℕ} {r : EntryLine} (l : Takes (drop taken t) b used b' r) where
    abbrev s : Totals
    s = ahead w.totals (to taken entries used)

    abbrev c' : List ℕ
    c' = with_row c entries (record { start = used; key_length = r.key; value_length = r.value }) origin

    abbrev next : Totals
    next = ahead w.totals (to (taken + r.taken) (entries + 1) (used + (r.key + r.value)))

    here : line_at (drop taken t) ≡ found (entry l.entry) (drop (taken + r.taken) t)
    here = rw (drop-drop r.taken taken t) at l.is

    size : size_of l.entry ≡ r.key + r.value
    size = omega (arith, l.key_length_lem, l.value_length_lem)

    words_are : with_row c entries (row_for used l.entry) origin ≡ c'
    words_are = rw (l.key_length_lem, l.value_length_lem) refl

    stored_is : put origin (world s c b) l.entry ≡ went (world next c' b')
    stored_is =
        let used_is : used + size_of l.entry ≡ used + (r.key + r.value) = ap (λ (n : ℕ). used + n) size in
        put_fits origin s c b l.entry l.few less (omega (arith, line_room stands h l, size))
        ∙ (λ i. went (record {
          totals = record { opens = w.totals.opens; entries = entries + 1; used = used_is i };
          words = words_are i;
          bytes = sym l.stored i;
        }))

    going_next : Going origin t w c' b' (taken + r.taken) (entries + 1) (used + (r.key + r.value))
    unfolding and_then
    going_next =
        let room = put_room origin (world s c b) l.entry (world next c' b') g.goes.room stored_is in
        record {
          goes = record {
            same =
                λ fs including ch o. g.goes.same fs including ch o
                ∙ line_enters fs including ch (world s c b) (drop taken t) (drop (taken + r.taken) t) l.entry here
                ∙ rw (o, stored_is) refl;
            room = room;
            inside = line_inside stands h l;
          };
          fits = omega (arith, l.short, line_inside stands h l, g.fits, room.bytes_long, g.goes.room.bytes_long);
        }

module _ {origin : ℕ} {t : List ℕ} {w : World} (e : Ended t) where
  goes_from : (n : ℕ) {c b : List ℕ} {taken entries used : ℕ} → Going origin t w c b taken entries used → GoesTo origin t w (lines_from origin n t taken entries used c b)
  unfolding lines_from line_on over_on
  goes_from zero g = g.goes
  goes_from (suc n) {c} {b} {taken} {entries} {used} g =
      at (leb (length t) taken) refl (leb most_entries entries) refl (eqb (over_at (drop taken t)) 0) refl (plain_line (drop taken t)) (λ h. line_at_lem e taken h b used)
      (λ h less r k. goes_from n (going_next g h less k)) (λ h some. goes_from n (going_over g h some))
    where
      at : (x : Bool) → leb (length t) taken ≡ x → (y : Bool) → leb most_entries entries ≡ y → (v : Bool) → eqb (over_at (drop taken t)) 0 ≡ v
          → (l : Option EntryLine) → (taken < length t → Taken (drop taken t) b used (with_line (drop taken t) b used) l)
          → (taken < length t → entries < most_entries → (r : EntryLine) → Takes (drop taken t) b used (with_line (drop taken t) b used) r
          → GoesTo origin t w (lines_from origin n t (taken + r.taken) (entries + 1) (used + (r.key + r.value)) (with_row c entries (record { start = used; key_length = r.key; value_length = r.value }) origin) (with_line (drop taken t) b used)))
          → (taken < length t → 0 < over_at (drop taken t) → GoesTo origin t w (lines_from origin n t (taken + over_at (drop taken t)) entries used c b))
          → GoesTo origin t w (if x then reached (to taken entries used) c b else if y then reached (to taken entries used) c b else line_on origin (lines_from origin n t) (drop taken t) l taken entries used c b)
      at true f y k v j l m p q = g.goes
      at false f true k v j l m p q = g.goes
      at false f false k true j None m p q = rw j g.goes
      at false f false k false j None m p q = rw j (q (leb-false (length t) taken f) (omega (arith, eqb-false (over_at (drop taken t)) 0 j)))
      at false f false k v j (Some r) m p q =
          let h = leb-false (length t) taken f in
          p h (leb-false most_entries entries k) r (m h)

-- ---- A text that is read so

pub record Readable (t : List ℕ) (room : ℕ) : Type 0 where
  pub ends : Ended t
  pub fits : length t ≤ room

readable_true : (t : List ℕ) (room : ℕ) → readable t room ≡ true → Readable t room
unfolding readable
readable_true t room h =
    let a = and_true (ltb 0 (length t)) (leb (length t) room && eqb (get_or t (length t - 1) 0) newline) h in
    let b = and_true (leb (length t) room) (eqb (get_or t (length t - 1) 0) newline) a.1 in
    record { ends = record { some = ltb-true 0 (length t) a.0; last = eqb-true (get_or t (length t - 1) 0) newline b.1 }; fits = leb-true (length t) room b.0 }

goes_plain : (origin : ℕ) (t : List ℕ) (s : Totals) (c b : List ℕ) → Room s c b → GoesTo origin t (world s c b) (plain_lines origin t s.entries s.used c b)
unfolding plain_lines
goes_plain origin t s c b r = at (readable t (length b - s.used)) refl
  where
    at : (x : Bool) → readable t (length b - s.used) ≡ x
        → GoesTo origin t (world s c b) (if x then lines_from origin (length t) t 0 s.entries s.used c b else reached (to 0 s.entries s.used) c b)
    at true f = let d = readable_true t (length b - s.used) f in goes_from d.ends (length t) (going_first origin t s c b r d.fits)
    at false f = goes_first origin t s c b r

pub plain_goes : (origin : ℕ) (t : List ℕ) (s : Totals) (c b : List ℕ) → Room s c b → {c' b' : List ℕ} {r : Ahead} → reached r c' b' ≡ plain_lines origin t s.entries s.used c b
    → Goes origin t (world s c b) c' b' r
plain_goes origin t s c b room e = rw (← e) at (goes_plain origin t s c b room)
