-- The loop over lines of the common form: the lines from here on are the text's. Assumes nothing.
use Rattle.std.specs.Prelude.{Option, Some, None, if◌then◌else◌}
use mathlib.Core.Bool.{Bool, true, false, ◌&&◌}
use mathlib.Core.List.{List, [], ◌∷◌}
use mathlib.Core.Path.{◌≡◌, refl, sym, ◌∙◌}
use Prim.Native.Nat.{ℕ, zero, suc, ◌+◌, ◌-◌, ◌≤◌, ◌<◌}
use native.Mathlib.Omega.{arith}
use lib.Dec.{eqb, ltb, leb}
use lib.ListN.{length, get_or, drop}
use borrow.Author.Tests.{lt-ltb, le-ltb, le-leb, lt-leb, eq-eqb, ne_eqb, eqb-true, eqb-false}
use Rattle.definition.specs.Lists.{take_while}
use Rattle.definition.specs.Limits.{most_entries, body_bytes}
use Rattle.definition.specs.Bytes.{newline, exclamation, not_newline}
use Rattle.laws.proofs.Lists.{part_rest}
use Rattle.image.specs.Rows.{with_row}
use Rattle.image.specs.Running.{Room}
use Rattle.image.specs.declared.Totals.{Totals}
use Rattle.plain_keys.specs.Ended.{Ended}
use Rattle.plain_values.proofs.Values.{from_on}
use Rattle.plain_entries.specs.Entries.{plain_line, with_line}
use Rattle.plain_entries.specs.declared.EntryLine.{EntryLine}
use Rattle.plain_entries.proofs.Entries.{Takes, Taken}
use Rattle.plain_lines.specs.Lines.{over_at, passed_at, Reached, reached, to, over_on, line_on, lines_from, readable, plain_lines}
use Rattle.plain_lines.proofs.Lines.{Stands, over_inside, line_inside, line_room, line_at_lem}

-- ---- A line that is passed over, as the code tells it

pub over_empty : (t : List ℕ) → get_or t 0 0 ≡ newline → Some 1 ≡ passed_at t
unfolding passed_at over_at
over_empty t e = rw (eq-eqb (get_or t 0 0) newline e) refl

comment_some : (t : List ℕ) → get_or t 0 0 ≡ exclamation → 0 < length (take_while not_newline t)
unfolding take_while not_newline
comment_some [] e = absurd (omega (arith, e))
comment_some (c ∷ u) e = rw e (omega arith)

over_some : (t : List ℕ) (n : ℕ) → over_at t ≡ n → 0 < n → Some n ≡ passed_at t
unfolding passed_at
over_some t n is some = rw (is, ne_eqb n 0 (λ z. omega (arith, some, z))) refl

pub over_comment : (t : List ℕ) → (get_or t 0 0 ≡ newline → ⊥) → get_or t 0 0 ≡ exclamation → (n : ℕ) → n ≡ length (take_while not_newline t) → Some n ≡ passed_at t
unfolding over_at
over_comment t o e n f =
    over_some t n (rw (ne_eqb (get_or t 0 0) newline o, eq-eqb (get_or t 0 0) exclamation e) (sym f)) (omega (arith, f, comment_some t e))

pub over_other : (t : List ℕ) → (get_or t 0 0 ≡ newline → ⊥) → (get_or t 0 0 ≡ exclamation → ⊥) → None ≡ passed_at t
unfolding passed_at over_at
over_other t o e = rw (ne_eqb (get_or t 0 0) newline o, ne_eqb (get_or t 0 0) exclamation e) refl

-- what the answer says
abbrev OverIs : List ℕ → Option ℕ → Type 0
OverIs t None = over_at t ≡ 0
OverIs t (Some n) = (n ≡ over_at t) × (0 < n)

over_is : (t : List ℕ) → OverIs t (passed_at t)
unfolding passed_at
over_is t = at (eqb (over_at t) 0) refl
  where
    at : (x : Bool) → eqb (over_at t) 0 ≡ x → OverIs t (if x then None else Some (over_at t))
    at true e = eqb-true (over_at t) 0 e
    at false e = let some = eqb-false (over_at t) 0 e in (refl, omega (arith, some))

-- ---- The loop

-- the lines from `taken` on are those of t from its front
pub record Lining (origin : ℕ) (t : List ℕ) (all : Reached) (c b : List ℕ) (taken entries used : ℕ) : Type 0 where
  pub left : ℕ
  pub enough : length t ≤ taken + left
  pub same : all ≡ lines_from origin left t taken entries used c b
  pub stands : Stands t c b taken used
  pub ends : Ended t

-- a turn
lines_turn : (origin n : ℕ) (t c b : List ℕ) (taken entries used : ℕ) → 0 < n → taken < length t → entries < most_entries
    → lines_from origin n t taken entries used c b ≡ line_on origin (lines_from origin (n - 1) t) (drop taken t) (plain_line (drop taken t)) taken entries used c b
unfolding lines_from
lines_turn origin zero t c b taken entries used h some less = absurd (omega arith)
lines_turn origin (suc n) t c b taken entries used h some less = let z : suc n - 1 ≡ n = omega arith in rw (z, lt-leb (length t) taken some, lt-leb most_entries entries less) refl

text_over : (origin n : ℕ) (t c b : List ℕ) (taken entries used : ℕ) → length t ≤ taken → lines_from origin n t taken entries used c b ≡ reached (to taken entries used) c b
unfolding lines_from
text_over origin zero t c b taken entries used h = refl
text_over origin (suc n) t c b taken entries used h = rw (le-leb (length t) taken h) refl

none_left : (origin n : ℕ) (t c b : List ℕ) (taken entries used : ℕ) → most_entries ≤ entries → lines_from origin n t taken entries used c b ≡ reached (to taken entries used) c b
unfolding lines_from
none_left origin zero t c b taken entries used h = refl
none_left origin (suc n) t c b taken entries used h = rw (le-leb most_entries entries h) (at (leb (length t) taken))
  where
    at : (x : Bool) → (if x then reached (to taken entries used) c b else reached (to taken entries used) c b) ≡ reached (to taken entries used) c b
    at true = refl
    at false = refl

module _ {origin : ℕ} {t : List ℕ} {all : Reached} {c b : List ℕ} {taken entries used : ℕ} (l : Lining origin t all c b taken entries used) where
  pub lining_end : length t ≤ taken → reached (to taken entries used) c b ≡ all
  lining_end h = sym (l.same ∙ text_over origin l.left t c b taken entries used h)

  pub lining_full : most_entries ≤ entries → reached (to taken entries used) c b ≡ all
  lining_full h = sym (l.same ∙ none_left origin l.left t c b taken entries used h)

  module _ (h : taken < length t) where
    module _ (less : entries < most_entries) {o : Option EntryLine} (is : o ≡ plain_line (from_on t taken)) {b' : List ℕ} (stored : b' ≡ with_line (from_on t taken) b used) where
      here : o ≡ plain_line (drop taken t)
      here = rw (part_rest t taken) at is

      turned : all ≡ line_on origin (lines_from origin (l.left - 1) t) (drop taken t) (plain_line (drop taken t)) taken entries used c b
      turned = l.same ∙ lines_turn origin l.left t c b taken entries used (omega (arith, l.enough, h)) h less

      known : Taken (drop taken t) b used b' o
      known = rw (stored, is, part_rest t taken) (line_at_lem l.ends taken h b used)

      -- ---- No line of the common form

      module _ (none : o ≡ None) {p : Option ℕ} (over : p ≡ passed_at (from_on t taken)) where
        no_line : plain_line (drop taken t) ≡ None
        no_line = sym here ∙ none

        kept : b' ≡ b
        kept = rw none at known

        over_known : OverIs (drop taken t) p
        over_known = rw (over, part_rest t taken) (over_is (drop taken t))

        pub lining_other : p ≡ None → reached (to taken entries used) c b' ≡ all
        unfolding line_on over_on
        lining_other z =
            let o : over_at (drop taken t) ≡ 0 = rw z at over_known in
            rw kept (sym (turned ∙ rw (no_line, eq-eqb (over_at (drop taken t)) 0 o) refl))

        module _ {n : ℕ} (some : p ≡ Some n) where
          passed : (n ≡ over_at (drop taken t)) × (0 < n)
          passed = rw some at over_known

          pub passed_inside : taken + n ≤ length t
          passed_inside = omega (arith, over_inside l.stands h, passed.0)

          pub passed_some : 0 < n
          passed_some = passed.1

          pub lining_over : Lining origin t all c b' (taken + n) entries used
          unfolding line_on over_on
          lining_over =
              let o : 0 < over_at (drop taken t) = omega (arith, passed.0, passed.1) in
              rw (kept, passed.0) (record {
                left = l.left - 1;
                enough = omega (arith, l.enough, o);
                same = turned ∙ rw (no_line, ne_eqb (over_at (drop taken t)) 0 (λ z. omega (arith, o, z))) refl;
                stands = record {
                  inside = over_inside l.stands h;
                  fits = omega (arith, l.stands.fits);
                  words_long = l.stands.words_long;
                  bytes_long = l.stands.bytes_long;
                };
                ends = l.ends;
              })

      -- ---- A line

      module _ {r : EntryLine} (line : o ≡ Some r) where
        takes : Takes (drop taken t) b used b' r
        takes = rw line at known

        pub next_some : 0 < r.taken
        next_some = takes.some

        pub next_inside : taken + r.taken ≤ length t
        next_inside = line_inside l.stands h takes

        pub next_room : used + (r.key + r.value) ≤ body_bytes
        next_room = line_room l.stands h takes

        pub lining_next : {c' : List ℕ} → c' ≡ with_row c entries (record { start = used; key_length = r.key; value_length = r.value }) origin → length c' ≡ length c → length b' ≡ length b
            → Lining origin t all c' b' (taken + r.taken) (entries + 1) (used + (r.key + r.value))
        unfolding line_on
        lining_next {c'} row hc hb =
            let b-is : with_line (drop taken t) b used ≡ b' = sym (rw (part_rest t taken) at stored) in
            record {
              left = l.left - 1;
              enough = omega (arith, l.enough, next_some);
              same = turned ∙ rw (sym here ∙ line) (rw (b-is, ← row) refl);
              stands = record {
                inside = next_inside;
                fits = omega (arith, takes.short, next_inside, l.stands.fits, hb);
                words_long = hc ∙ l.stands.words_long;
                bytes_long = hb ∙ l.stands.bytes_long;
              };
              ends = l.ends;
            }

-- ---- A text that is read so, or is not

module _ (origin : ℕ) (t : List ℕ) (entries used : ℕ) (c b : List ℕ) where
  unread : readable t (length b - used) ≡ false → reached (to 0 entries used) c b ≡ plain_lines origin t entries used c b
  unfolding plain_lines
  unread h = rw h refl

  pub unread_empty : length t ≡ 0 → reached (to 0 entries used) c b ≡ plain_lines origin t entries used c b
  unread_empty h = unread (unfold readable in rw (le-ltb 0 (length t) (omega (arith, h))) refl)

  pub unread_long : length b - used < length t → reached (to 0 entries used) c b ≡ plain_lines origin t entries used c b
  unread_long h = unread (unfold readable in rw (lt-leb (length t) (length b - used) h) (at (ltb 0 (length t))))
    where
      at : (x : Bool) → (x && false) ≡ false
      at true = refl
      at false = refl

  pub unread_open : eqb (get_or t (length t - 1) 0) newline ≡ false → reached (to 0 entries used) c b ≡ plain_lines origin t entries used c b
  unread_open h = unread (unfold readable in rw h (at (ltb 0 (length t)) (leb (length t) (length b - used))))
    where
      at : (x y : Bool) → (x && (y && false)) ≡ false
      at true true = refl
      at true false = refl
      at false y = refl

pub lining_first : (origin : ℕ) (t : List ℕ) (s : Totals) (c b : List ℕ) → Room s c b → Ended t → length t ≤ length b - s.used
    → Lining origin t (plain_lines origin t s.entries s.used c b) c b 0 s.entries s.used
unfolding plain_lines readable
lining_first origin t s c b r e h = record {
  left = length t;
  enough = omega arith;
  same = rw (lt-ltb 0 (length t) e.some, le-leb (length t) (length b - s.used) h, eq-eqb (get_or t (length t - 1) 0) newline e.last) refl;
  stands = record { inside = omega arith; fits = omega (arith, h, r.used_most, r.bytes_long); words_long = r.words_long; bytes_long = r.bytes_long };
  ends = e;
}
