-- How the code takes characters off a text. Assumes nothing.
use Rattle.std.specs.Prelude.{if◌then◌else◌, Some, None}
use Rattle.std.specs.List.{list_all}
use mathlib.Core.Bool.{Bool, true, false, ◌&&◌}
use mathlib.Core.List.{List, [], ◌∷◌, ◌++◌}
use mathlib.Core.Option.{Option, some, none}
use mathlib.Core.Path.{◌≡◌, refl, sym, ap, ◌∙◌}
use Prim.Native.Nat.{ℕ, zero, suc, ◌+◌, ◌-◌, ◌≤◌, ◌<◌}
use native.Mathlib.Omega.{arith}
use lib.ListN.{length, get_or, take, drop, replicate, length-drop, length-replicate}
use lib.Seq.{drop-cons, drop-drop}
use Rattle.definition.specs.Lists.{or_else, is_empty}
use Rattle.definition.specs.Parsing.{at_most, many}
use Rattle.definition.specs.Bytes.{within}
use Rattle.definition.specs.Value.{Range, table, after_row, first_row, character, character_at, is_utf8}
use Rattle.laws.proofs.Lists.{in_range, below_range, above_range, part_rest}
use Rattle.laws.proofs.Parsing.{many_stop, many_more}
use Rattle.laws.proofs.Keys.{Gives, after_row_length, character_shrinks}
use Rattle.utf8.specs.declared.Lead.{Lead}
use Rattle.utf8.specs.Characters.{trail, after_lead, taken_by, Taken}

-- ---- The row of a first byte

-- each row's first byte is below c, above c
abbrev Below : ℕ → List (List Range) → Type 0
Below c [] = Unit {0}
Below c ([] ∷ rows) = ⊥
Below c ((r ∷ row) ∷ rows) = (r.high < c) × Below c rows

abbrev Above : ℕ → List (List Range) → Type 0
Above c [] = Unit {0}
Above c ([] ∷ rows) = ⊥
Above c ((r ∷ row) ∷ rows) = (c < r.low) × Above c rows

or_none : (o : Option (List ℕ)) → or_else o none ≡ o
unfolding or_else
or_none none = refl
or_none (some u) = refl

module _ (c : ℕ) (t : List ℕ) where
  rows_below : (below rows : List (List Range)) → Below c below → first_row (below ++ rows) (c ∷ t) ≡ first_row rows (c ∷ t)
  unfolding first_row after_row or_else
  rows_below [] rows h = refl
  rows_below ([] ∷ below) rows h = absurd h
  rows_below ((r ∷ row) ∷ below) rows h = rw (above_range r.low r.high c h.0) (rows_below below rows h.1)

  rows_above : (above : List (List Range)) → Above c above → first_row above (c ∷ t) ≡ none
  unfolding first_row after_row or_else
  rows_above [] h = refl
  rows_above ([] ∷ above) h = absurd h
  rows_above ((r ∷ row) ∷ above) h = rw (below_range r.low r.high c h.0) (rows_above above h.1)

  row_here : (below : List (List Range)) (r : Range) (row : List Range) (above : List (List Range))
      → Below c below → r.low ≤ c → c ≤ r.high → Above c above
      → first_row (below ++ (r ∷ row) ∷ above) (c ∷ t) ≡ after_row row t
  unfolding first_row after_row
  row_here below r row above h j k l =
      rows_below below _ h ∙ rw (in_range r.low r.high c j k, rows_above above l) (or_none (after_row row t))

-- the table's rows but the first, each by the byte that its first range begins with; no row has the bytes before C2 and after F4
module _ (c : ℕ) where
  pub lead_c2 : 0xC2 ≤ c → c ≤ 0xDF → (t : List ℕ) → first_row table (c ∷ t) ≡ after_lead (Some (record { 0 = 0x80; 1 = 0xBF; 2 = 0 })) t
  unfolding table after_lead
  lead_c2 h k t = row_here c t (take 1 table) _ _ (drop 2 table) (omega arith) h k (omega arith)

  pub lead_e0 : 0xE0 ≤ c → c ≤ 0xE0 → (t : List ℕ) → first_row table (c ∷ t) ≡ after_lead (Some (record { 0 = 0xA0; 1 = 0xBF; 2 = 1 })) t
  unfolding table after_lead
  lead_e0 h k t = row_here c t (take 2 table) _ _ (drop 3 table) (omega arith) h k (omega arith)

  pub lead_e1 : 0xE1 ≤ c → c ≤ 0xEC → (t : List ℕ) → first_row table (c ∷ t) ≡ after_lead (Some (record { 0 = 0x80; 1 = 0xBF; 2 = 1 })) t
  unfolding table after_lead
  lead_e1 h k t = row_here c t (take 3 table) _ _ (drop 4 table) (omega arith) h k (omega arith)

  pub lead_ed : 0xED ≤ c → c ≤ 0xED → (t : List ℕ) → first_row table (c ∷ t) ≡ after_lead (Some (record { 0 = 0x80; 1 = 0x9F; 2 = 1 })) t
  unfolding table after_lead
  lead_ed h k t = row_here c t (take 4 table) _ _ (drop 5 table) (omega arith) h k (omega arith)

  pub lead_ee : 0xEE ≤ c → c ≤ 0xEF → (t : List ℕ) → first_row table (c ∷ t) ≡ after_lead (Some (record { 0 = 0x80; 1 = 0xBF; 2 = 1 })) t
  unfolding table after_lead
  lead_ee h k t = row_here c t (take 5 table) _ _ (drop 6 table) (omega arith) h k (omega arith)

  pub lead_f0 : 0xF0 ≤ c → c ≤ 0xF0 → (t : List ℕ) → first_row table (c ∷ t) ≡ after_lead (Some (record { 0 = 0x90; 1 = 0xBF; 2 = 2 })) t
  unfolding table after_lead
  lead_f0 h k t = row_here c t (take 6 table) _ _ (drop 7 table) (omega arith) h k (omega arith)

  pub lead_f1 : 0xF1 ≤ c → c ≤ 0xF3 → (t : List ℕ) → first_row table (c ∷ t) ≡ after_lead (Some (record { 0 = 0x80; 1 = 0xBF; 2 = 2 })) t
  unfolding table after_lead
  lead_f1 h k t = row_here c t (take 7 table) _ _ (drop 8 table) (omega arith) h k (omega arith)

  pub lead_f4 : 0xF4 ≤ c → c ≤ 0xF4 → (t : List ℕ) → first_row table (c ∷ t) ≡ after_lead (Some (record { 0 = 0x80; 1 = 0x8F; 2 = 2 })) t
  unfolding table after_lead
  lead_f4 h k t = row_here c t (take 8 table) _ _ (drop 9 table) (omega arith) h k (omega arith)

  pub lead_before : 0x80 ≤ c → c < 0xC2 → (t : List ℕ) → first_row table (c ∷ t) ≡ after_lead None t
  unfolding table after_lead
  lead_before h k t = rows_below c t (take 1 table) (drop 1 table) (omega arith) ∙ rows_above c t (drop 1 table) (omega arith)

  pub lead_after : 0xF4 < c → (t : List ℕ) → first_row table (c ∷ t) ≡ after_lead None t
  unfolding table after_lead first_row
  lead_after h t = rows_below c t table [] (omega arith)

-- ---- The bytes after the first two

pub after_trails : (n : ℕ) (t : List ℕ) → n ≤ length t
    → after_row (replicate n trail) t ≡ (if list_all (within 0x80 0xBF) (take n t) then some (drop n t) else none)
unfolding after_row
after_trails zero t h = refl
after_trails (suc n) [] h = absurd (omega arith)
after_trails (suc n) (c ∷ t) h = at (within 0x80 0xBF c) (after_trails n t (omega arith))
  where
    rest : Option (List ℕ)
    rest = after_row (replicate n trail) t

    at : (b : Bool) → rest ≡ (if list_all (within 0x80 0xBF) (take n t) then some (drop n t) else none)
        → (if b then rest else none) ≡ (if (b && list_all (within 0x80 0xBF) (take n t)) then some (drop n t) else none)
    at true ih = ih
    at false ih = refl

-- ---- A character

row_short : (row : List Range) (t : List ℕ) → length t < length row → after_row row t ≡ none
row_short row t h = at (after_row row t) (after_row_length row t)
  where
    at : (o : Option (List ℕ)) → Gives (λ u. length row + length u ≡ length t) o → o ≡ none
    at none k = refl
    at (some u) k = absurd (omega arith)

module _ (t : List ℕ) (h : 0 < length t) where
  by_first : first_row table (get_or t 0 0 ∷ drop 1 t) ≡ first_row table t
  by_first = ap (first_row table) (sym (drop-cons t 0 0 h))

  pub taken_ascii : get_or t 0 0 < 0x80 → Taken t (Some 1)
  unfolding character_at taken_by character first_row table or_else after_row
  taken_ascii k = record { parse = ap character (sym by_first) ∙ rw (in_range 0 0x7F (get_or t 0 0) (omega arith) (omega arith)) refl; some_byte = omega arith; most = h }

  pub taken_none : ((u : List ℕ) → first_row table (get_or t 0 0 ∷ u) ≡ after_lead None u) → Taken t None
  unfolding character_at taken_by character after_lead
  taken_none told = record { parse = ap character (sym by_first ∙ told (drop 1 t)); some_byte = tt; most = tt }

  module _ (lead : Lead) (told : (u : List ℕ) → first_row table (get_or t 0 0 ∷ u) ≡ after_lead (Some lead) u) where
    abbrev row : List Range
    row = record { low = lead.0; high = lead.1 } ∷ replicate lead.2 trail

    by_row : (o : Option (List ℕ)) → after_row row (drop 1 t) ≡ o → character_at t ≡ character o
    unfolding character_at after_lead
    by_row o e = ap character (sym by_first ∙ told (drop 1 t) ∙ e)

    no_row : after_row row (drop 1 t) ≡ none → Taken t None
    unfolding character taken_by
    no_row e = record { parse = by_row none e; some_byte = tt; most = tt }

    pub taken_short : length t < 2 + lead.2 → Taken t None
    taken_short k = no_row (row_short row (drop 1 t) (omega (arith, length-drop 1 t, length-replicate lead.2 trail)))

    module _ (k : 2 + lead.2 ≤ length t) where
      second : (b : Bool) → within lead.0 lead.1 (get_or t 1 0) ≡ b
          → after_row row (drop 1 t) ≡ (if b then after_row (replicate lead.2 trail) (drop 2 t) else none)
      unfolding after_row
      second b e = rw (drop-cons t 1 0 (omega arith), e) refl

      pub taken_second : within lead.0 lead.1 (get_or t 1 0) ≡ false → Taken t None
      taken_second e = no_row (second false e)

      module _ (e : within lead.0 lead.1 (get_or t 1 0) ≡ true) where
        pub taken_trail : after_row (replicate lead.2 trail) (drop 2 t) ≡ none → Taken t None
        taken_trail f = no_row (second true e ∙ f)

        pub taken_whole : after_row (replicate lead.2 trail) (drop 2 t) ≡ some (drop lead.2 (drop 2 t)) → Taken t (Some (2 + lead.2))
        unfolding character taken_by
        taken_whole f = record {
          parse = let two : 2 + lead.2 ≡ suc (suc lead.2) = omega arith in by_row _ (second true e ∙ f ∙ ap some (drop-drop lead.2 2 t)) ∙ rw two refl;
          some_byte = omega arith;
          most = k;
        }

-- what is said of a part, of the whole
pub followed : (t : List ℕ) (n : ℕ) (b r : Bool)
    → after_row (replicate n trail) (take (length t - 2) (drop 2 t)) ≡ (if r then some (drop n (take (length t - 2) (drop 2 t))) else none) → r ≡ b
    → after_row (replicate n trail) (drop 2 t) ≡ (if b then some (drop n (drop 2 t)) else none)
followed t n b r e f = rw (f, part_rest t 2) at e

-- ---- A text of characters

pub utf8_more : (t : List ℕ) (n : ℕ) → Taken t (Some n) → is_utf8 t ≡ is_utf8 (take (length t - n) (drop n t))
unfolding is_utf8 taken_by
utf8_more t n k = rw (part_rest t n) (ap (λ p. is_empty p.rest) (many_more character_at character_shrinks t tt (drop n t) k.parse))

pub utf8_stop : (t : List ℕ) → 0 < length t → Taken t None → is_utf8 t ≡ false
unfolding is_utf8 is_empty taken_by
utf8_stop t h k = ap (λ p. is_empty p.rest) (many_stop character_at character_shrinks t k.parse) ∙ at t h
  where
    at : (t : List ℕ) → 0 < length t → is_empty t ≡ false
    at [] h = absurd (omega arith)
    at (c ∷ t) h = refl

pub utf8_end : (t : List ℕ) → length t ≤ 0 → is_utf8 t ≡ true
unfolding is_utf8 many is_empty at_most
utf8_end [] h = refl
utf8_end (c ∷ t) h = absurd (omega arith)
