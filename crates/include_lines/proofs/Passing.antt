-- Lines passed over: the pieces of a value, the line after an entry, and the includes from a line on. Assumes nothing.
use mathlib.Core.List.{List, [], ◌∷◌, ◌++◌}
use mathlib.Core.Path.{◌≡◌, refl, sym, ap, ◌∙◌}
use Prim.Native.Nat.{ℕ, zero, suc, ◌+◌, ◌-◌, ◌≤◌, ◌<◌}
use native.Mathlib.Omega.{arith}
use lib.ListN.{length, take, drop, get_or, length-drop}
use lib.Seq.{drop-drop, drop-cons}
use Rattle.definition.specs.Parsing.{nothing, found, Parsed}
use Rattle.definition.specs.Bytes.{newline, backslash}
use Rattle.definition.specs.Text.{skipped, include, entry, piece_at, after_blanks, pieces, resource_of, line_at}
use Rattle.definition.specs.Text as text
use Rattle.laws.proofs.Lists.{part_rest, length_part_rest}
use Rattle.laws.proofs.Parsing.{many_stop}
use Rattle.laws.proofs.Keys.{piece_shrinks, line_shrinks}
use Rattle.copies.proofs.Copying.{plain_byte}
use Rattle.escapes.specs.Pieces.{escape_in}
use Rattle.escapes.specs.declared.Piece.{Piece}
use Rattle.values.specs.Decoded.{rest_at}
use Rattle.values.proofs.Pieces.{Yields, plain_yields}
use Rattle.values.proofs.Decoding.{over, ended, escape_there}
use Rattle.values.proofs.Values.{rest_suffix}
use Rattle.parser.specs.Putting.{entry_from, line_after}
use Rattle.parser.proofs.Entries.{next_line, last_line, after_value, value_inside}
use Rattle.lines.specs.Places.{line_in}
use Rattle.lines.specs.declared.Directive.{Directive}
use Rattle.lines.specs.declared.Resource.{Resource}
use Rattle.lines.specs.declared.Line.{Line}
use Rattle.lines.specs.declared.Line.TheVariants.{Skip, Include, Entry}
use Rattle.lines.proofs.Lined.{Lined, Enters, lined}
use Rattle.include_lines.specs.Includes.{place, taken, placed, places_in, includes_from, PieceTakes}

-- ---- A piece of a value

stopped : (t : List ℕ) → piece_at t ≡ nothing → rest_at t ≡ t
stopped t e = ap (λ (r : Parsed (List ℕ)). r.rest) (many_stop piece_at piece_shrinks t e)

piece_takes : {t ys : List ℕ} {n : ℕ} → Yields t ys n → 1 ≤ n → PieceTakes t n
piece_takes g h = record { rest = g.rest; some = h; inside = g.inside }

pub ends_over : (t : List ℕ) → length t ≤ 0 → rest_at t ≡ t
ends_over t h = stopped t (over t 0 h)

pub ends_newline : (t : List ℕ) → 0 < length t → get_or t 0 0 ≡ newline → rest_at t ≡ t
ends_newline t h e = stopped t (ended t 0 h e)

pub takes_byte : (t : List ℕ) → 0 < length t → (get_or t 0 0 ≡ newline → ⊥) → (get_or t 0 0 ≡ backslash → ⊥) → PieceTakes t 1
takes_byte [] h e f = absurd (omega arith)
takes_byte (c ∷ t) h e f = piece_takes (plain_yields c t (plain_byte c e f)) (omega arith)

pub takes_escape : (t : List ℕ) → 0 < length t → get_or t 0 0 ≡ backslash → {p : Piece} → p ≡ escape_in (take (length t - 1) (drop 1 t)) → PieceTakes t p.len
takes_escape t h e f = let p = escape_there t 0 h e f in piece_takes p.0 p.1

-- ---- The loop over pieces

-- something is left of a text before its end, as the code takes it
pub some_part : (t : List ℕ) (i : ℕ) → i < length t → 0 < length (take (length t - i) (drop i t))
some_part t i h = omega (arith, length_part_rest t i)

pub record Passing (t : List ℕ) (i : ℕ) : Type 0 where
  pub rest : rest_at t ≡ rest_at (drop i t)
  pub inside : i ≤ length t

pub passing_first : (t : List ℕ) → Passing t 0
passing_first t = record { rest = refl; inside = omega arith }

module _ {t : List ℕ} {i : ℕ} (p : Passing t i) where
  pub passed_value : (let u = take (length t - i) (drop i t) in rest_at u ≡ u) → i ≡ length t - length (rest_at t)
  passed_value e =
      let f : rest_at (drop i t) ≡ drop i t = rw (part_rest t i) at e in
      omega (arith, p.inside, ap length (p.rest ∙ f), length-drop i t)

  module _ {n : ℕ} (g : PieceTakes (take (length t - i) (drop i t)) n) where
    here : PieceTakes (drop i t) n
    here = rw (part_rest t i) at g

    pub piece_inside : i + n ≤ length t
    piece_inside = omega (arith, here.inside, length-drop i t, p.inside)

    pub passing_next : Passing t (i + n)
    passing_next = record { rest = p.rest ∙ here.rest ∙ rw (drop-drop n i t) refl; inside = piece_inside }

-- ---- The line after an entry

module _ (t : List ℕ) (v : ℕ) (inside : v ≤ length t) (u : List ℕ) (is : u ≡ after_blanks (take (length t - v) (drop v t))) (n : ℕ) (e : n ≡ length u - length (rest_at u)) where
  value_rest : drop n u ≡ rest_at u
  value_rest = rw e (rest_suffix u).same

  value_most : n ≤ length u
  value_most = omega (arith, e)

  pub passed_inside : length t - length u + n ≤ length t
  passed_inside = omega (arith, value_most, value_inside t v inside u is)

  ends_at : (m : ℕ) → drop m t ≡ drop 1 (pieces (drop v t)).rest → m ≤ length t → m ≡ line_after t v
  ends_at m h most = omega (arith, length-drop m t, ap length h)

  pub after_newline : length t - length u + n < length t → length t - length u + n + 1 ≡ line_after t v
  after_newline h = ends_at _ (next_line t v inside u is n value_rest value_most) (omega arith)

  pub at_the_end : length t ≤ length t - length u + n → length t - length u + n ≡ line_after t v
  at_the_end h = ends_at _ (last_line t v inside u is n value_rest value_most h) passed_inside

-- ---- A line

-- a line takes a byte or more, and what is left is the text after it
pub record Takes (u : List ℕ) (l : Line) : Type 0 where
  pub some : 1 ≤ taken u l
  pub inside : taken u l ≤ length u

less : (u : List ℕ) (x : text.Line) (n : ℕ) → line_at u ≡ found x (drop n u) → 1 ≤ n
less u x n e = omega (arith, line_shrinks u x (drop n u) e, length-drop n u)

pub entry_found : (u : List ℕ) {r : Resource} → Enters u (line_at u) r → line_at u ≡ found (entry (entry_from u r.value)) (drop (line_after u r.value) u)
unfolding resource_of
entry_found u {r} l = l.is ∙ rw (after_value u r.value l.inside).same refl

pub takes : (u : List ℕ) (l : Line) → Lined u (line_at u) l → Takes u l
unfolding taken
takes u (Skip n) l = record { some = less u skipped n l.is; inside = l.inside }
takes u (Include d) l = record { some = less u (include (take d.size (drop d.start u))) d.end l.is; inside = l.inside }
takes u (Entry r) l = record { some = less u (entry (entry_from u r.value)) (line_after u r.value) (entry_found u l); inside = omega arith }

-- ---- The includes from a line on

places_skip : (s at : ℕ) (t : List ℕ) → places_in s at t ≡ places_in 0 (at + s) (drop s t)
unfolding places_in
places_skip zero at t = let e : at + 0 ≡ at = omega arith in rw e refl
places_skip (suc s) at [] = refl
places_skip (suc s) at (c ∷ t) = let e : at + 1 + s ≡ at + suc s = omega arith in places_skip s (at + 1) t ∙ rw e refl

places_turn : (c : ℕ) (w : List ℕ) (at k : ℕ) → k ≡ taken (c ∷ w) (line_in (c ∷ w)) → 1 ≤ k
    → places_in 0 at (c ∷ w) ≡ placed at (line_in (c ∷ w)) ++ places_in 0 (at + k) (drop k (c ∷ w))
unfolding places_in
places_turn c w at k e h =
    let d : k ≡ suc (k - 1) = omega arith in
    let f : at + 1 + (k - 1) ≡ at + k = omega arith in
    let g : drop k (c ∷ w) ≡ drop (k - 1) w = ap (λ (m : ℕ). drop m (c ∷ w)) d in
    ap (λ (m : ℕ). placed at (line_in (c ∷ w)) ++ places_in (m - 1) (at + 1) w) (sym e)
    ∙ ap (λ ps. placed at (line_in (c ∷ w)) ++ ps) (places_skip (k - 1) (at + 1) w ∙ rw (f, g) refl)

-- the code's answer on the line at `at`
module _ (t : List ℕ) (at : ℕ) (h : at < length t) {l : Line} (e : l ≡ line_in (take (length t - at) (drop at t))) where
  some_left : 0 < length (drop at t)
  some_left = omega (arith, length-drop at t)

  is_line : l ≡ line_in (drop at t)
  is_line = e ∙ ap line_in (part_rest t at)

  pub line_is : Lined (drop at t) (line_at (drop at t)) l
  line_is = lined (drop at t) some_left is_line

  pub line_takes : Takes (drop at t) l
  line_takes = takes (drop at t) l line_is

  pub line_inside : at + taken (drop at t) l ≤ length t
  line_inside = omega (arith, line_takes.inside, length-drop at t)

  pub line_turn : includes_from at t ≡ placed at l ++ includes_from (at + taken (drop at t) l) t
  unfolding includes_from
  line_turn =
      by (drop at t) (drop-cons t at 0 h) is_line line_takes.some
      ∙ ap (λ (u : List ℕ). placed at l ++ places_in 0 (at + taken (drop at t) l) u) (drop-drop (taken (drop at t) l) at t)
    where
      by : (u : List ℕ) → u ≡ get_or t at 0 ∷ drop (suc at) t → l ≡ line_in u → 1 ≤ taken u l → places_in 0 at u ≡ placed at l ++ places_in 0 (at + taken u l) (drop (taken u l) u)
      by [] q f k = absurd (omega (arith, ap length q))
      by (c ∷ w) q f k = rw (← f) at (places_turn c w at (taken (c ∷ w) l) (rw (← f) refl) k)

-- ---- The loop over lines

-- the includes from `from` on are those from `at` on
pub record Looking (t : List ℕ) (from at : ℕ) : Type 0 where
  pub same : includes_from from t ≡ includes_from at t
  pub after : from ≤ at

pub looking_first : (t : List ℕ) (from : ℕ) → Looking t from from
looking_first t from = record { same = refl; after = omega arith }

module _ {t : List ℕ} {from at : ℕ} (l : Looking t from at) where
  pub looking_done : length t ≤ at → includes_from from t ≡ []
  unfolding includes_from places_in
  looking_done h = l.same ∙ by (drop at t) (omega (arith, length-drop at t))
    where
      by : (u : List ℕ) → length u ≡ 0 → places_in 0 at u ≡ []
      by [] e = refl
      by (c ∷ u) e = absurd (omega arith)

  module _ (h : at < length t) where
    module _ {n : ℕ} (e : Skip n ≡ line_in (take (length t - at) (drop at t))) where
      pub skip_inside : at + n ≤ length t
      unfolding taken
      skip_inside = line_inside t at h e

      pub skip_less : 1 ≤ n
      unfolding taken
      skip_less = (line_takes t at h e).some

      pub looking_skip : Looking t from (at + n)
      unfolding taken placed
      looking_skip = record { same = l.same ∙ line_turn t at h e; after = omega (arith, l.after) }

    module _ {r : Resource} (e : Entry r ≡ line_in (take (length t - at) (drop at t))) where
      pub value_in : r.value ≤ length (take (length t - at) (drop at t))
      value_in = rw (part_rest t at) (line_is t at h e).inside

      module _ {n : ℕ} (f : n ≡ line_after (take (length t - at) (drop at t)) r.value) where
        after_here : n ≡ line_after (drop at t) r.value
        after_here = f ∙ ap (λ (u : List ℕ). line_after u r.value) (part_rest t at)

        pub entry_inside : at + n ≤ length t
        unfolding taken
        entry_inside = rw (← after_here) at (line_inside t at h e)

        pub entry_less : 1 ≤ n
        unfolding taken
        entry_less = rw (← after_here) at (line_takes t at h e).some

        pub looking_entry : Looking t from (at + n)
        unfolding taken placed
        looking_entry = record { same = l.same ∙ (rw (← after_here) at (line_turn t at h e)); after = omega (arith, l.after) }

    module _ {d : Directive} (e : Include d ≡ line_in (take (length t - at) (drop at t))) where
      pub name_inside : at + d.start + d.size ≤ length t
      name_inside = omega (arith, (line_is t at h e).named, length-drop at t)

      pub include_inside : at + d.end ≤ length t
      unfolding taken
      include_inside = line_inside t at h e

      pub include_after : from < at + d.end
      unfolding taken
      include_after = omega (arith, (line_takes t at h e).some, l.after)

      pub looking_found : includes_from from t ≡ place (at + d.start) d.size (at + d.end) ∷ includes_from (at + d.end) t
      unfolding taken placed
      looking_found = l.same ∙ line_turn t at h e
