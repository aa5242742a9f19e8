-- An entry, stored. Assumes nothing.
use Rattle.std.specs.Prelude.{None}
use mathlib.Core.List.{List, [], ◌∷◌, ◌++◌, flatten, append_assoc}
use mathlib.Core.Path.{◌≡◌, refl, sym, ap, ◌∙◌}
use Prim.Native.Nat.{ℕ, ◌+◌, ◌-◌, ◌≤◌, ◌<◌}
use native.Mathlib.Nat.{le_refl, min-eq_right}
use native.Mathlib.Omega.{arith}
use lib.ListN.{length, take, drop, length-drop, drop_of_length-le}
use lib.Seq.{paste, drop-drop, take-append-add, take-paste, drop-paste, take-length}
use borrow.Author.Tests.{lt-ltb, le-ltb, le-leb, lt-leb}
use Rattle.definition.specs.Limits.{most_entries, most_parts, body_bytes}
use Rattle.definition.specs.Parsing.{many}
use Rattle.definition.specs.Text.{Entry, piece_at, after_blanks, pieces}
use Rattle.definition.specs.Image.{key_of}
use Rattle.definition.specs.Reading.{size_of}
use Rattle.laws.proofs.Lists.{part_rest, Suffix, suffix_whole, suffix_drop}
use Rattle.image.specs.Running.{World, world, went, stopped, row_for, stored, cut, put}
use Rattle.image.specs.Rows.{with_row}
use Rattle.image.specs.declared.Totals.{Totals}
use Rattle.values.specs.Decoded.{decoded_at, Decoded}
use Rattle.scan.proofs.Suffixes.{suffix_trans}
use Rattle.values.proofs.Skipping.{blanks_suffix}
use Rattle.values.proofs.Values.{rest_suffix, Fits, decoded_full}
use Rattle.components.specs.Parts.{parts_of}
use Rattle.lines.specs.declared.Resource.{Resource}
use Rattle.parser.specs.Putting.{entry_from, Asked, line_after, Puts}

-- ---- The limits on an entry

-- 5, 6, 7
module _ (origin : ℕ) (s : Totals) (c b : List ℕ) (e : Entry) where
  put_parts : most_parts < length e.parts → put origin (world s c b) e ≡ stopped 5 c b
  unfolding put
  put_parts h = rw (lt-ltb most_parts (length e.parts) h) refl

  module _ (few : length e.parts ≤ most_parts) where
    put_count : most_entries ≤ s.entries → put origin (world s c b) e ≡ stopped 6 c b
    unfolding put
    put_count h = rw (le-ltb most_parts (length e.parts) few, le-leb most_entries s.entries h) refl

    module _ (room : s.entries < most_entries) where
      put_full : body_bytes < s.used + size_of e → put origin (world s c b) e ≡ stopped 7 c (cut (world s c b) e)
      unfolding put
      put_full h = rw (le-ltb most_parts (length e.parts) few, lt-leb most_entries s.entries room, lt-ltb body_bytes (s.used + size_of e) h) refl

      pub put_fits : s.used + size_of e ≤ body_bytes → put origin (world s c b) e ≡ went (stored origin (world s c b) e)
      unfolding put
      put_fits h = rw (le-ltb most_parts (length e.parts) few, lt-leb most_entries s.entries room, le-ltb body_bytes (s.used + size_of e) h) refl

  cut_none : body_bytes < s.used + length (key_of e.parts) → cut (world s c b) e ≡ b
  unfolding cut
  cut_none h = rw (lt-ltb body_bytes (s.used + length (key_of e.parts)) h) refl

  cut_some : s.used + length (key_of e.parts) ≤ body_bytes → cut (world s c b) e ≡ paste b s.used (key_of e.parts ++ e.value) (body_bytes - s.used)
  unfolding cut
  cut_some h = rw (le-ltb body_bytes (s.used + length (key_of e.parts)) h) refl

-- ---- What the code stored

-- the key, and n bytes of the value behind it
both_stored : (b k v : List ℕ) (at n : ℕ) → at + length k ≤ length b
    → paste (paste b at k (length k)) (at + length k) v n ≡ paste b at (k ++ v) (length k + n)
both_stored b k v at n h =
    let m = at + length k in
    let e : at + (length k + n) ≡ m + n = omega arith in
    let f : at ≤ length b = omega arith in
    let front : take m (paste b at k (length k)) ≡ take at b ++ k =
    take-paste b at k (length k) f (le_refl (length k)) ∙ ap (λ (l : List ℕ). take at b ++ l) (take-length k) in
    let back : drop (m + n) (paste b at k (length k)) ≡ drop (m + n) b =
    sym (drop-drop n m (paste b at k (length k))) ∙ ap (drop n) (drop-paste b at k (length k) f (le_refl (length k))) ∙ drop-drop n m b in
    rw (front, back, take-append-add k v n, e, append_assoc (take at b) k (take n v)) refl

module _ (t : List ℕ) (v : ℕ) (inside : v ≤ length t) (u : List ℕ) (is : u ≡ after_blanks (take (length t - v) (drop v t))) where
  value_text_lem : u ≡ after_blanks (drop v t)
  value_text_lem = is ∙ ap after_blanks (part_rest t v)

  pub value_is : decoded_at u ≡ flatten (pieces (drop v t)).items
  value_is = ap decoded_at value_text_lem

  behind : Suffix u (drop v t)
  behind = rw value_text_lem (blanks_suffix (drop v t))

  pub value_inside : length u ≤ length t
  value_inside = omega (arith, behind.most, length-drop v t)

  value_at : drop (length t - length u) t ≡ u
  value_at =
      let e : length t - length u ≡ v + (length (drop v t) - length u) = omega (arith, behind.most, length-drop v t) in
      rw (e, ← drop-drop (length (drop v t) - length u) v t) behind.same

  module _ (taken : ℕ) (rest : drop taken u ≡ (many piece_at u).rest) (most : taken ≤ length u) where
    abbrev passed : ℕ
    passed = length t - length u + taken

    passed_is : drop passed t ≡ (pieces (drop v t)).rest
    passed_is = sym (drop-drop taken (length t - length u) t) ∙ ap (drop taken) value_at ∙ rest ∙ ap (λ (l : List ℕ). (many piece_at l).rest) value_text_lem

    -- the value's newline is passed too
    pub next_line : drop (passed + 1) t ≡ drop 1 (pieces (drop v t)).rest
    next_line = sym (drop-drop 1 passed t) ∙ ap (drop 1) passed_is

    -- or the text ends with the value
    pub last_line : length t ≤ passed → drop passed t ≡ drop 1 (pieces (drop v t)).rest
    last_line h =
        let k : length t ≤ passed + 1 = omega arith in
        drop_of_length-le t h ∙ sym (drop_of_length-le t k) ∙ next_line

-- ---- The answers of parse_entry

module _ {t : List ℕ} {r : Resource} {s : Totals} {c b : List ℕ} (origin : ℕ) (a : Asked t r s c b) where
  pub many_parts : most_parts < r.count → put origin (world s c b) (entry_from t r.value) ≡ stopped 5 c b
  many_parts h = put_parts origin s c b (entry_from t r.value) (omega (arith, a.parts))

  module _ (few : r.count ≤ most_parts) where
    pub many_entries : most_entries ≤ s.entries → put origin (world s c b) (entry_from t r.value) ≡ stopped 6 c b
    many_entries h = put_count origin s c b (entry_from t r.value) (omega (arith, a.parts)) h

    pub long_key : s.entries < most_entries → length b - s.used < r.size → put origin (world s c b) (entry_from t r.value) ≡ stopped 7 c b
    long_key less h =
        let long : body_bytes < s.used + length (key_of (parts_of t)) = omega (arith, a.key, a.room.used_most, a.room.bytes_long) in
        put_full origin s c b (entry_from t r.value) (omega (arith, a.parts)) less (omega arith) ∙ ap (stopped 7 c) (cut_none origin s c b (entry_from t r.value) long)

-- the entry keeps the limits so far, its key is written, and u is the value's text
pub record Keyed (t : List ℕ) (r : Resource) (s : Totals) (c b b₁ u : List ℕ) : Type 0 where
  pub asked : Asked t r s c b
  pub few : r.count ≤ most_parts
  pub less : s.entries < most_entries
  pub fits : r.size ≤ length b - s.used
  pub written : b₁ ≡ paste b s.used (key_of (parts_of t)) (length (key_of (parts_of t)))
  pub long : length b₁ ≡ length b
  pub is : u ≡ after_blanks (take (length t - r.value) (drop r.value t))

module _ {t : List ℕ} {r : Resource} {s : Totals} {c b b₁ u : List ℕ} (k : Keyed t r s c b b₁ u) where
  abbrev e : Entry
  e = entry_from t r.value

  few_parts : length (parts_of t) ≤ most_parts
  few_parts = omega (arith, k.few, k.asked.parts)

  value_long : length (decoded_at u) ≡ length e.value
  value_long = ap length (value_is t r.value k.asked.inside u k.is)

  pub text_inside : length u ≤ length t
  text_inside = value_inside t r.value k.asked.inside u k.is

  -- the value, or what there is room for of it, behind the key
  behind_key : (n : ℕ) → paste b₁ (s.used + r.size) (decoded_at u) n ≡ paste b s.used (key_of (parts_of t) ++ e.value) (length (key_of (parts_of t)) + n)
  behind_key n =
      rw (k.written, k.asked.key, value_is t r.value k.asked.inside u k.is) refl
      ∙ both_stored b (key_of (parts_of t)) e.value s.used n (omega (arith, k.fits, k.asked.key, k.asked.room.used_most, k.asked.room.bytes_long))

  pub long_value : (origin : ℕ) {b₂ : List ℕ} → Decoded u b₁ (s.used + r.size) b₂ None → put origin (world s c b) e ≡ stopped 7 c b₂
  long_value origin {b₂} d =
      let h = decoded_full d in
      let room = k.asked.room in
      let short : s.used + length (key_of (parts_of t)) ≤ body_bytes = omega (arith, k.fits, k.asked.key, room.used_most, room.bytes_long) in
      let n : length (key_of (parts_of t)) + (length b₁ - (s.used + r.size)) ≡ body_bytes - s.used = omega (arith, k.asked.key, k.long, room.bytes_long) in
      let most : length b₁ - (s.used + r.size) ≤ length (decoded_at u) = omega arith in
      put_full origin s c b e few_parts k.less (omega (arith, value_long, k.asked.key, k.long, room.bytes_long))
      ∙ ap (stopped 7 c)
      (cut_some origin s c b e short
      ∙ ap (λ (m : ℕ). paste b s.used (key_of (parts_of t) ++ e.value) m) (sym n)
      ∙ sym (d.stored ∙ ap (paste b₁ (s.used + r.size) (decoded_at u)) (min-eq_right most) ∙ behind_key (length b₁ - (s.used + r.size))))

  module _ {b₂ : List ℕ} {end taken : ℕ} (st : Fits u b₁ (s.used + r.size) b₂ end taken) where
    pub value_after : s.used + r.size ≤ end
    value_after = omega (arith, st.ends)

    pub ends_inside : end ≤ body_bytes
    ends_inside = omega (arith, st.ends, st.room, k.long, k.asked.room.bytes_long)

    pub passed_inside : length t - length u + taken ≤ length t
    passed_inside = omega (arith, st.inside, text_inside)

    bytes_are : paste b s.used (key_of (parts_of t) ++ e.value) (size_of e) ≡ b₂
    bytes_are =
        sym (st.stored ∙ behind_key (length (decoded_at u)) ∙ ap (λ (n : ℕ). paste b s.used (key_of (parts_of t) ++ e.value) (length (key_of (parts_of t)) + n)) value_long)

    -- a place from which the rest of the text is what the definition leaves
    ends_at : (n : ℕ) → drop n t ≡ drop 1 (pieces (drop r.value t)).rest → n ≤ length t → n ≡ line_after t r.value
    ends_at n h most = omega (arith, length-drop n t, ap length h)

    module _ (origin : ℕ) {c₂ : List ℕ} (rowed : c₂ ≡ with_row c s.entries (record { start = s.used; key_length = r.size; value_length = end - (s.used + r.size) }) origin) where
      abbrev next : Totals
      next = record { opens = s.opens; entries = s.entries + 1; used = end }

      words_are : with_row c s.entries (row_for s.used e) origin ≡ c₂
      words_are =
          let n : end - (s.used + r.size) ≡ length e.value = omega (arith, st.ends, value_long) in
          sym (rowed ∙ rw (n, k.asked.key) refl)

      stored_is : put origin (world s c b) e ≡ went (world next c₂ b₂)
      stored_is =
          let used : s.used + size_of e ≡ end = omega (arith, st.ends, value_long, k.asked.key) in
          put_fits origin s c b e few_parts k.less (omega (arith, ends_inside))
          ∙ (λ i. went (record {
            totals = record { opens = s.opens; entries = s.entries + 1; used = used i };
            words = words_are i;
            bytes = bytes_are i;
          }))

      pub done_next : length t - length u + taken < length t → Puts t r.value origin (world s c b) c₂ b₂ (length t - length u + taken + 1) next
      done_next h = record { is = stored_is; next = ends_at _ (next_line t r.value k.asked.inside u k.is taken st.rest st.inside) (omega arith) }

      pub done_last : length t ≤ length t - length u + taken → Puts t r.value origin (world s c b) c₂ b₂ (length t - length u + taken) next
      done_last h = record { is = stored_is; next = ends_at _ (last_line t r.value k.asked.inside u k.is taken st.rest st.inside h) passed_inside }

-- ---- What a caller reads off an entry that is stored

pub after_value : (t : List ℕ) (v : ℕ) → v ≤ length t → Suffix (drop 1 (pieces (drop v t)).rest) t
after_value t v h = one (pieces (drop v t)).rest (suffix_trans (rest_suffix (after_blanks (drop v t))) (suffix_trans (blanks_suffix (drop v t)) (suffix_drop (suffix_whole t) v h)))
  where
    one : (u : List ℕ) → Suffix u t → Suffix (drop 1 u) t
    one [] s = s
    one (x ∷ u) s = suffix_drop s 1 (omega arith)

module _ {t : List ℕ} {v origin : ℕ} {w : World} {c b : List ℕ} {n : ℕ} {s : Totals} (h : v ≤ length t) (p : Puts t v origin w c b n s) where
  pub puts_next : drop n t ≡ drop 1 (pieces (drop v t)).rest
  puts_next = rw p.next (after_value t v h).same

  pub puts_inside : n ≤ length t
  puts_inside = omega (arith, p.next)
