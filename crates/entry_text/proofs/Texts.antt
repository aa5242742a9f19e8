-- A value's text: byte by byte, run by run, and how long it is. Assumes nothing.
use Rattle.std.specs.Prelude.{if◌then◌else◌}
use mathlib.Core.Bool.{Bool, true, false, ◌||◌, not}
use mathlib.Core.List.{List, [], ◌∷◌, ◌++◌, flatten, append_assoc}
use mathlib.Core.Path.{◌≡◌, refl, sym, ap, ◌∙◌}
use Prim.Native.Nat.{ℕ, suc, ◌+◌, ◌-◌, ◌*◌, ◌≤◌, ◌<◌}
use native.Mathlib.Numerals.{add-one}
use native.Mathlib.Omega.{arith}
use lib.Dec.{eqb}
use lib.ListN.{length, take, drop, get_or, set, length-append, drop_of_length-le, length-drop}
use lib.Seq.{paste, drop-cons, drop-drop, get_or-drop}
use borrow.Author.Tests.{ne_eqb}
use Rattle.definition.specs.Lists.{ascii, take_while}
use Rattle.definition.specs.Bytes.{newline, backslash, letter_n, space, tab, is_blank}
use Rattle.definition.specs.Writing.{escaped, begins_blank, value_text}
use Rattle.laws.proofs.Lists.{not_both, part_rest, length_take_while_le}
use Rattle.blocks.specs.Either.{either}
use mir.Val.{bool_byte}
use Rattle.copies.specs.Appended.{Appends}
use Rattle.copies.specs.Plain.{is_plain}
use Rattle.copies.proofs.Copying.{plain_byte, newline_ends, backslash_ends}
use Rattle.copies.proofs.Pieces.{piece_of, piece_long, piece_byte, piece_two, piece_first, then_piece, Walk, walk_begun, walk_next, walk_room, walk_ended}
use Rattle.entry_text.specs.Lines.{leading_escape, bytes_of, line_of}

-- ---- A byte

module _ (c : ℕ) where
  plain_escaped : is_plain c ≡ true → escaped c ≡ c ∷ []
  unfolding escaped
  plain_escaped h =
      rw (ne_eqb c backslash (λ e. not_both h (backslash_ends c e)), ne_eqb c newline (λ e. not_both h (newline_ends c e))) refl

  pub newline_escaped : c ≡ newline → backslash ∷ letter_n ∷ [] ≡ escaped c
  unfolding escaped
  newline_escaped e = rw e refl

  -- what is not plain, and no newline
  pub backslash_escaped : is_plain c ≡ false → (c ≡ newline → ⊥) → backslash ∷ backslash ∷ [] ≡ escaped c
  unfolding escaped
  backslash_escaped h n = at (eqb c backslash) refl
    where
      at : (b : Bool) → eqb c backslash ≡ b → backslash ∷ backslash ∷ [] ≡ (if b then backslash ∷ backslash ∷ [] else if eqb c newline then backslash ∷ letter_n ∷ [] else c ∷ [])
      at true e = refl
      at false e = absurd (not_both (plain_byte c n (λ f. not_both (rw f refl) e)) h)

  -- a backslash more, or none
  pub escaped_size : length (escaped c) ≡ 1 + bool_byte (eqb c newline || eqb c backslash)
  unfolding escaped
  escaped_size = at (eqb c backslash) (eqb c newline)
    where
      at : (a b : Bool) → length (if a then backslash ∷ backslash ∷ [] else if b then backslash ∷ letter_n ∷ [] else c ∷ []) ≡ 1 + bool_byte (b || a)
      at true true = refl
      at true false = refl
      at false true = refl
      at false false = refl

  pub escaped_two : is_plain c ≡ false → length (escaped c) ≡ 2
  unfolding is_plain either
  escaped_two h = escaped_size ∙ at (eqb c newline || eqb c backslash) h
    where
      at : (b : Bool) → not b ≡ false → 1 + bool_byte b ≡ 2
      at true e = refl
      at false e = absurd (not_both refl e)

escape_small : (b : Bool) → bool_byte b ≤ 1
escape_small true = omega arith
escape_small false = omega arith

-- ---- The bytes of a value

pub bytes_next : (v : List ℕ) (i : ℕ) → i < length v → bytes_of (drop i v) ≡ escaped (get_or v i 0) ++ bytes_of (drop (i + 1) v)
unfolding bytes_of flatten
bytes_next v i h = rw (add-one, drop-cons v i 0 h) refl

pub bytes_none : (v : List ℕ) (i : ℕ) → length v ≤ i → bytes_of (drop i v) ≡ []
unfolding bytes_of flatten
bytes_none v i h = rw (drop_of_length-le v h) refl

bytes_run : (t : List ℕ) → let n = length (take_while is_plain t) in bytes_of t ≡ take n t ++ bytes_of (drop n t)
unfolding bytes_of flatten take_while
bytes_run [] = refl
bytes_run (c ∷ t) = at (is_plain c) refl (bytes_run t)
  where
    at : (b : Bool) → is_plain c ≡ b → (let n = length (take_while is_plain t) in bytes_of t ≡ take n t ++ bytes_of (drop n t))
        → let n = length (if b then c ∷ take_while is_plain t else []) in bytes_of (c ∷ t) ≡ take n (c ∷ t) ++ bytes_of (drop n (c ∷ t))
    at true e ih = rw (plain_escaped c e) (ap (λ (l : List ℕ). c ∷ l) ih)
    at false e ih = refl

-- what follows a run does not pass
run_stops : (p : ℕ → Bool) (t : List ℕ) → let n = length (take_while p t) in n < length t → p (get_or t n 0) ≡ false
unfolding take_while
run_stops p [] h = absurd (omega arith)
run_stops p (c ∷ t) h = at (p c) refl h (run_stops p t)
  where
    at : (b : Bool) → p c ≡ b → let n = length (if b then c ∷ take_while p t else []) in
        n < suc (length t) → (let k = length (take_while p t) in k < length t → p (get_or t k 0) ≡ false) → p (get_or (c ∷ t) n 0) ≡ false
    at true e h ih = ih (omega arith)
    at false e h ih = e

pub bytes_least : (t : List ℕ) → length t ≤ length (bytes_of t)
unfolding bytes_of flatten
bytes_least [] = omega arith
bytes_least (c ∷ t) = omega (arith, escaped_size c, length-append (escaped c) (bytes_of t), bytes_least t)

-- ---- The value

module _ (v : List ℕ) where
  pub value_parts : leading_escape v ++ bytes_of v ≡ value_text v
  unfolding value_text leading_escape bytes_of
  value_parts = refl

  pub a_leading_escape : begins_blank v ≡ true → backslash ∷ [] ≡ leading_escape v
  unfolding leading_escape
  a_leading_escape e = rw e refl

  pub no_leading_escape : begins_blank v ≡ false → [] ≡ leading_escape v
  unfolding leading_escape
  no_leading_escape e = rw e refl

  pub leading_escape_long : length (leading_escape v) ≡ bool_byte (begins_blank v)
  unfolding leading_escape
  leading_escape_long = at (begins_blank v)
    where
      at : (b : Bool) → length (if b then backslash ∷ [] else []) ≡ bool_byte b
      at true = refl
      at false = refl

pub value_long : (v : List ℕ) → length (value_text v) ≡ length (leading_escape v) + length (bytes_of v)
value_long v = ap length (sym (value_parts v)) ∙ length-append (leading_escape v) (bytes_of v)

pub nothing_begins : (v : List ℕ) → length v ≡ 0 → false ≡ begins_blank v
unfolding begins_blank
nothing_begins [] h = refl
nothing_begins (c ∷ v) h = absurd (omega arith)

pub first_begins : (v : List ℕ) → (length v ≡ 0 → ⊥) → (eqb (get_or v 0 0) space || eqb (get_or v 0 0) tab) ≡ begins_blank v
unfolding begins_blank is_blank
first_begins [] h = absurd (h refl)
first_begins (c ∷ v) h = refl

-- ---- Counted

bytes_most : (t : List ℕ) → length (bytes_of t) ≤ 2 * length t
unfolding bytes_of flatten
bytes_most [] = omega arith
bytes_most (c ∷ t) = omega (arith, escaped_size c, escape_small (eqb c newline || eqb c backslash), length-append (escaped c) (bytes_of t), bytes_most t)

bytes_append : (s t : List ℕ) → bytes_of (s ++ t) ≡ bytes_of s ++ bytes_of t
unfolding bytes_of flatten
bytes_append [] t = refl
bytes_append (c ∷ s) t = ap (λ (l : List ℕ). escaped c ++ l) (bytes_append s t) ∙ sym (append_assoc (escaped c) (bytes_of s) (bytes_of t))

-- n of the bytes of v before its end `rest` are written as two
pub record Counted (v rest : List ℕ) (n : ℕ) : Type 0 where
  pub same : n + length v + length (bytes_of rest) ≡ length (bytes_of v) + length rest

pub counted_none : (v : List ℕ) → Counted v v 0
counted_none v = record { same = omega arith }

module _ {v rest : List ℕ} {n : ℕ} (c : Counted v rest n) where
  -- a part more is counted
  pub counted_part : (part left : List ℕ) → rest ≡ part ++ left → (k : ℕ) → k ≡ length (bytes_of part) - length part → Counted v left (n + k)
  counted_part part left e k f = record {
    same = omega (
      arith,
      c.same,
      f,
      bytes_least part,
      ap length e ∙ length-append part left,
      ap (λ (l : List ℕ). length (bytes_of l)) e ∙ ap length (bytes_append part left) ∙ length-append (bytes_of part) (bytes_of left),
    );
  }

  pub counted_few : n ≤ length v
  counted_few = omega (arith, c.same, bytes_least rest, bytes_most v)

  pub counted_all : length rest ≡ 0 → n ≡ length (bytes_of v) - length v
  counted_all z = omega (arith, c.same, z, ap length (bytes_none rest 0 (omega (arith, z))))

-- a byte more
pub counted_byte : {v : List ℕ} {i n : ℕ} → Counted v (drop i v) n → i < length v → (k : ℕ)
    → k ≡ bool_byte (eqb (get_or v i 0) newline || eqb (get_or v i 0) backslash) → Counted v (drop (i + 1) v) (n + k)
counted_byte {v} {i} {n} c h k e = record {
  same = omega (
    arith,
    c.same,
    e,
    length-drop i v,
    length-drop (i + 1) v,
    ap length (bytes_next v i h) ∙ length-append (escaped (get_or v i 0)) (bytes_of (drop (i + 1) v)),
    escaped_size (get_or v i 0),
  );
}

-- ---- Written

-- the bytes of v from i on are still to be written, from `end` on
pub record Writing (v text₀ : List ℕ) (at : ℕ) (text : List ℕ) (end i : ℕ) : Type 0 where
  pub walk : Walk (bytes_of v) text₀ at (bytes_of (drop i v)) text end
  pub inside : i ≤ length v

pub writing_first : (v text : List ℕ) (at : ℕ) → Writing v text at text at 0
writing_first v text at = record { walk = walk_begun (bytes_of v) text at; inside = omega arith }

module _ {v text₀ : List ℕ} {at : ℕ} {text : List ℕ} {end i : ℕ} (w : Writing v text₀ at text end i) (fits : at + length (bytes_of v) ≤ length text₀) where
  -- what is left of the value, as the borrow checker gives it
  abbrev part : List ℕ
  part = take (length v - i) (drop i v)

  pub run_room : end + length part ≤ length text
  run_room = omega (arith, w.walk.place, w.walk.same_length, bytes_least (drop i v), ap length (part_rest v i))

  -- a run is copied
  module _ (n : ℕ) (text' : List ℕ) (e : n ≡ length (take_while is_plain part)) (f : text' ≡ paste text end part n) where
    run : n ≡ length (take_while is_plain (drop i v))
    run = rw (part_rest v i) at e

    run_inside : n ≤ length (drop i v)
    run_inside = omega (arith, run, length_take_while_le is_plain (drop i v))

    left : bytes_of (drop i v) ≡ take n part ++ bytes_of (drop (i + n) v)
    left = rw (part_rest v i, ← drop-drop n i v, run) (bytes_run (drop i v))

    pub run_written : Writing v text₀ at text' (end + n) (i + n)
    run_written =
        let p = ap length (part_rest v i) in
        record {
          walk = walk_next {line = take n part} w.walk left (rw f (piece_first text part end n (omega (arith, run_inside)) (omega (arith, run_room, run_inside))));
          inside = omega (arith, run_inside, length-drop i v, w.inside);
        }

    pub run_stopped : i + n < length v → is_plain (get_or v (i + n) 0) ≡ false
    run_stopped h = rw (← get_or-drop i v n 0, run) (run_stops is_plain (drop i v) (omega (arith, length-drop i v, run)))

  -- a byte that is not plain
  pub escape_room : i < length v → end + length (escaped (get_or v i 0)) ≤ length text
  escape_room h = walk_room (escaped (get_or v i 0)) (bytes_of (drop (i + 1) v)) fits w.walk (bytes_next v i h)

  pub escape_written : {text' : List ℕ} {end' : ℕ} → i < length v → Appends (escaped (get_or v i 0)) text end text' end' → Writing v text₀ at text' end' (i + 1)
  escape_written h p = record { walk = walk_next w.walk (bytes_next v i h) p; inside = omega arith }

  pub all_written : length v ≤ i → Appends (bytes_of v) text₀ at text end
  all_written h = walk_ended fits w.walk (bytes_none v i h)

-- ---- The entry

module _ (key value : List ℕ) where
  line_long : length (line_of key value) ≡ length key + 2 + length (value_text value) + 1
  unfolding line_of
  line_long = simp length-append

  line_put : {out o₁ o₂ o₃ o₄ o₅ : List ℕ} {at e₁ e₂ e₃ e₄ e₅ : ℕ} → Appends key out at o₁ e₁ → Appends (ascii ": ") o₁ e₁ o₂ e₂ → Appends (leading_escape value) o₂ e₂ o₃ e₃
      → Appends (bytes_of value) o₃ e₃ o₄ e₄ → Appends (newline ∷ []) o₄ e₄ o₅ e₅ → Appends (line_of key value) out at o₅ e₅
  unfolding line_of
  line_put k c m b n = then_piece (then_piece (then_piece k c) (piece_of (value_parts value) (then_piece m b))) n

-- an entry's text, piece by piece: its key and `: `, a leading escape, the value, a newline
module _ (key value text₀ : List ℕ) (at : ℕ) (fits : at + length (line_of key value) ≤ length text₀) where
  abbrev colon : ℕ
  colon = at + length key

  pub line_room : colon + 2 + length (leading_escape value) + length (bytes_of value) + 1 ≤ length text₀
  line_room = omega (arith, line_long key value, value_long value)

  module _ (text : List ℕ) (put : text ≡ paste text₀ at key (length key)) where
    key_put : Appends key text₀ at text colon
    key_put = record { fits = omega (arith, line_room); ends = refl; leaves = put }

    pub colon_left : colon + 2 ≤ length text
    colon_left = omega (arith, line_room, piece_long key_put)

    abbrev led : List ℕ
    led = set (set text colon 58) (colon + 1) 32

    colon_put : Appends (ascii ": ") text colon led (colon + 2)
    colon_put = piece_two _ _ _ _ colon_left

    pub lead_room : colon + 2 + length (leading_escape value) ≤ length led
    lead_room = omega (arith, line_room, piece_long key_put, piece_long colon_put)

    module _ {text₁ : List ℕ} {start : ℕ} (e : Appends (leading_escape value) led (colon + 2) text₁ start) where
      pub bytes_room : start + length (bytes_of value) ≤ length text₁
      bytes_room = omega (arith, line_room, piece_long key_put, piece_long colon_put, e.ends, piece_long e)

      module _ {text₂ : List ℕ} {end : ℕ} (b : Appends (bytes_of value) text₁ start text₂ end) where
        pub end_room : end < length text₂
        end_room = omega (arith, line_room, piece_long key_put, piece_long colon_put, e.ends, piece_long e, b.ends, piece_long b)

        pub entry_put : Appends (line_of key value) text₀ at (set text₂ end 10) (end + 1)
        entry_put = line_put key value key_put colon_put e b (piece_byte _ _ _ end_room)
