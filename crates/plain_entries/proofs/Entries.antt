-- A line of the common form and its entry: key and value as the code stores them. Assumes nothing.
use Rattle.std.specs.Prelude.{Option, Some, None}
use mathlib.Core.Bool.{true}
use mathlib.Core.List.{List, [], ◌∷◌, ◌++◌}
use mathlib.Core.Option.{some}
use mathlib.Core.Path.{◌≡◌, refl, sym, ap, ◌∙◌}
use Prim.Native.Nat.{ℕ, zero, suc, ◌+◌, ◌-◌, ◌≤◌, ◌<◌}
use native.Mathlib.Numerals.{add-one}
use native.Mathlib.Omega.{arith}
use native.Mathlib.Decide.{dec_le}
use lib.ListN.{length, take, drop, set, length-append, length-drop, length-set}
use lib.Seq.{paste, length-take-le, take-set-le, drop-set-lt, drop-cons, drop-drop}
use borrow.Author.Tests.{ne_eqb, le-ltb, lt-ltb}
use Rattle.definition.specs.Lists.{take_while, drop_while}
use Rattle.definition.specs.Limits.{most_parts}
use Rattle.definition.specs.Parsing.{nothing, found, Parsed, many, after}
use Rattle.definition.specs.Bytes.{newline, exclamation, hash, dot, is_digit, is_name, is_space, is_binding}
use Rattle.definition.specs.Text as text
use Rattle.definition.specs.Text.{Entry, Part, component_at, part_at, ends_in_name, after_blanks, assigned, resource_of, line_at}
use Rattle.definition.specs.Image.{key_of}
use Rattle.laws.proofs.Lists.{not_both, part_rest, paste_append, Suffix, suffix_whole, suffix_drop}
use Rattle.scan.proofs.Suffixes.{suffix_cons, suffix_trans}
use Rattle.laws.proofs.Parsing.{many_stop}
use Rattle.laws.proofs.Keys.{part_shrinks}
use Rattle.components.specs.Parts.{parts_of, key_first}
use Rattle.components.proofs.Writing.{pasted, pasted_cons}
use Rattle.values.specs.Decoded.{decoded_at, rest_at}
use Rattle.definition.specs.Reading.{size_of}
use Rattle.values.proofs.Skipping.{blanks_suffix}
use Rattle.values.proofs.Values.{rest_suffix, decoded_within}
use Rattle.plain_keys.specs.Ended.{Ended}
use Rattle.plain_keys.proofs.Ends.{ended_rest, goes_on}
use Rattle.plain_keys.specs.Keys.{plain_key}
use Rattle.plain_keys.specs.declared.Key.{Key}
use Rattle.plain_keys.proofs.Keys.{KeyIs, PlainKey, plain_key_lem}
use Rattle.plain_values.specs.Values.{BlanksFirst, Valued}
use Rattle.plain_values.specs.declared.Value.{Value}
use Rattle.plain_values.proofs.Values.{from_on, left_next}
use Rattle.plain_entries.specs.Entries.{value_text, entry_of, after_entry, line_of, stored_of, plain_line, with_line}
use Rattle.plain_entries.specs.declared.EntryLine.{EntryLine}

-- ---- The line

no_parts : (t : List ℕ) → part_at t ≡ nothing → ends_in_name (parts_of t) ≡ true → ⊥
unfolding ends_in_name
no_parts t e h = not_both h (ap (λ (m : Parsed Part). ends_in_name m.items) (many_stop part_at part_shrinks t e))

module _ (u : List ℕ) where
  newline_none : part_at (newline ∷ u) ≡ nothing
  unfolding part_at take_while drop_while is_binding component_at is_name is_digit
  newline_none = refl

  exclamation_none : part_at (exclamation ∷ u) ≡ nothing
  unfolding part_at take_while drop_while is_binding component_at is_name is_digit
  exclamation_none = refl

  hash_none : part_at (hash ∷ u) ≡ nothing
  unfolding part_at take_while drop_while is_binding component_at is_name is_digit
  hash_none = refl

-- a key means that the line is neither empty nor a comment nor a directive
resource_line : (t : List ℕ) → 0 < length t → ends_in_name (parts_of t) ≡ true → line_at t ≡ resource_of t (assigned t)
unfolding line_at
resource_line [] h k = absurd (omega arith)
resource_line (c ∷ u) h k =
    let n = ne_eqb c newline (λ e. no_parts (c ∷ u) (rw e (newline_none u)) k) in
    let x = ne_eqb c exclamation (λ e. no_parts (c ∷ u) (rw e (exclamation_none u)) k) in
    let d = ne_eqb c hash (λ e. no_parts (c ∷ u) (rw e (hash_none u)) k) in
    rw (n, x, d) refl

-- ---- The key

-- a byte that is stored over
paste_over : (b : List ℕ) (at x : ℕ) (xs : List ℕ) → 0 < length xs → pasted (set b at x) at xs ≡ pasted b at xs
paste_over b at x xs h = rw (take-set-le at b at x (omega arith), drop-set-lt (at + length xs) b at x (omega arith)) refl

-- behind a dot, or over it
dotted : (b : List ℕ) (at extra : ℕ) (xs : List ℕ) → extra ≤ 1 → 0 < length xs → at + (1 + length xs) ≤ length b
    → pasted (set b at dot) (at + extra) xs ≡ pasted b at (take extra (dot ∷ []) ++ xs)
dotted b at zero xs h s k = let z : at + 0 ≡ at = omega arith in rw z (paste_over b at dot xs s)
dotted b at (suc zero) xs h s k = pasted_cons b at dot xs k
dotted b at (suc (suc n)) xs h s k = absurd (omega arith)

module _ {t : List ℕ} {end count extra : ℕ} (k : KeyIs t end count extra) where
  pub end_length : length (take end t) ≡ end
  end_length = length-take-le end t (omega (arith, k.inside))

  pub size_is : length (key_first t) ≡ extra + end
  size_is = ap length k.key ∙ length-append (take extra (dot ∷ [])) (take end t) ∙ omega (arith, end_length, dots extra k.extra_most)
    where
      dots : (n : ℕ) → n ≤ 1 → length (take n (dot ∷ [])) ≡ n
      dots zero h = refl
      dots (suc zero) h = refl
      dots (suc (suc n)) h = absurd (omega arith)

  -- what follows the `:`, as the code takes it
  pub colon_on : end + 1 < length t → Ended t → Ended (from_on t (end + 1))
  colon_on h e = ended_rest e (end + 1) h

  pub colon_inside : Ended t → end + 1 < length t
  colon_inside e = goes_on e end k.inside (λ n. let z : ◌≡◌ {A = ℕ} 10 58 = sym n ∙ k.colon in omega arith)

  colon_first : drop end t ≡ 58 ∷ drop (end + 1) t
  colon_first = drop-cons t end 0 k.inside ∙ rw (k.colon, add-one) refl

  line_is : line_at t ≡ resource_of t (some (drop (end + 1) t))
  line_is = resource_line t (omega (arith, k.inside)) k.named ∙ ap (resource_of t) is
    where
      is : assigned t ≡ some (drop (end + 1) t)
      is = unfold assigned drop_while is_space after in rw (k.named, k.rest, colon_first) refl

  module _ (b : List ℕ) (used : ℕ) (room : used + length t ≤ length b) where
    pub key_room : used + extra + length (take end t) ≤ length (set b used 46)
    key_room = omega (arith, end_length, length-set b used 46, k.inside, k.extra_most, room)

    key_stored : pasted (set b used 46) (used + extra) (take end t) ≡ pasted b used (key_first t)
    key_stored =
        dotted b used extra (take end t) k.extra_most (omega (arith, end_length, k.some)) (omega (arith, end_length, k.inside, room))
        ∙ ap (pasted b used) (sym k.key)

    -- the value, from the blanks on
    module _ (from : ℕ) (blank : BlanksFirst (from_on t (end + 1)) from) where
      abbrev value_text_lem : List ℕ
      value_text_lem = from_on (from_on t (end + 1)) from

      value_length_lem : length value_text_lem ≡ length t - (end + 1) - from
      value_length_lem =
          ap length (part_rest (from_on t (end + 1)) from) ∙ length-drop from (from_on t (end + 1))
          ∙ ap (λ (n : ℕ). n - from) (ap length (part_rest t (end + 1)) ∙ length-drop (end + 1) t)

      after_inside : from < length t - (end + 1)
      after_inside = omega (arith, blank.inside, ap length (part_rest t (end + 1)), length-drop (end + 1) t)

      pub value_room : used + (extra + end) + length value_text_lem ≤ length b
      value_room = omega (arith, value_length_lem, k.inside, k.extra_most, room, after_inside)

      value_is : after_blanks value_text_lem ≡ after_blanks (drop (end + 1) t)
      value_is = ap after_blanks (part_rest (from_on t (end + 1)) from) ∙ sym blank.same ∙ ap after_blanks (part_rest t (end + 1))

      value_at : (n : ℕ) → drop n value_text_lem ≡ drop (end + 1 + from + n) t
      value_at n =
          ap (drop n) (part_rest (from_on t (end + 1)) from ∙ ap (drop from) (part_rest t (end + 1)) ∙ drop-drop from (end + 1) t)
          ∙ drop-drop n (end + 1 + from) t

      module _ {b₁ b₂ : List ℕ} {r : Value} (v : Valued value_text_lem (after_blanks value_text_lem) b₁ (used + (extra + end)) b₂ r) where
        abbrev the_entry : Entry
        the_entry = record { parts = parts_of t; value = decoded_at (after_blanks (drop (end + 1) t)) }

        same_value : decoded_at (after_blanks value_text_lem) ≡ the_entry.value
        same_value = ap decoded_at value_is

        pub value_after : used + (extra + end) ≤ r.end
        value_after = omega (arith, v.ends)

        pub taken_inside : end + 1 + from + r.next ≤ length t
        taken_inside = omega (arith, v.next, value_length_lem, after_inside)

        module _ (few : count ≤ most_parts) (is : plain_key t ≡ Some (record { end = end; count = count; extra = extra })) where
          pub answers : Some (record { taken = end + 1 + from + r.next; key = extra + end; value = r.end - (used + (extra + end)) }) ≡ plain_line t
          unfolding line_of
          answers =
              let left : drop (end + 1 + from + r.next) t ≡ drop 1 (rest_at (after_blanks (drop (end + 1) t))) = sym (value_at r.next) ∙ v.left ∙ ap (λ (u : List ℕ). drop 1 (rest_at u)) value_is in
              let taken = left_next t (end + 1 + from + r.next) left taken_inside in
              let value : r.end - (used + (extra + end)) ≡ length the_entry.value = omega (arith, v.ends, ap length same_value) in
              rw (is, le-ltb most_parts count few) (λ i. Some (record { taken = taken i; key = sym size_is i; value = value i }))

          pub stores : b₁ ≡ pasted (set b used 46) (used + extra) (take end t) → b₂ ≡ with_line t b used
          unfolding stored_of
          stores copied =
              rw (is, le-ltb most_parts count few) (v.stored
              ∙ ap (λ (l : List ℕ). pasted b₁ (used + (extra + end)) l) same_value
              ∙ ap (λ (n : ℕ). pasted b₁ (used + n) the_entry.value) (sym size_is)
              ∙ ap (λ (l : List ℕ). pasted l (used + length (key_first t)) the_entry.value) (copied ∙ key_stored)
              ∙ sym (paste_append b used (key_first t) the_entry.value (omega (arith, size_is, k.inside, k.extra_most, room)))
              ∙ ap (paste b used (key_first t ++ the_entry.value)) (length-append (key_first t) the_entry.value))

-- ---- A line of another form, as the code answers it

module _ (t : List ℕ) (b : List ℕ) (used : ℕ) where
  pub keyless : plain_key t ≡ None → (None ≡ plain_line t) × (b ≡ with_line t b used)
  unfolding line_of stored_of
  keyless is = rw is (refl, refl)

  pub long_key : (k : Key) → plain_key t ≡ Some k → most_parts < k.count → (None ≡ plain_line t) × (b ≡ with_line t b used)
  unfolding line_of stored_of
  long_key k is many = rw (is, lt-ltb most_parts k.count many) (refl, refl)

-- a key that is there, as the code has it
pub key_is : {t : List ℕ} → Ended t → {o : Option Key} → o ≡ plain_key t → {k : Key} → o ≡ Some k → KeyIs t k.end k.count k.extra
key_is e f s = rw (sym f ∙ s) at (plain_key_lem e)

-- ---- What callers know of a line

-- the line at the front of t has an entry, which stands in the store from `used` on and takes no more room there than in the text
pub record Takes (t store : List ℕ) (used : ℕ) (store' : List ℕ) (r : EntryLine) : Type 0 where
  pub entry : Entry
  pub is : line_at t ≡ found (text.entry entry) (drop r.taken t)
  pub few : length entry.parts ≤ most_parts
  pub key_length_lem : r.key ≡ length (key_of entry.parts)
  pub value_length_lem : r.value ≡ length entry.value
  pub stored : store' ≡ paste store used (key_of entry.parts ++ entry.value) (size_of entry)
  pub short : r.key + r.value ≤ r.taken
  pub inside : r.taken ≤ length t
  pub some : 0 < r.taken

-- what is known of an answer: a line is an entry, and without one the store is as it was
abbrev pub Taken : List ℕ → List ℕ → ℕ → List ℕ → Option EntryLine → Type 0
Taken t store used store' (Some r) = Takes t store used store' r
Taken t store used store' None = store' ≡ store

tail_suffix : (u : List ℕ) → Suffix (drop 1 u) u
tail_suffix [] = suffix_whole []
tail_suffix (c ∷ u) = suffix_cons c (suffix_whole u)

module _ (t store : List ℕ) (used : ℕ) where
  key_taken : (k : Option Key) → PlainKey t k → Taken t store used (stored_of t store used k) (line_of t k)
  unfolding line_of stored_of
  key_taken None k = refl
  key_taken (Some r) k = at (dec_le r.count most_parts)
    where
      after_suffix : Suffix (after_entry t r.end) t
      after_suffix =
          suffix_trans (tail_suffix (rest_at (value_text t r.end)))
          (suffix_trans (rest_suffix (value_text t r.end)) (suffix_trans (blanks_suffix (drop (r.end + 1) t)) (suffix_drop (suffix_whole t) (r.end + 1) (omega (arith, k.inside)))))

      at : Dec (r.count ≤ most_parts) → Taken t store used (stored_of t store used (Some r)) (line_of t (Some r))
      at (no many) = rw (lt-ltb most_parts r.count (omega arith)) refl
      at (yes few) =
          let short : length (key_of (entry_of t r.end).parts) + length (entry_of t r.end).value ≤ length t - length (after_entry t r.end) =
          omega (
            arith,
            size_is k,
            k.extra_most,
            k.inside,
            decoded_within (value_text t r.end),
            (blanks_suffix (drop (r.end + 1) t)).most,
            length-drop (r.end + 1) t,
            length-drop 1 (rest_at (value_text t r.end)),
          )
          in
          rw (le-ltb most_parts r.count few) (record {
            entry = entry_of t r.end;
            is = line_is k ∙ unfold resource_of in ap (found (text.entry (entry_of t r.end))) (sym after_suffix.same);
            few = omega (arith, k.parts, few);
            key_length_lem = refl;
            value_length_lem = refl;
            stored = refl;
            short = short;
            inside = omega arith;
            some = omega (arith, short, size_is k, k.some);
          })

pub line_takes : {t : List ℕ} → Ended t → (store : List ℕ) (used : ℕ) → Taken t store used (with_line t store used) (plain_line t)
line_takes {t} e store used = key_taken t store used (plain_key t) (plain_key_lem e)
