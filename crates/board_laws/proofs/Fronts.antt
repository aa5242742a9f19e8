-- What a board keeps of an image: two images of the same first words and bytes, as far as they are used, are kept alike. Assumes nothing.
use mathlib.Core.Bool.{Bool, true, false, ◌&&◌, not}
use mathlib.Core.List.{List, [], ◌∷◌, map}
use mathlib.Core.Path.{◌≡◌, refl, sym, ap, ◌∙◌}
use Prim.Native.Nat.{ℕ, zero, suc, ◌+◌, ◌*◌, ◌-◌, ◌≤◌, ◌<◌}
use native.Mathlib.Omega.{arith}
use lib.Dec.{leb, ltb}
use lib.ListN.{length, take, drop, get_or}
use lib.Seq.{slice, get_or-take, take-take}
use borrow.Author.Tests.{le-ltb, le-leb}
use Rattle.definition.specs.Lists.{all}
use Rattle.definition.specs.Limits.{row_words, contents_words, body_bytes, most_entries}
use Rattle.definition.specs.Text.{Entry}
use Rattle.definition.specs.Image.{Row, rows_from, origins_from, rows_in, origins_in, count_of, used_of, key_at, value_at, entry_at, entries_in, is_key, packed, is_origin, too_short, is_image_by, is_image}
use Rattle.definition.specs.Writing.{entries_of_image}
use Rattle.definition.specs.Lookup.{bytes_at}
use Rattle.definition.specs.Board.{Arrival, Pack, kept, Brought, brought_by, KeepsEntries, PlacesLent}
use Rattle.laws.proofs.Lists.{and_both, part_slice}
use Rattle.laws.proofs.Image.{Holds, image_holds}
use Rattle.laws.proofs.Adding.{Agree, agree}

-- ---- The same front

module _ (n : ℕ) (xs ys : List ℕ) (same : take n xs ≡ take n ys) where
  pub front_at : (i : ℕ) → i < n → get_or xs i 0 ≡ get_or ys i 0
  front_at i h = sym (get_or-take n xs i 0 h) ∙ ap (λ (l : List ℕ). get_or l i 0) same ∙ get_or-take n ys i 0 h

  pub front_slice : (from to : ℕ) → to ≤ n → slice from to xs ≡ slice from to ys
  front_slice from to h = ap (drop from) (sym (take-take to n xs h) ∙ ap (take to) same ∙ take-take to n ys h)

  pub front_drop : (m : ℕ) → m ≤ n → take (n - m) (drop m xs) ≡ take (n - m) (drop m ys)
  front_drop m h = part_slice xs m n ∙ ap (drop m) same ∙ sym (part_slice ys m n)

rows_front : (n : ℕ) (ws us : List ℕ) → take (row_words * n) ws ≡ take (row_words * n) us → rows_from row_words n ws ≡ rows_from row_words n us
unfolding rows_from
rows_front zero ws us e = refl
rows_front (suc n) ws us e =
    let m : row_words * suc n - row_words ≡ row_words * n = omega arith in
    let more = front_drop (row_words * suc n) ws us e row_words (omega arith) in
    rw (
      front_at (row_words * suc n) ws us e 0 (omega arith),
      front_at (row_words * suc n) ws us e 1 (omega arith),
      front_at (row_words * suc n) ws us e 2 (omega arith),
      rows_front n (drop row_words ws) (drop row_words us) (rw m at more),
    ) refl

origins_front : (n : ℕ) (ws us : List ℕ) → take (row_words * n) ws ≡ take (row_words * n) us → origins_from row_words n ws ≡ origins_from row_words n us
unfolding origins_from
origins_front zero ws us e = refl
origins_front (suc n) ws us e =
    let m : row_words * suc n - row_words ≡ row_words * n = omega arith in
    let more = front_drop (row_words * suc n) ws us e row_words (omega arith) in
    rw (front_at (row_words * suc n) ws us e 3 (omega arith), origins_front n (drop row_words ws) (drop row_words us) (rw m at more)) refl

-- the words and bytes of an image that are used
abbrev pub used_words : List ℕ → ℕ
used_words contents = 2 + row_words * count_of contents

module _ (contents bodies : List ℕ) (is : is_image contents bodies ≡ true) (words bytes : List ℕ) (wordsLong : contents_words ≤ length words)
    (bytesLong : body_bytes ≤ length bytes) (same_words : take (used_words contents) words ≡ take (used_words contents) contents)
    (same_bytes : take (used_of contents) bytes ≡ take (used_of contents) bodies) where
  abbrev holds : Holds contents bodies
  holds = image_holds contents bodies is

  count_front : count_of words ≡ count_of contents
  count_front = front_at (used_words contents) words contents same_words 0 (omega arith)

  used_front : used_of words ≡ used_of contents
  used_front = front_at (used_words contents) words contents same_words 1 (omega arith)

  words_front : take (row_words * count_of contents) (drop 2 words) ≡ take (row_words * count_of contents) (drop 2 contents)
  words_front =
      let m : used_words contents - 2 ≡ row_words * count_of contents = omega arith in
      rw m at (front_drop (used_words contents) words contents same_words 2 (omega arith))

  rows_same : rows_in words ≡ rows_in contents
  rows_same = ap (λ (n : ℕ). rows_from row_words n (drop 2 words)) count_front ∙ rows_front (count_of contents) (drop 2 words) (drop 2 contents) words_front

  origins_same : origins_in words ≡ origins_in contents
  origins_same =
      ap (λ (n : ℕ). origins_from row_words n (drop 2 words)) count_front ∙ origins_front (count_of contents) (drop 2 words) (drop 2 contents) words_front

  keys_front : Agree bodies bytes (rows_in contents)
  keys_front = agree bodies bytes (used_of contents) (front_slice (used_of contents) bytes bodies same_bytes) 0 (rows_in contents) holds.is_packed

  pub front_image : is_image words bytes ≡ true
  unfolding is_image_by
  front_image =
      let short : too_short words bytes ≡ false = rw (le-ltb (length words) contents_words wordsLong, le-ltb (length bytes) body_bytes bytesLong) refl in
      let l : not (too_short words bytes) ≡ true = rw short refl in
      let n : leb (count_of words) most_entries ≡ true = rw count_front (le-leb (count_of contents) most_entries holds.count_most) in
      let u : leb (used_of words) body_bytes ≡ true = rw used_front (le-leb (used_of contents) body_bytes holds.used_most) in
      let p : packed 0 (rows_in words) (used_of words) ≡ true = rw (rows_same, used_front) holds.is_packed in
      let k : all (λ r. is_key (key_at bytes r)) (rows_in words) ≡ true = rw rows_same (keys_front.keys ∙ holds.are_keys) in
      let o : all is_origin (origins_in words) ≡ true = rw origins_same holds.are_origins in
      and_both (and_both (and_both (and_both (and_both l n) u) p) k) o

  pub front_kept : (n : ℕ) → kept (record { number = n; contents = words; bodies = bytes }) ≡ kept (record { number = n; contents = contents; bodies = bodies })
  front_kept n =
      let s : take (used_of words) bytes ≡ take (used_of contents) bodies = ap (λ (m : ℕ). take m bytes) used_front ∙ same_bytes in
      λ i. record { number = n; rows = rows_same i; store = s i }

-- ---- The entries

entries_brought : (n : ℕ) (rows : List Row) (store : List ℕ)
    → map (λ (x : Brought). x.entry) (brought_by (record { number = n; rows = rows; store = store })) ≡ entries_in rows store
unfolding brought_by entries_in
entries_brought n [] store = refl
entries_brought n (r ∷ rows) store = ap (λ (l : List Entry). entry_at store r ∷ l) (entries_brought n rows store)

pub keeps_entries : KeepsEntries
keeps_entries a is =
    let h = image_holds a.contents a.bodies is in
    let used = used_of a.contents in
    let store = take used a.bodies in
    let g = agree a.bodies store used (front_slice used store a.bodies (take-take used used a.bodies (omega arith))) 0 (rows_in a.contents) h.is_packed in
    entries_brought a.number (rows_in a.contents) store ∙ g.entries

places_brought : (n : ℕ) (rows : List Row) (store bodies : List ℕ)
    → map (λ (x : Brought). bytes_at bodies x.place) (brought_by (record { number = n; rows = rows; store = store })) ≡ map (λ (e : Entry). e.value) (entries_in rows bodies)
unfolding brought_by entries_in
places_brought n [] store bodies = refl
places_brought n (r ∷ rows) store bodies = ap (◌∷◌ (value_at bodies r)) (places_brought n rows store bodies)

pub places_lent : PlacesLent
places_lent a = places_brought a.number (rows_in a.contents) (take (used_of a.contents) a.bodies) a.bodies
