-- What each call makes of the two buffers, where it is accepted: a board again, that keeps what the call's definition says. Assumes nothing.
use mathlib.Core.Bool.{Bool, true, false, ◌&&◌, ◌||◌, not}
use mathlib.Core.List.{List, [], ◌∷◌, ◌++◌, map, map-append}
use mathlib.Core.Path.{◌≡◌, refl, sym, ap, ◌∙◌}
use Prim.Native.Nat.{ℕ, zero, suc, ◌+◌, ◌*◌, ◌-◌, ◌≤◌, ◌<◌}
use native.Mathlib.Omega.{arith}
use lib.Dec.{eqb, leb, ltb}
use lib.ListN.{length, take, drop, get_or, length-append}
use lib.Seq.{slice, length-slice, length-take-le, take-take, take_at, drop_at, take_all}
use borrow.Author.Tests.{ltb-false, le-ltb, leb-true, le-leb, not-true}
use Rattle.definition.specs.Lists.{all, filter}
use Rattle.definition.specs.Limits.{row_words, contents_words, body_bytes, query_bytes, most_packs, most_queries, slot_words, board_words, board_bytes}
use Rattle.definition.specs.Image.{count_of, used_of, is_image}
use Rattle.definition.specs.Adding.{over}
use Rattle.definition.specs.Board.{
  Arrival,
  Pack,
  kept,
  Watched,
  Board,
  watch,
  arrive,
  leave,
  changed,
  has_number,
  each,
  Lent,
  pack_count,
  query_count,
  lengths_start,
  slot_start,
  text_start,
  body_start,
  slot_at,
  name_length,
  class_length,
  query_at,
  slots_in,
  board_in,
  short_board,
  are_slots,
  have_room,
  is_board,
  writing,
}
use Rattle.laws.proofs.Lists.{Order, below, equal, above, order, not_both, and_true, and_both}
use Rattle.laws.proofs.Image.{image_holds}
use Rattle.laws.proofs.Adding.{over_long, over_before}
use Rattle.board_laws.proofs.Placing.{at_inside, part_after, part_inside, each_long, each_same, each_shift, each_split, each_more, take_each, drop_each, all_each, each_all}
use Rattle.board_laws.proofs.Fronts.{used_words, front_image, front_kept}
use Rattle.board_laws.proofs.Slots.{has_slot, is_other, slots_append, slots_without, before, slot_leaves, kept_without}
use Rattle.board_laws.proofs.Overwritten.{
  part_at_lem,
  part_part,
  part_front,
  marked_long,
  word_marked,
  word_below,
  word_before,
  word_inside,
  word_after,
  words_before,
  words_inside,
  words_after,
}

-- ---- What a board is

pub record Laid (l : Lent) : Type 0 where
  pub words_long : board_words ≤ length l.words
  pub bytes_long : board_bytes ≤ length l.bytes
  pub packs_most : pack_count l ≤ most_packs
  pub queries_most : query_count l ≤ most_queries
  pub slots : are_slots (slots_in l) ≡ true
  pub rooms : (q : ℕ) → q < query_count l → (name_length l q ≤ query_bytes) × (class_length l q ≤ query_bytes)

pub long_board : (l : Lent) → short_board l ≡ false → (board_words ≤ length l.words) × (board_bytes ≤ length l.bytes)
long_board l e = at (ltb (length l.words) board_words) (ltb (length l.bytes) board_bytes) refl refl e
  where
    at : (a b : Bool) → ltb (length l.words) board_words ≡ a → ltb (length l.bytes) board_bytes ≡ b → (a || b) ≡ false
        → (board_words ≤ length l.words) × (board_bytes ≤ length l.bytes)
    at true b p q h = absurd (not_both refl h)
    at false true p q h = absurd (not_both refl h)
    at false false p q h = (ltb-false (length l.words) board_words p, ltb-false (length l.bytes) board_bytes q)

pub laid : (l : Lent) → is_board l ≡ true → Laid l
unfolding is_board have_room
laid l h =
    let long = not (short_board l) in
    let few = leb (pack_count l) most_packs in
    let some = leb (query_count l) most_queries in
    let slots = are_slots (slots_in l) in
    let p = and_true (long && few && some && slots) (all (have_room l) (each (λ q. q) 0 (query_count l))) h in
    let q = and_true (long && few && some) slots p.0 in
    let r = and_true (long && few) some q.0 in
    let s = and_true long few r.0 in
    let lengths = long_board l (not-true (short_board l) s.0) in
    record {
      words_long = lengths.0;
      bytes_long = lengths.1;
      packs_most = leb-true (pack_count l) most_packs s.1;
      queries_most = leb-true (query_count l) most_queries r.1;
      slots = q.1;
      rooms = λ j k.
          let z = all_each (have_room l) (λ q. q) 0 (query_count l) p.1 j (omega arith) (omega arith) in
          let y = and_true (leb (name_length l j) query_bytes) (leb (class_length l j) query_bytes) z in
          (leb-true (name_length l j) query_bytes y.0, leb-true (class_length l j) query_bytes y.1);
    }

pub is_board_lem : (l : Lent) → Laid l → is_board l ≡ true
unfolding is_board have_room
is_board_lem l h =
    let short : short_board l ≡ false = rw (le-ltb (length l.words) board_words h.words_long, le-ltb (length l.bytes) board_bytes h.bytes_long) refl in
    let long : not (short_board l) ≡ true = rw short refl in
    let few = le-leb (pack_count l) most_packs h.packs_most in
    let some = le-leb (query_count l) most_queries h.queries_most in
    let room = each_all (have_room l) (λ q. q) 0 (query_count l) (λ j a b.
    let y = h.rooms j (omega arith) in and_both (le-leb (name_length l j) query_bytes y.0) (le-leb (class_length l j) query_bytes y.1)) in
    and_both (and_both (and_both (and_both long few) some) h.slots) room

-- what an accepted call leaves
pub record Becomes (l : Lent) (b : Board) : Type 0 where
  pub is : is_board l ≡ true
  pub keeps : board_in l ≡ b

-- ---- What stays

pub slot_same : (l o : Lent) (i j : ℕ) → get_or o.words (slot_start i) 0 ≡ get_or l.words (slot_start j) 0
    → slice (slot_start i + 1) (slot_start (suc i)) o.words ≡ slice (slot_start j + 1) (slot_start (suc j)) l.words
    → slice (body_start i) (body_start (suc i)) o.bytes ≡ slice (body_start j) (body_start (suc j)) l.bytes → slot_at o i ≡ slot_at l j
unfolding slot_at
slot_same l o i j p q r = λ t. record { number = p t; contents = q t; bodies = r t }

-- a query whose lengths and bytes are as they were
query_same : (l o : Lent) (q : ℕ) → name_length l q ≤ query_bytes → class_length l q ≤ query_bytes → name_length o q ≡ name_length l q
    → class_length o q ≡ class_length l q
    → ((from to : ℕ) → to ≤ text_start (suc q) → slice from to o.bytes ≡ slice from to l.bytes) → query_at o q ≡ query_at l q
unfolding query_at text_start
query_same l o q m c e f same =
    let at = text_start q in
    let n = name_length l q in
    let k = class_length l q in
    let a : slice at (at + n) o.bytes ≡ slice at (at + n) l.bytes = same at (at + n) (omega arith) in
    let b : slice (at + n) (at + n + k) o.bytes ≡ slice (at + n) (at + n + k) l.bytes = same (at + n) (at + n + k) (omega arith) in
    rw (e, f) (λ t. record { name = a t; class = b t })

-- the queries of a board are as they were if the words before the slots and the bytes before the bodies are
module _ (l o : Lent) (h : Laid l) (count : query_count o ≡ query_count l)
    (same_words : (i : ℕ) → 2 ≤ i → i < slot_start 0 → get_or o.words i 0 ≡ get_or l.words i 0)
    (same_bytes : (from to : ℕ) → to ≤ body_start 0 → slice from to o.bytes ≡ slice from to l.bytes) where
  lengths_same : (q : ℕ) → q < query_count l → (name_length o q ≡ name_length l q) × (class_length o q ≡ class_length l q)
  unfolding lengths_start slot_start
  lengths_same q k =
      let m = h.queries_most in
      (same_words (lengths_start q) (omega arith) (omega arith), same_words (lengths_start q + 1) (omega arith) (omega arith))

  text_before : (q : ℕ) → q < query_count l → text_start (suc q) ≤ body_start 0
  unfolding text_start body_start
  text_before q k = omega (arith, h.queries_most)

  pub queries_same : each (query_at o) 0 (query_count o) ≡ each (query_at l) 0 (query_count l)
  queries_same =
      ap (each (query_at o) 0) count
      ∙ each_same (query_at o) (query_at l) 0 (query_count l) (λ j a b.
      let k : j < query_count l = omega arith in
      let e = lengths_same j k in
      query_same l o j (h.rooms j k).0 (h.rooms j k).1 e.0 e.1 (λ from to z. same_bytes from to (omega (arith, text_before j k))))

  rooms_same : (q : ℕ) → q < query_count o → (name_length o q ≤ query_bytes) × (class_length o q ≤ query_bytes)
  rooms_same q k =
      let j : q < query_count l = omega (arith, count) in
      let e = lengths_same q j in
      let r = h.rooms q j in
      (omega (arith, e.0, r.0), omega (arith, e.1, r.1))

-- ---- A query more

module _ (l : Lent) (h : Laid l) (w : Watched) (room : query_count l < most_queries) (nameShort : length w.name ≤ query_bytes)
    (classShort : length w.class ≤ query_bytes) where
  abbrev q : ℕ
  q = query_count l

  abbrev lengths : List ℕ
  lengths = length w.name ∷ length w.class ∷ []

  abbrev texts : List ℕ
  texts = w.name ++ w.class

  abbrev watched : Lent
  watched = writing (watch w) l

  pub lengths_fit : lengths_start q + length lengths ≤ length l.words
  unfolding lengths_start
  lengths_fit = omega (arith, h.words_long)

  lengths_high : 2 ≤ lengths_start q
  unfolding lengths_start
  lengths_high = omega arith

  pub texts_fit : text_start q + length texts ≤ length l.bytes
  unfolding text_start
  texts_fit = omega (arith, h.bytes_long, length-append w.name w.class)

  watch_slots : (i : ℕ) → slot_at watched i ≡ slot_at l i
  unfolding writing lengths_start text_start slot_start body_start
  watch_slots i =
      slot_same l watched i i
      (word_after 1 (q + 1) (lengths_start q) lengths l.words (omega arith) lengths_high lengths_fit (slot_start i) (omega arith))
      (words_after 1 (q + 1) (lengths_start q) lengths l.words (omega arith) lengths_high lengths_fit (slot_start i + 1) (slot_start (suc i)) (omega arith))
      (part_after (text_start q) texts l.bytes texts_fit (body_start i) (body_start (suc i)) (omega (arith, length-append w.name w.class)))

  watch_packs : pack_count watched ≡ pack_count l
  unfolding writing
  watch_packs = word_below 1 (q + 1) (lengths_start q) lengths l.words (omega arith) lengths_high lengths_fit 0 (omega arith)

  watch_queries : query_count watched ≡ q + 1
  unfolding writing
  watch_queries = word_marked 1 (q + 1) (lengths_start q) lengths l.words (omega arith) lengths_high lengths_fit

  watch_slots_in : slots_in watched ≡ slots_in l
  watch_slots_in = ap (each (slot_at watched) 0) watch_packs ∙ each_same (slot_at watched) (slot_at l) 0 (pack_count l) (λ j a b. watch_slots j)

  -- the lengths of those before, and of the new one
  lengths_old : (j : ℕ) → j < q → (name_length watched j ≡ name_length l j) × (class_length watched j ≡ class_length l j)
  unfolding writing lengths_start
  lengths_old j k = (
    word_before 1 (q + 1) (lengths_start q) lengths l.words (omega arith) lengths_high lengths_fit (lengths_start j) (omega arith) (omega arith),
    word_before 1 (q + 1) (lengths_start q) lengths l.words (omega arith) lengths_high lengths_fit (lengths_start j + 1) (omega arith) (omega arith),
  )

  name_new : name_length watched q ≡ length w.name
  unfolding writing
  name_new =
      let e : lengths_start q + 0 ≡ lengths_start q = omega arith in
      ap (λ (i : ℕ). get_or watched.words i 0) (sym e)
      ∙ word_inside 1 (q + 1) (lengths_start q) lengths l.words (omega arith) lengths_high lengths_fit 0 (omega arith)

  class_new : class_length watched q ≡ length w.class
  unfolding writing
  class_new = word_inside 1 (q + 1) (lengths_start q) lengths l.words (omega arith) lengths_high lengths_fit 1 (omega arith)

  query_old : (j : ℕ) → j < q → query_at watched j ≡ query_at l j
  unfolding writing text_start
  query_old j k =
      let e = lengths_old j k in
      let r = h.rooms j k in
      query_same l watched j r.0 r.1 e.0 e.1
      (λ from to z. over_before (text_start q) texts l.bytes (omega (arith, texts_fit)) from to (omega arith))

  query_new : query_at watched q ≡ w
  unfolding query_at writing
  query_new =
      let at = text_start q in
      let n = length w.name in
      let c = length w.class in
      let long = length-append w.name w.class in
      let e : at + 0 ≡ at = omega arith in
      let f : at + n + c ≡ at + (n + c) = omega arith in
      let a : slice at (at + n) watched.bytes ≡ w.name =
      ap (λ (i : ℕ). slice i (at + n) watched.bytes) (sym e)
      ∙ part_inside at texts l.bytes texts_fit 0 n (omega arith) (omega arith)
      ∙ take_at w.name w.class n refl in
      let b : slice (at + n) (at + n + c) watched.bytes ≡ w.class =
      ap (λ (i : ℕ). slice (at + n) i watched.bytes) f
      ∙ part_inside at texts l.bytes texts_fit n (n + c) (omega arith) (omega arith)
      ∙ ap (drop n) (take_all (n + c) texts (omega arith))
      ∙ drop_at w.name w.class n refl in
      rw (name_new, class_new) (λ t. record { name = a t; class = b t })

  queries_more : each (query_at watched) 0 (query_count watched) ≡ each (query_at l) 0 q ++ w ∷ []
  queries_more =
      ap (each (query_at watched) 0) watch_queries
      ∙ each_more (query_at watched) q
      ∙ (λ t. each_same (query_at watched) (query_at l) 0 q (λ j a b. query_old j (omega arith)) t ++ query_new t ∷ [])

  rooms_more : (j : ℕ) → j < query_count watched → (name_length watched j ≤ query_bytes) × (class_length watched j ≤ query_bytes)
  rooms_more j k = at (order j q)
    where
      at : Order j q → (name_length watched j ≤ query_bytes) × (class_length watched j ≤ query_bytes)
      at (below z) = let e = lengths_old j z in let r = h.rooms j z in (omega (arith, e.0, r.0), omega (arith, e.1, r.1))
      at (equal z) = rw z (omega (arith, name_new, nameShort), omega (arith, class_new, classShort))
      at (above z) = absurd (omega (arith, watch_queries))

  watched_long : (length watched.words ≡ length l.words) × (length watched.bytes ≡ length l.bytes)
  unfolding writing
  watched_long = (
    marked_long 1 (q + 1) (lengths_start q) lengths l.words (omega arith) lengths_high lengths_fit,
    over_long (text_start q) texts l.bytes texts_fit,
  )

  pub watch_becomes : Becomes watched (changed (watch w) (board_in l))
  unfolding changed
  watch_becomes = record {
    is = is_board_lem watched (record {
      words_long = omega (arith, h.words_long, watched_long.0);
      bytes_long = omega (arith, h.bytes_long, watched_long.1);
      packs_most = omega (arith, h.packs_most, watch_packs);
      queries_most = omega (arith, watch_queries);
      slots = rw watch_slots_in h.slots;
      rooms = rooms_more;
    });
    keeps = λ t. record { packs = map kept (watch_slots_in t); queries = queries_more t };
  }

-- ---- A pack more

module _ (l : Lent) (h : Laid l) (a : Arrival) (room : pack_count l < most_packs) (image : is_image a.contents a.bodies ≡ true)
    (nonzero : eqb a.number 0 ≡ false) (new : has_slot a.number (slots_in l) ≡ false) where
  abbrev i : ℕ
  i = pack_count l

  abbrev m : ℕ
  m = used_words a.contents

  abbrev used : ℕ
  used = used_of a.contents

  abbrev slot : List ℕ
  slot = a.number ∷ take m a.contents

  abbrev store : List ℕ
  store = take used a.bodies

  abbrev arrived : Lent
  arrived = writing (arrive a) l

  words_few : m ≤ contents_words
  words_few = omega (arith, (image_holds a.contents a.bodies image).count_most)

  words_there : length (take m a.contents) ≡ m
  words_there = length-take-le m a.contents (omega (arith, words_few, (image_holds a.contents a.bodies image).contents_long))

  bytes_few : used ≤ body_bytes
  bytes_few = (image_holds a.contents a.bodies image).used_most

  bytes_there : length store ≡ used
  bytes_there = length-take-le used a.bodies (omega (arith, bytes_few, (image_holds a.contents a.bodies image).bodies_long))

  slot_long : length slot ≡ 1 + m
  slot_long = omega (arith, words_there)

  pub slot_fits : slot_start i + length slot ≤ length l.words
  unfolding slot_start
  slot_fits = omega (arith, slot_long, words_few, h.words_long)

  slot_high : 2 ≤ slot_start i
  unfolding slot_start
  slot_high = omega arith

  pub store_fits : body_start i + length store ≤ length l.bytes
  unfolding body_start
  store_fits = omega (arith, bytes_there, bytes_few, h.bytes_long)

  slots_old : (j : ℕ) → j < i → slot_at arrived j ≡ slot_at l j
  unfolding writing slot_start body_start
  slots_old j k =
      slot_same l arrived j j
      (word_before 0 (i + 1) (slot_start i) slot l.words (omega arith) slot_high slot_fits (slot_start j) (omega arith) (omega arith))
      (words_before 0 (i + 1) (slot_start i) slot l.words (omega arith) slot_high slot_fits (slot_start j + 1) (slot_start (suc j)) (omega arith) (omega arith))
      (over_before (body_start i) store l.bytes (omega (arith, store_fits)) (body_start j) (body_start (suc j)) (omega arith))

  -- the new slot
  abbrev newest : Arrival
  newest = slot_at arrived i

  number_new : newest.number ≡ a.number
  unfolding slot_at writing
  number_new =
      let e : slot_start i + 0 ≡ slot_start i = omega arith in
      ap (λ (n : ℕ). get_or arrived.words n 0) (sym e)
      ∙ word_inside 0 (i + 1) (slot_start i) slot l.words (omega arith) slot_high slot_fits 0 (omega arith)

  arrived_long : (length arrived.words ≡ length l.words) × (length arrived.bytes ≡ length l.bytes)
  unfolding writing
  arrived_long =
      (marked_long 0 (i + 1) (slot_start i) slot l.words (omega arith) slot_high slot_fits, over_long (body_start i) store l.bytes store_fits)

  contents_new : take m newest.contents ≡ take m a.contents
  unfolding slot_at writing slot_start
  contents_new =
      let s = slot_start i in
      let e : s + 1 + m ≡ s + (1 + m) = omega arith in
      part_front arrived.words (s + 1) (slot_start (suc i)) m (omega (arith, words_few))
      ∙ ap (λ (n : ℕ). slice (s + 1) n arrived.words) e
      ∙ words_inside 0 (i + 1) s slot l.words (omega arith) slot_high slot_fits 1 (1 + m) (omega arith) (omega (arith, slot_long))
      ∙ front_slot
    where
      front_slot : slice 1 (1 + m) slot ≡ take m a.contents
      front_slot = let f : 1 + m ≡ suc m = omega arith in ap (λ (n : ℕ). slice 1 n slot) f ∙ take-take m m a.contents (omega arith)

  bodies_new : take used newest.bodies ≡ take used a.bodies
  unfolding slot_at writing body_start
  bodies_new =
      let s = body_start i in
      let e : s + 0 ≡ s = omega arith in
      part_front arrived.bytes s (body_start (suc i)) used (omega (arith, bytes_few))
      ∙ ap (λ (n : ℕ). slice n (s + used) arrived.bytes) (sym e)
      ∙ part_inside s store l.bytes store_fits 0 used (omega arith) (omega (arith, bytes_there))
      ∙ take-take used used a.bodies (omega arith)

  contents_long : length newest.contents ≡ contents_words
  unfolding slot_at slot_start
  contents_long =
      let s = length-slice (slot_start i + 1) (slot_start (suc i)) arrived.words (omega (arith, arrived_long.0, h.words_long)) in
      omega (arith, s)

  bodies_long : length newest.bodies ≡ body_bytes
  unfolding slot_at body_start
  bodies_long =
      let s = length-slice (body_start i) (body_start (suc i)) arrived.bytes (omega (arith, arrived_long.1, h.bytes_long)) in
      omega (arith, s)

  image_new : is_image newest.contents newest.bodies ≡ true
  image_new =
      front_image a.contents a.bodies image newest.contents newest.bodies (omega (arith, contents_long)) (omega (arith, bodies_long))
      contents_new bodies_new

  kept_new : kept newest ≡ kept a
  kept_new =
      front_kept a.contents a.bodies image newest.contents newest.bodies (omega (arith, contents_long)) (omega (arith, bodies_long))
      contents_new bodies_new newest.number
      ∙ ap (λ (n : ℕ). kept (record { number = n; contents = a.contents; bodies = a.bodies })) number_new

  arrive_packs : pack_count arrived ≡ i + 1
  unfolding writing
  arrive_packs = word_marked 0 (i + 1) (slot_start i) slot l.words (omega arith) slot_high slot_fits

  arrive_queries : query_count arrived ≡ query_count l
  unfolding writing
  arrive_queries = word_before 0 (i + 1) (slot_start i) slot l.words (omega arith) slot_high slot_fits 1 (omega arith) (omega (arith, slot_high))

  slots_more : slots_in arrived ≡ slots_in l ++ newest ∷ []
  slots_more =
      ap (each (slot_at arrived) 0) arrive_packs
      ∙ each_more (slot_at arrived) i
      ∙ ap (λ (s : List Arrival). s ++ newest ∷ []) (each_same (slot_at arrived) (slot_at l) 0 i (λ j a b. slots_old j (omega arith)))

  arrive_words : (j : ℕ) → 2 ≤ j → j < slot_start 0 → get_or arrived.words j 0 ≡ get_or l.words j 0
  unfolding writing slot_start
  arrive_words j p k = word_before 0 (i + 1) (slot_start i) slot l.words (omega arith) slot_high slot_fits j (omega arith) (omega arith)

  arrive_bytes : (from to : ℕ) → to ≤ body_start 0 → slice from to arrived.bytes ≡ slice from to l.bytes
  unfolding writing body_start
  arrive_bytes from to k = over_before (body_start i) store l.bytes (omega (arith, store_fits)) from to (omega arith)

  pub arrive_becomes : Becomes arrived (changed (arrive a) (board_in l))
  unfolding changed
  arrive_becomes =
      let packs : map kept (slots_in arrived) ≡ map kept (slots_in l) ++ kept a ∷ [] =
      ap (map kept) slots_more ∙ map-append kept (slots_in l) (newest ∷ []) ∙ ap (λ (p : Pack). map kept (slots_in l) ++ p ∷ []) kept_new in
      let queries = queries_same l arrived h arrive_queries arrive_words arrive_bytes in
      record {
        is = is_board_lem arrived (record {
          words_long = omega (arith, h.words_long, arrived_long.0);
          bytes_long = omega (arith, h.bytes_long, arrived_long.1);
          packs_most = omega (arith, arrive_packs);
          queries_most = omega (arith, h.queries_most, arrive_queries);
          slots = rw slots_more (slots_append (slots_in l) newest h.slots (rw number_new nonzero) (rw number_new new) image_new);
          rooms = rooms_same l arrived h arrive_queries arrive_words arrive_bytes;
        });
        keeps = λ t. record { packs = packs t; queries = queries t };
      }

-- ---- A pack less

module _ (l : Lent) (h : Laid l) (n : ℕ) (present : has_slot n (slots_in l) ≡ true) where
  abbrev p : ℕ
  p = pack_count l

  abbrev slots : List Arrival
  slots = slots_in l

  -- where it stands
  abbrev gone : ℕ
  gone = before n slots

  -- the slots behind it
  abbrev behind : List ℕ
  behind = slice (slot_start (suc gone)) (slot_start p) l.words

  abbrev bodies_behind : List ℕ
  bodies_behind = slice (body_start (suc gone)) (body_start p) l.bytes

  abbrev left : Lent
  left = writing (leave n) l

  gone_inside : gone < p
  gone_inside = omega (arith, (slot_leaves n slots h.slots present).0, each_long (slot_at l) 0 p)

  behind_long : length behind ≡ slot_start p - slot_start (suc gone)
  unfolding slot_start
  behind_long = length-slice (slot_start (suc gone)) (slot_start p) l.words (omega (arith, h.words_long, h.packs_most))

  bodies_behind_long : length bodies_behind ≡ body_start p - body_start (suc gone)
  unfolding body_start
  bodies_behind_long = length-slice (body_start (suc gone)) (body_start p) l.bytes (omega (arith, h.bytes_long, h.packs_most))

  pub behind_fits : slot_start gone + length behind ≤ length l.words
  unfolding slot_start
  behind_fits = omega (arith, behind_long, gone_inside, h.words_long, h.packs_most)

  behind_high : 2 ≤ slot_start gone
  unfolding slot_start
  behind_high = omega arith

  pub bodies_behind_fit : body_start gone + length bodies_behind ≤ length l.bytes
  unfolding body_start
  bodies_behind_fit = omega (arith, bodies_behind_long, gone_inside, h.bytes_long, h.packs_most)

  slots_before : (j : ℕ) → j < gone → slot_at left j ≡ slot_at l j
  unfolding writing slot_start body_start
  slots_before j k =
      slot_same l left j j
      (word_before 0 (p - 1) (slot_start gone) behind l.words (omega arith) behind_high behind_fits (slot_start j) (omega arith) (omega arith))
      (words_before 0 (p - 1) (slot_start gone) behind l.words (omega arith) behind_high behind_fits (slot_start j + 1) (slot_start (suc j)) (omega arith) (omega arith))
      (over_before (body_start gone) bodies_behind l.bytes (omega (arith, bodies_behind_fit)) (body_start j) (body_start (suc j)) (omega arith))

  -- one behind it stands a slot further to the front
  module _ (j : ℕ) (from : gone ≤ j) (to : suc j < p) where
    abbrev d : ℕ
    d = slot_start j - slot_start gone

    abbrev e : ℕ
    e = body_start j - body_start gone

    number_moved : get_or left.words (slot_start j) 0 ≡ get_or l.words (slot_start (suc j)) 0
    unfolding writing slot_start
    number_moved =
        let x : slot_start gone + d ≡ slot_start j = omega arith in
        let y : slot_start (suc gone) + d ≡ slot_start (suc j) = omega arith in
        ap (λ (k : ℕ). get_or left.words k 0) (sym x)
        ∙ word_inside 0 (p - 1) (slot_start gone) behind l.words (omega arith) behind_high behind_fits d (omega (arith, behind_long))
        ∙ part_at_lem l.words (slot_start (suc gone)) (slot_start p) d (omega arith)
        ∙ ap (λ (k : ℕ). get_or l.words k 0) y

    contents_moved : slice (slot_start j + 1) (slot_start (suc j)) left.words ≡ slice (slot_start (suc j) + 1) (slot_start (suc (suc j))) l.words
    unfolding writing slot_start
    contents_moved =
        let x : slot_start gone + (d + 1) ≡ slot_start j + 1 = omega arith in
        let y : slot_start gone + (d + slot_words) ≡ slot_start (suc j) = omega arith in
        let z : slot_start (suc gone) + (d + 1) ≡ slot_start (suc j) + 1 = omega arith in
        let w : slot_start (suc gone) + (d + slot_words) ≡ slot_start (suc (suc j)) = omega arith in
        (λ t. slice (sym x t) (sym y t) left.words)
        ∙ words_inside 0 (p - 1) (slot_start gone) behind l.words (omega arith) behind_high behind_fits (d + 1) (d + slot_words) (omega arith) (omega (arith, behind_long))
        ∙ part_part l.words (slot_start (suc gone)) (slot_start p) (d + 1) (d + slot_words) (omega arith) (omega arith)
        ∙ (λ t. slice (z t) (w t) l.words)

    bodies_moved : slice (body_start j) (body_start (suc j)) left.bytes ≡ slice (body_start (suc j)) (body_start (suc (suc j))) l.bytes
    unfolding writing body_start
    bodies_moved =
        let x : body_start gone + e ≡ body_start j = omega arith in
        let y : body_start gone + (e + body_bytes) ≡ body_start (suc j) = omega arith in
        let z : body_start (suc gone) + e ≡ body_start (suc j) = omega arith in
        let w : body_start (suc gone) + (e + body_bytes) ≡ body_start (suc (suc j)) = omega arith in
        (λ t. slice (sym x t) (sym y t) left.bytes)
        ∙ part_inside (body_start gone) bodies_behind l.bytes bodies_behind_fit e (e + body_bytes) (omega arith) (omega (arith, bodies_behind_long))
        ∙ part_part l.bytes (body_start (suc gone)) (body_start p) e (e + body_bytes) (omega arith) (omega arith)
        ∙ (λ t. slice (z t) (w t) l.bytes)

    slot_moved : slot_at left j ≡ slot_at l (suc j)
    slot_moved = slot_same l left j (suc j) number_moved contents_moved bodies_moved

  leave_packs : pack_count left ≡ p - 1
  unfolding writing
  leave_packs = word_marked 0 (p - 1) (slot_start gone) behind l.words (omega arith) behind_high behind_fits

  leave_queries : query_count left ≡ query_count l
  unfolding writing
  leave_queries = word_before 0 (p - 1) (slot_start gone) behind l.words (omega arith) behind_high behind_fits 1 (omega arith) (omega (arith, behind_high))

  slots_less : slots_in left ≡ filter (is_other n) slots
  slots_less =
      let m = p - 1 - gone in
      let x : p - 1 ≡ gone + m = omega (arith, gone_inside) in
      let y : p ≡ gone + (1 + m) = omega (arith, gone_inside) in
      let z : p ≡ suc gone + m = omega (arith, gone_inside) in
      let v : 0 + gone ≡ gone = omega arith in
      let w : 0 + suc gone ≡ suc gone = omega arith in
      let front : each (slot_at left) 0 gone ≡ take gone slots =
      each_same (slot_at left) (slot_at l) 0 gone (λ j a b. slots_before j (omega arith))
      ∙ sym (take_each (slot_at l) 0 gone (1 + m))
      ∙ ap (λ (k : ℕ). take gone (each (slot_at l) 0 k)) (sym y) in
      let back : each (slot_at left) gone m ≡ drop (suc gone) slots =
      each_same (slot_at left) (λ j. slot_at l (suc j)) gone m (λ j a b. slot_moved j a (omega arith))
      ∙ each_shift (slot_at l) gone m
      ∙ sym (drop_each (slot_at l) 0 (suc gone) m ∙ ap (λ (k : ℕ). each (slot_at l) k m) w)
      ∙ ap (λ (k : ℕ). drop (suc gone) (each (slot_at l) 0 k)) (sym z) in
      ap (each (slot_at left) 0) (leave_packs ∙ x)
      ∙ each_split (slot_at left) 0 gone m
      ∙ ap (λ (k : ℕ). each (slot_at left) 0 gone ++ each (slot_at left) k m) v
      ∙ (λ t. front t ++ back t)
      ∙ (slot_leaves n slots h.slots present).1

  leave_words : (j : ℕ) → 2 ≤ j → j < slot_start 0 → get_or left.words j 0 ≡ get_or l.words j 0
  unfolding writing slot_start
  leave_words j q k = word_before 0 (p - 1) (slot_start gone) behind l.words (omega arith) behind_high behind_fits j (omega arith) (omega arith)

  leave_bytes : (from to : ℕ) → to ≤ body_start 0 → slice from to left.bytes ≡ slice from to l.bytes
  unfolding writing body_start
  leave_bytes from to k = over_before (body_start gone) bodies_behind l.bytes (omega (arith, bodies_behind_fit)) from to (omega arith)

  left_long : (length left.words ≡ length l.words) × (length left.bytes ≡ length l.bytes)
  unfolding writing
  left_long = (
    marked_long 0 (p - 1) (slot_start gone) behind l.words (omega arith) behind_high behind_fits,
    over_long (body_start gone) bodies_behind l.bytes bodies_behind_fit,
  )

  pub leave_becomes : Becomes left (changed (leave n) (board_in l))
  unfolding changed
  leave_becomes =
      let packs : map kept (slots_in left) ≡ filter (λ p. not (has_number n p)) (map kept slots) = ap (map kept) slots_less ∙ kept_without n slots in
      let queries = queries_same l left h leave_queries leave_words leave_bytes in
      record {
        is = is_board_lem left (record {
          words_long = omega (arith, h.words_long, left_long.0);
          bytes_long = omega (arith, h.bytes_long, left_long.1);
          packs_most = omega (arith, h.packs_most, leave_packs);
          queries_most = omega (arith, h.queries_most, leave_queries);
          slots = rw slots_less (slots_without n slots h.slots);
          rooms = rooms_same l left h leave_queries leave_words leave_bytes;
        });
        keeps = λ t. record { packs = packs t; queries = queries t };
      }
