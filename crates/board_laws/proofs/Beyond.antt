-- What is lent beyond a board's words and bytes is neither read nor written. Assumes nothing.
use Rattle.std.specs.Prelude.{if◌then◌else◌}
use mathlib.Core.Bool.{Bool, true, false, ◌&&◌, ◌||◌, not}
use mathlib.Core.List.{List, [], ◌∷◌, ◌++◌, append_assoc, map}
use mathlib.Core.Path.{◌≡◌, refl, sym, ap, ◌∙◌}
use Prim.Native.Nat.{ℕ, zero, suc, ◌+◌, ◌*◌, ◌-◌, ◌≤◌, ◌<◌}
use native.Mathlib.Omega.{arith}
use lib.Dec.{leb, ltb}
use lib.ListN.{length, take, drop, get_or, take-append-drop}
use lib.Seq.{slice, length-take-le, take-append-le, drop-append-le, get_or-take, take-take, take_all}
use borrow.Author.Tests.{le-ltb, leb-true}
use Rattle.definition.specs.Lists.{all}
use Rattle.definition.specs.Limits.{row_words, most_packs, most_queries, board_words, board_bytes}
use Rattle.definition.specs.Image.{count_of, used_of}
use Rattle.definition.specs.Lookup.{Reply, given, no_value, refused}
use Rattle.definition.specs.Adding.{over}
use Rattle.definition.specs.Board.{
  Arrival,
  kept,
  Watched,
  Board,
  Call,
  watch,
  arrive,
  leave,
  reply_to,
  if_given,
  watched_answer,
  watched_answers,
  each,
  report,
  Lent,
  lent,
  pack_count,
  query_count,
  lengths_start,
  slot_start,
  text_start,
  body_start,
  slot_at,
  name_length,
  class_length,
  slots_in,
  board_in,
  short_board,
  are_slots,
  have_room,
  is_board,
  Done,
  done,
  board_make,
  writing,
  board_call,
  board_answer,
  board_answers,
  board_report,
  own,
  with_beyond,
  NothingBeyond,
}
use Rattle.laws.proofs.Lists.{Order, below, equal, above, order}
use Rattle.laws.proofs.Adding.{over_long}
use Rattle.board_laws.proofs.Placing.{each_same}
use Rattle.board_laws.proofs.Slots.{before}
use Rattle.board_laws.proofs.Calls.{
  Laid,
  laid,
  long_board,
  slot_same,
  queries_same,
  lengths_fit,
  texts_fit,
  slot_fits,
  store_fits,
  behind_fits,
  bodies_behind_fit,
}
use Rattle.board_laws.proofs.Histories.{watch_passed, arrive_passed, leave_passed}

-- ---- The front of a list

short_front : (n : ℕ) (xs : List ℕ) → ltb (length (take n xs)) n ≡ ltb (length xs) n
short_front n xs = at (order (length xs) n)
  where
    at : Order (length xs) n → ltb (length (take n xs)) n ≡ ltb (length xs) n
    at (below z) = ap (λ (l : List ℕ). ltb (length l) n) (take_all n xs (omega arith))
    at (equal z) = ap (λ (l : List ℕ). ltb (length l) n) (take_all n xs (omega arith))
    at (above z) = le-ltb (length (take n xs)) n (omega (arith, length-take-le n xs (omega arith))) ∙ sym (le-ltb (length xs) n (omega arith))

module _ (xs front rest : List ℕ) where
  over_front : (n : ℕ) → n + length xs ≤ length front → over n xs (front ++ rest) ≡ over n xs front ++ rest
  unfolding over
  over_front n h =
      let k = n + length xs in
      (λ t. take-append-le n front rest (omega arith) t ++ xs ++ drop-append-le k front rest h t)
      ∙ sym (append_assoc (take n front ++ xs) (drop k front) rest)

-- a part, and one of the first words
marked_front : (c k a : ℕ) (xs front rest : List ℕ) → c < length front → a + length xs ≤ length front
    → over c (k ∷ []) (over a xs (front ++ rest)) ≡ over c (k ∷ []) (over a xs front) ++ rest
marked_front c k a xs front rest g h =
    ap (over c (k ∷ [])) (over_front xs front rest a h)
    ∙ over_front (k ∷ []) (over a xs front) rest c (omega (arith, over_long a xs front h))

-- ---- Tests that come out alike

-- what is asked of slots and of queries counts only where there are not too many
guarded : (s p q x y u v : Bool) → (p ≡ true → x ≡ y) → (q ≡ true → u ≡ v) → (s && p && q && x && u) ≡ (s && p && q && y && v)
guarded false p q x y u v f g = refl
guarded true false q x y u v f g = refl
guarded true true false x y u v f g = refl
guarded true true true x y u v f g = λ t. f refl t && g refl t

tested : {A : Type 0} (s b : Bool) (m n x y : A) → (b ≡ true → x ≡ y) → (if s then m else if not b then n else x) ≡ (if s then m else if not b then n else y)
tested true b m n x y f = refl
tested false true m n x y f = f refl
tested false false m n x y f = refl

-- ---- A board's own words and bytes

module _ (l : Lent) where
  abbrev o : Lent
  o = own l

  -- with what is lent beyond
  abbrev more : Lent → Lent
  more x = lent (x.words ++ drop board_words l.words) (x.bytes ++ drop board_bytes l.bytes)

  own_words : o.words ++ drop board_words l.words ≡ l.words
  own_words = take-append-drop board_words l.words

  own_bytes : o.bytes ++ drop board_bytes l.bytes ≡ l.bytes
  own_bytes = take-append-drop board_bytes l.bytes

  whole : l ≡ more o
  whole = λ t. record { words = sym own_words t; bytes = sym own_bytes t }

  own_short : short_board o ≡ short_board l
  own_short = λ t. short_front board_words l.words t || short_front board_bytes l.bytes t

  own_word : (i : ℕ) → i < board_words → get_or o.words i 0 ≡ get_or l.words i 0
  own_word i h = get_or-take board_words l.words i 0 h

  own_part : (from to : ℕ) → to ≤ board_words → slice from to o.words ≡ slice from to l.words
  own_part from to h = ap (drop from) (take-take to board_words l.words h)

  own_bytes_part : (from to : ℕ) → to ≤ board_bytes → slice from to o.bytes ≡ slice from to l.bytes
  own_bytes_part from to h = ap (drop from) (take-take to board_bytes l.bytes h)

  own_packs : pack_count o ≡ pack_count l
  own_packs = own_word 0 (omega arith)

  own_queries : query_count o ≡ query_count l
  own_queries = own_word 1 (omega arith)

  own_slot : (i : ℕ) → i < most_packs → slot_at o i ≡ slot_at l i
  unfolding slot_start body_start
  own_slot i h =
      slot_same l o i i (own_word (slot_start i) (omega arith)) (own_part (slot_start i + 1) (slot_start (suc i)) (omega arith))
      (own_bytes_part (body_start i) (body_start (suc i)) (omega arith))

  own_slots : pack_count l ≤ most_packs → slots_in o ≡ slots_in l
  own_slots h = ap (each (slot_at o) 0) own_packs ∙ each_same (slot_at o) (slot_at l) 0 (pack_count l) (λ j a b. own_slot j (omega arith))

  own_room : (q : ℕ) → q < most_queries → have_room o q ≡ have_room l q
  unfolding have_room lengths_start
  own_room q h =
      let n : name_length o q ≡ name_length l q = own_word (lengths_start q) (omega arith) in
      let c : class_length o q ≡ class_length l q = own_word (lengths_start q + 1) (omega arith) in
      rw (n, c) refl

  own_rooms : (i n : ℕ) → i + n ≤ most_queries → all (have_room o) (each (λ q. q) i n) ≡ all (have_room l) (each (λ q. q) i n)
  unfolding all each
  own_rooms i zero h = refl
  own_rooms i (suc n) h = λ t. own_room i (omega arith) t && own_rooms (suc i) n (omega arith) t

  own_board : is_board o ≡ is_board l
  unfolding is_board
  own_board =
      (λ t.
      not (own_short t) && leb (own_packs t) most_packs && leb (own_queries t) most_queries && are_slots (slots_in o)
      && all (have_room o) (each (λ q. q) 0 (own_queries t)))
      ∙ guarded (not (short_board l)) (leb (pack_count l) most_packs) (leb (query_count l) most_queries) (are_slots (slots_in o)) (are_slots (slots_in l))
      (all (have_room o) (each (λ q. q) 0 (query_count l))) (all (have_room l) (each (λ q. q) 0 (query_count l)))
      (λ e. ap are_slots (own_slots (leb-true (pack_count l) most_packs e)))
      (λ e. own_rooms 0 (query_count l) (omega (arith, leb-true (query_count l) most_queries e)))

  -- ---- Of a board

  module _ (is : is_board l ≡ true) where
    abbrev h : Laid o
    h = laid o (own_board ∙ is)

    own_keeps : board_in o ≡ board_in l
    unfolding slot_start body_start
    own_keeps =
        let k = laid l is in
        let queries = queries_same l o k own_queries (λ i a b. own_word i (omega arith)) (λ from to b. own_bytes_part from to (omega arith)) in
        λ t. record { packs = map kept (own_slots k.packs_most t); queries = queries t }

    watch_own : (w : Watched) (k : ℕ) → reply_to (watch w) (board_in o) ≡ given k → writing (watch w) l ≡ more (writing (watch w) o)
    unfolding writing
    watch_own w k e =
        let p = watch_passed o h w k e in
        let lengths = length w.name ∷ length w.class ∷ [] in
        let texts = w.name ++ w.class in
        let q = sym own_queries in
        (λ t.
        lent
        (over 1 ((q t + 1) ∷ []) (over (lengths_start (q t)) lengths (sym own_words t)))
        (over (text_start (q t)) texts (sym own_bytes t)))
        ∙ (λ t. lent (
        marked_front 1 (query_count o + 1) (lengths_start (query_count o)) lengths o.words (drop board_words l.words) (omega (arith, h.words_long))
        (lengths_fit o h w p.1 p.2 p.3) t
        ) (over_front texts o.bytes (drop board_bytes l.bytes) (text_start (query_count o)) (texts_fit o h w p.1 p.2 p.3) t))

    arrive_own : (a : Arrival) (k : ℕ) → reply_to (arrive a) (board_in o) ≡ given k → writing (arrive a) l ≡ more (writing (arrive a) o)
    unfolding writing
    arrive_own a k e =
        let p = arrive_passed o h a k e in
        let slot = a.number ∷ take (2 + row_words * count_of a.contents) a.contents in
        let store = take (used_of a.contents) a.bodies in
        let i = sym own_packs in
        (λ t. lent (over 0 ((i t + 1) ∷ []) (over (slot_start (i t)) slot (sym own_words t))) (over (body_start (i t)) store (sym own_bytes t)))
        ∙ (λ t. lent (
        marked_front 0 (pack_count o + 1) (slot_start (pack_count o)) slot o.words (drop board_words l.words) (omega (arith, h.words_long))
        (slot_fits o h a p.0 p.1 p.2 p.3) t
        ) (over_front store o.bytes (drop board_bytes l.bytes) (body_start (pack_count o)) (store_fits o h a p.0 p.1 p.2 p.3) t))

    leave_own : (n k : ℕ) → reply_to (leave n) (board_in o) ≡ given k → writing (leave n) l ≡ more (writing (leave n) o)
    unfolding writing slot_start body_start
    leave_own n k e =
        let present = leave_passed o h n k e in
        let c = sym own_packs in
        let slots = sym (own_slots (laid l is).packs_most) in
        let gone = before n (slots_in o) in
        let behind = slice (slot_start (suc gone)) (slot_start (pack_count o)) o.words in
        let bodies = slice (body_start (suc gone)) (body_start (pack_count o)) o.bytes in
        let moved : slice (slot_start (suc (before n (slots_in l)))) (slot_start (pack_count l)) l.words ≡ behind =
        (λ t. slice (slot_start (suc (before n (slots t)))) (slot_start (c t)) l.words)
        ∙ sym (own_part (slot_start (suc gone)) (slot_start (pack_count o)) (omega (arith, h.packs_most))) in
        let movedBytes : slice (body_start (suc (before n (slots_in l)))) (body_start (pack_count l)) l.bytes ≡ bodies =
        (λ t. slice (body_start (suc (before n (slots t)))) (body_start (c t)) l.bytes)
        ∙ sym (own_bytes_part (body_start (suc gone)) (body_start (pack_count o)) (omega (arith, h.packs_most))) in
        (λ t.
        lent
        (over 0 ((c t - 1) ∷ []) (over (slot_start (before n (slots t))) (moved t) (sym own_words t)))
        (over (body_start (before n (slots t))) (movedBytes t) (sym own_bytes t)))
        ∙ (λ t. lent (
        marked_front 0 (pack_count o - 1) (slot_start gone) behind o.words (drop board_words l.words) (omega (arith, h.words_long))
        (behind_fits o h n present) t
        ) (over_front bodies o.bytes (drop board_bytes l.bytes) (body_start gone) (bodies_behind_fit o h n present) t))

    writing_own : (c : Call) (k : ℕ) → reply_to c (board_in o) ≡ given k → writing c l ≡ more (writing c o)
    writing_own (watch w) k e = watch_own w k e
    writing_own (arrive a) k e = arrive_own a k e
    writing_own (leave n) k e = leave_own n k e

    accepted_own : (c : Call)
        → (let a = reply_to c (board_in l) in done a (if_given a (writing c l) l)) ≡ with_beyond l (let a = reply_to c (board_in o) in done a (if_given a (writing c o) o))
    unfolding if_given
    accepted_own c =
        (λ t. let a = reply_to c (sym own_keeps t) in done a (if_given a (writing c l) l)) ∙ at (reply_to c (board_in o)) refl
      where
        at : (a : Reply ℕ) → reply_to c (board_in o) ≡ a → done a (if_given a (writing c l) l) ≡ with_beyond l (done a (if_given a (writing c o) o))
        at (given k) e = ap (done (given k)) (writing_own c k e)
        at no_value e = ap (done no_value) whole
        at (refused k) e = ap (done (refused k)) whole

  tested_own : (s b : Bool) (x y : Done) → (b ≡ true → x ≡ with_beyond l y)
      → (if s then done (refused 1) l else if not b then done (refused 8) l else x)
      ≡ with_beyond l (if s then done (refused 1) o else if not b then done (refused 8) o else y)
  tested_own true b x y f = ap (done (refused 1)) whole
  tested_own false true x y f = f refl
  tested_own false false x y f = ap (done (refused 8)) whole

  own_call : (c : Call) → board_call c l ≡ with_beyond l (board_call c o)
  unfolding board_call
  own_call c =
      let y : Done = let a = reply_to c (board_in o) in done a (if_given a (writing c o) o) in
      tested_own (short_board l) (is_board l) (let a = reply_to c (board_in l) in done a (if_given a (writing c l) l)) y (λ is. accepted_own is c)
      ∙ (λ t. with_beyond l (if sym own_short t then done (refused 1) o else if not (sym own_board t) then done (refused 8) o else y))

  own_make : board_make l ≡ with_beyond l (board_make o)
  unfolding board_make
  own_make = at (short_board l) refl ∙ (λ t. with_beyond l (if sym own_short t then done (refused 1) o else made))
    where
      made : Done
      made = done (given 0) (lent (over 0 (0 ∷ 0 ∷ []) o.words) o.bytes)

      at : (s : Bool) → short_board l ≡ s
          → (if s then done (refused 1) l else done (given 0) (lent (over 0 (0 ∷ 0 ∷ []) l.words) l.bytes))
          ≡ with_beyond l (if s then done (refused 1) o else made)
      at true e = ap (done (refused 1)) whole
      at false e =
          let words =
          ap (over 0 (0 ∷ 0 ∷ [])) (sym own_words)
          ∙ over_front (0 ∷ 0 ∷ []) o.words (drop board_words l.words) 0 (omega (arith, length-take-le board_words l.words (long_board l e).0)) in
          λ t. done (given 0) (lent (words t) (sym own_bytes t))

  own_answer : (q : ℕ) → board_answer l q ≡ board_answer o q
  unfolding board_answer
  own_answer q =
      tested (short_board l) (is_board l) (refused 1) (refused 8) (watched_answer (board_in l) q) (watched_answer (board_in o) q)
      (λ is. sym (ap (λ (b : Board). watched_answer b q) (own_keeps is)))
      ∙ (λ t. if sym own_short t then refused 1 else if not (sym own_board t) then refused 8 else watched_answer (board_in o) q)

  own_answers : board_answers l ≡ board_answers o
  unfolding board_answers
  own_answers =
      tested (short_board l) (is_board l) (refused 1) (refused 8) (given (watched_answers (board_in l))) (given (watched_answers (board_in o)))
      (λ is. sym (ap (λ (b : Board). given (watched_answers b)) (own_keeps is)))
      ∙ (λ t. if sym own_short t then refused 1 else if not (sym own_board t) then refused 8 else given (watched_answers (board_in o)))

  own_report : (n : ℕ) → board_report l n ≡ board_report o n
  unfolding board_report
  own_report n =
      tested (short_board l) (is_board l) (refused 1) (refused 8) (report n (board_in l)) (report n (board_in o))
      (λ is. sym (ap (report n) (own_keeps is)))
      ∙ (λ t. if sym own_short t then refused 1 else if not (sym own_board t) then refused 8 else report n (board_in o))

pub nothing_beyond : NothingBeyond
nothing_beyond l = record { making = own_make l; calls = own_call l; answers = own_answer l; all_answers = own_answers l; reports = own_report l }
