-- After every list of calls from an empty board the buffers are a board, and keep what the history says. Assumes nothing.
use Rattle.std.specs.Prelude.{if◌then◌else◌}
use mathlib.Core.Bool.{Bool, true, false, ◌&&◌, ◌||◌, not}
use mathlib.Core.List.{List, [], ◌∷◌, map}
use mathlib.Core.Option.{Option, some, none}
use mathlib.Core.Path.{◌≡◌, refl, sym, ap, ◌∙◌}
use Prim.Native.Nat.{ℕ, ◌≤◌, ◌<◌}
use native.Mathlib.Omega.{arith}
use lib.Dec.{eqb, leb, ltb}
use lib.ListN.{length, length-map}
use native.Mathlib.Decide.{dec_lt}
use borrow.Author.Tests.{not-false, ltb-false, le-leb, le-ltb}
use Rattle.definition.specs.Limits.{query_bytes, most_packs, most_queries, board_words, board_bytes}
use Rattle.definition.specs.Image.{is_image}
use Rattle.definition.specs.Query.{Query, positions, malformed, past_limit, names_of, counted_query, query_within, shell, query_of}
use Rattle.definition.specs.Lookup.{Reply, given, no_value, refused}
use Rattle.definition.specs.Adding.{over}
use Rattle.definition.specs.Board.{
  Arrival,
  kept,
  Watched,
  Board,
  empty,
  Call,
  watch,
  arrive,
  leave,
  is_present,
  checked,
  reply_to,
  changed,
  if_given,
  turned,
  after_calls,
  history,
  watched_answer,
  watched_answers,
  report,
  each,
  Lent,
  pack_count,
  query_count,
  slot_at,
  query_at,
  slots_in,
  board_in,
  short_board,
  are_slots,
  is_board,
  done,
  board_make,
  writing,
  board_call,
  board_answer,
  board_answers,
  board_report,
  after_all,
  LeavesBoards,
}
use Rattle.laws.proofs.Lists.{not_both}
use Rattle.laws.proofs.Adding.{over_long}
use Rattle.board_laws.proofs.Placing.{each_long}
use Rattle.board_laws.proofs.Slots.{has_slot, or_false, slot_present}
use Rattle.board_laws.proofs.Calls.{Laid, laid, is_board_lem, long_board, Becomes, watch_becomes, arrive_becomes, leave_becomes}

-- ---- A test that does not turn a call away

pub refused_given : {A : Type 0} {k : ℕ} {a : A} → refused k ≡ given a → ⊥
refused_given e = let z : ◌≡◌ {A = ℕ} 0 1 = cc in omega arith

passed : {A : Type 0} (b : Bool) (k : ℕ) (r : Reply A) (a : A) → (if b then refused k else r) ≡ given a → (b ≡ false) × (r ≡ given a)
passed true k r a e = absurd (refused_given e)
passed false k r a e = (refl, e)

not_leb : (m n : ℕ) → leb m n ≡ false → n < m
not_leb m n e = at (leb m n) refl e (dec_lt n m)
  where
    at : (b : Bool) → leb m n ≡ b → b ≡ false → Dec (n < m) → n < m
    at b p q (yes h) = h
    at b p q (no h) = absurd (not_both (le-leb m n (omega arith)) (p ∙ q))

-- ---- What an accepted call has passed

-- a query that is kept is no longer than a query may be
checked_short : (name class : List ℕ) (n k : ℕ) → checked n (query_of name class) ≡ given k → (length name ≤ query_bytes) × (length class ≤ query_bytes)
unfolding query_within
checked_short name class n k = at (ltb query_bytes (length name) || ltb query_bytes (length class)) refl
  where
    at : (b : Bool) → (ltb query_bytes (length name) || ltb query_bytes (length class)) ≡ b
        → checked n (if b then past_limit 9 else counted_query shell (names_of name) (names_of class)) ≡ given k
        → (length name ≤ query_bytes) × (length class ≤ query_bytes)
    at true e f = unfold checked in absurd (refused_given f)
    at false e f =
        let p = or_false (ltb query_bytes (length name)) (ltb query_bytes (length class)) e in
        (ltb-false query_bytes (length name) p.0, ltb-false query_bytes (length class) p.1)

checked_number : (n : ℕ) (q : Query) (k : ℕ) → checked n q ≡ given k → k ≡ n
unfolding checked
checked_number n (positions qs) k e = cc
checked_number n malformed k e = cc
checked_number n (past_limit j) k e = absurd (refused_given e)

zero_small : {k : ℕ} → given 0 ≡ given k → k < most_queries
zero_small {k} e = let z : k ≡ 0 = cc in omega (arith, z)

module _ (l : Lent) (h : Laid l) where
  pub packs_held : length (board_in l).packs ≡ pack_count l
  packs_held = length-map (slots_in l) kept ∙ each_long (slot_at l) 0 (pack_count l)

  pub queries_held : length (board_in l).queries ≡ query_count l
  queries_held = each_long (query_at l) 0 (query_count l)

  pub watch_passed : (w : Watched) (k : ℕ) → reply_to (watch w) (board_in l) ≡ given k
      → (k ≡ query_count l) × (query_count l < most_queries) × (length w.name ≤ query_bytes) × (length w.class ≤ query_bytes)
  unfolding reply_to
  watch_passed w k e =
      let p = passed (leb most_queries (length (board_in l).queries)) 13 _ k e in
      let room = not_leb most_queries (length (board_in l).queries) p.0 in
      let s = checked_short w.name w.class (length (board_in l).queries) k p.1 in
      let n = checked_number (length (board_in l).queries) (query_of w.name w.class) k p.1 in
      (omega (arith, n, queries_held), omega (arith, room, queries_held), s.0, s.1)

  pub arrive_passed : (a : Arrival) (k : ℕ) → reply_to (arrive a) (board_in l) ≡ given k
      → (pack_count l < most_packs) × (is_image a.contents a.bodies ≡ true) × (eqb a.number 0 ≡ false) × (has_slot a.number (slots_in l) ≡ false)
  unfolding reply_to
  arrive_passed a k e =
      let p = passed (not (is_image a.contents a.bodies)) 8 _ k e in
      let q = passed (leb most_packs (length (board_in l).packs)) 13 _ k p.1 in
      let r = passed (eqb a.number 0 || is_present a.number (board_in l)) 14 _ k q.1 in
      let s = or_false (eqb a.number 0) (is_present a.number (board_in l)) r.0 in
      let room = not_leb most_packs (length (board_in l).packs) q.0 in
      (omega (arith, room, packs_held), not-false (is_image a.contents a.bodies) p.0, s.0, sym (slot_present a.number (slots_in l)) ∙ s.1)

  pub leave_passed : (n k : ℕ) → reply_to (leave n) (board_in l) ≡ given k → has_slot n (slots_in l) ≡ true
  unfolding reply_to
  leave_passed n k e =
      let p = passed (eqb n 0 || not (is_present n (board_in l))) 14 (given 0) k e in
      let q = or_false (eqb n 0) (not (is_present n (board_in l))) p.0 in
      sym (slot_present n (slots_in l)) ∙ not-false (is_present n (board_in l)) q.1

  -- the number that an accepted call answers
  pub reply_small : (c : Call) (k : ℕ) → reply_to c (board_in l) ≡ given k → k < most_queries
  unfolding reply_to
  reply_small (watch w) k e = let p = watch_passed w k e in omega (arith, p.0, p.1)
  reply_small (arrive a) k e =
      let p = passed (not (is_image a.contents a.bodies)) 8 _ k e in
      let q = passed (leb most_packs (length (board_in l).packs)) 13 _ k p.1 in
      let r = passed (eqb a.number 0 || is_present a.number (board_in l)) 14 _ k q.1 in
      zero_small r.1
  reply_small (leave n) k e = zero_small (passed (eqb n 0 || not (is_present n (board_in l))) 14 (given 0) k e).1

  accepted : (c : Call) (k : ℕ) → reply_to c (board_in l) ≡ given k → Becomes (writing c l) (changed c (board_in l))
  accepted (watch w) k e = let p = watch_passed w k e in watch_becomes l h w p.1 p.2 p.3
  accepted (arrive a) k e = let p = arrive_passed a k e in arrive_becomes l h a p.0 p.1 p.2 p.3
  accepted (leave n) k e = leave_becomes l h n (leave_passed n k e)

-- ---- A call, and a list of them

pub not_short : (l : Lent) → is_board l ≡ true → short_board l ≡ false
not_short l is =
    let h = laid l is in
    rw (le-ltb (length l.words) board_words h.words_long, le-ltb (length l.bytes) board_bytes h.bytes_long) refl

module _ (l : Lent) (is : is_board l ≡ true) where
  -- in a board a call does what its definition says
  pub called : (c : Call) → board_call c l ≡ (let a = reply_to c (board_in l) in done a (if_given a (writing c l) l))
  unfolding board_call
  called c = rw (not_short l is, is) refl

  pub call_becomes : (c : Call) → Becomes (board_call c l).board (turned c (board_in l))
  unfolding if_given
  call_becomes c = rw (called c) (at (reply_to c (board_in l)) refl)
    where
      at : (a : Reply ℕ) → reply_to c (board_in l) ≡ a → Becomes (if_given a (writing c l) l) (if_given a (changed c (board_in l)) (board_in l))
      at (given k) e = accepted l (laid l is) c k e
      at no_value e = record { is = is; keeps = refl }
      at (refused k) e = record { is = is; keeps = refl }

  pub answered : (q : ℕ) → board_answer l q ≡ watched_answer (board_in l) q
  unfolding board_answer
  answered q = rw (not_short l is, is) refl

  pub all_answered_lem : board_answers l ≡ given (watched_answers (board_in l))
  unfolding board_answers
  all_answered_lem = rw (not_short l is, is) refl

  pub reports : (n : ℕ) → board_report l n ≡ report n (board_in l)
  unfolding board_report
  reports n = rw (not_short l is, is) refl

pub leaves_boards : LeavesBoards
leaves_boards l c is = (call_becomes l is c).is

after_all_lem : (cs : List Call) (l : Lent) (b : Board) → Becomes l b → Becomes (after_all cs l) (after_calls cs b)
unfolding after_all after_calls
after_all_lem [] l b h = h
after_all_lem (c ∷ cs) l b h =
    let k = call_becomes l h.is c in
    after_all_lem cs (board_call c l).board (turned c b) (record { is = k.is; keeps = k.keeps ∙ ap (turned c) h.keeps })

made : (l : Lent) → short_board l ≡ false → Becomes (board_make l).board empty
unfolding board_make over
made l e = rw e (record {
  is = is_board_lem o (record {
    words_long = omega (arith, long.0, words);
    bytes_long = long.1;
    packs_most = omega arith;
    queries_most = omega arith;
    slots = unfold each are_slots in refl;
    rooms = λ q h. absurd (omega arith);
  });
  keeps = unfold each in refl;
})
  where
    o : Lent
    o = record { words = over 0 (0 ∷ 0 ∷ []) l.words; bytes = l.bytes }

    long : (board_words ≤ length l.words) × (board_bytes ≤ length l.bytes)
    long = long_board l e

    words : length o.words ≡ length l.words
    words = over_long 0 (0 ∷ 0 ∷ []) l.words (omega (arith, long.0))

pub follows : (l : Lent) (cs : List Call) → short_board l ≡ false → Becomes (after_all cs (board_make l).board) (history cs)
follows l cs e = after_all_lem cs (board_make l).board empty (made l e)
