-- What the calls of a board answer, test by test. Assumes nothing.
use Rattle.std.specs.Prelude.{if◌then◌else◌, Option, None, Some, Ok, MatchOption, MatchResult}
use Rattle.std.specs.Option.{ok_or}
use mathlib.Core.Bool.{Bool, true, false, not, or-true}
use mathlib.Core.List.{List}
use mathlib.Core.Path.{◌≡◌, refl, sym, ap, ◌∙◌}
use Prim.Native.Nat.{ℕ, ◌≤◌, ◌<◌}
use native.Mathlib.Nat.{sub-zero}
use lib.Dec.{eqb}
use borrow.Author.Tests.{le-leb, lt-leb, eq-eqb, ne_eqb}
use Rattle.definition.specs.Lists.{any}
use Rattle.definition.specs.Limits.{query_parts, most_packs, most_queries}
use Rattle.definition.specs.Image.{is_image}
use Rattle.definition.specs.Query.{past_limit, query_of}
use Rattle.query.specs.declared.Split.{Split}
use Rattle.query.specs.Shapes.{asked}
use Rattle.board_layout.specs.declared.Buffers.{Buffers}
use Rattle.board_layout.specs.Laid.{lent_of}
use Rattle.definition.specs.Lookup.{Reply, given, no_value, refused}
use Rattle.definition.specs.Board.{Arrival, Watched, Call, watch, arrive, leave, is_present, checked, reply_to, if_given, each, Lent, pack_count, query_count, slots_in, board_in, short_board, is_board, done, writing, board_call}
use Rattle.board_laws.proofs.Slots.{slot_present}
use Rattle.board_laws.proofs.Calls.{Laid}
use Rattle.board_laws.proofs.Histories.{refused_given, called, packs_held, queries_held}
use Rattle.refusal.specs.declared.Refusal.{Refusal}
use Rattle.refusal.specs.declared.Refusal.TheVariants.{PackNumber}
use Rattle.refusal.specs.Numbers.{number}
use Rattle.board_judge.specs.Slots.{number_at, has_number_from, turns_away}
use Rattle.board.specs.Replies.{left}
use Rattle.board_judge.proofs.Judging.{turned_away, slots_number}

-- ---- The call's answer

module _ (c : Call) (l : Lent) where
  -- it is 1, 8, or the board's own
  answer_is : (board_call c l).answer ≡ (if short_board l then refused 1 else if not (is_board l) then refused 8 else reply_to c (board_in l))
  unfolding board_call
  answer_is = at (short_board l) (is_board l)
    where
      at : (s b : Bool)
          → (if s then done (refused 1) l else if not b then done (refused 8) l
          else (let a = reply_to c (board_in l) in done a (if_given a (writing c l) l))).answer
          ≡ (if s then refused 1 else if not b then refused 8 else reply_to c (board_in l))
      at true b = refl
      at false true = refl
      at false false = refl

  pub answer_away : (k : Refusal) → turns_away l k → refused (number k) ≡ (board_call c l).answer
  answer_away k h = turned_away l k h ℕ (reply_to c (board_in l)) ∙ sym answer_is

  pub answer_on : is_board l ≡ true → reply_to c (board_in l) ≡ (board_call c l).answer
  answer_on h = sym (ap (λ d. d.answer) (called l h c))

  -- a refusal leaves the board as it is
  pub call_refused : (k : ℕ) → refused k ≡ (board_call c l).answer → done (refused k) l ≡ board_call c l
  unfolding board_call if_given
  call_refused k = at (short_board l) (is_board l) (reply_to c (board_in l))
    where
      at : (s b : Bool) (a : Reply ℕ)
          → refused k ≡ (if s then done (refused 1) l else if not b then done (refused 8) l else done a (if_given a (writing c l) l)).answer
          → done (refused k) l ≡ (if s then done (refused 1) l else if not b then done (refused 8) l else done a (if_given a (writing c l) l))
      at true b a e = ap (λ (r : Reply ℕ). done r l) e
      at false false a e = ap (λ (r : Reply ℕ). done r l) e
      at false true (given n) e = absurd (refused_given e)
      at false true no_value e = ap (λ (r : Reply ℕ). done r l) e
      at false true (refused j) e = ap (λ (r : Reply ℕ). done r l) e

  -- an accepted call is one of a board
  pub call_board : (n : ℕ) → given n ≡ (board_call c l).answer → (is_board l ≡ true) × (reply_to c (board_in l) ≡ given n)
  call_board n e = at (short_board l) (is_board l) refl (e ∙ answer_is)
    where
      at : (s b : Bool) → is_board l ≡ b → given n ≡ (if s then refused 1 else if not b then refused 8 else reply_to c (board_in l))
          → (is_board l ≡ true) × (reply_to c (board_in l) ≡ given n)
      at true b f z = absurd (refused_given (sym z))
      at false true f z = (f, sym z)
      at false false f z = absurd (refused_given (sym z))

  pub call_given : (n : ℕ) → given n ≡ (board_call c l).answer → (o : Lent) → o ≡ writing c l → done (given n) o ≡ board_call c l
  unfolding if_given
  call_given n e o w = let h = call_board n e in sym (called l h.0 c ∙ rw (h.1, w) refl)

-- ---- A query

module _ (n : ℕ) where
  -- malformed or not
  pub checked_ok : (name class : List ℕ) (o : Option (Split query_parts × Split query_parts)) → checked n (asked name class (Ok o)) ≡ given n
  unfolding checked
  checked_ok name class None = refl
  checked_ok name class (Some p) = refl

  pub checked_err : (k : Refusal) → checked n (past_limit (number k)) ≡ refused (number k)
  unfolding checked
  checked_err k = refl

module _ (l : Lent) (h : Laid l) (w : Watched) where
  pub query_many : most_queries ≤ query_count l → refused 13 ≡ reply_to (watch w) (board_in l)
  unfolding reply_to
  query_many k = rw (queries_held l h, le-leb most_queries (query_count l) k) refl

  pub query_checked : query_count l < most_queries → checked (query_count l) (query_of w.name w.class) ≡ reply_to (watch w) (board_in l)
  unfolding reply_to
  query_checked k = rw (queries_held l h, lt-leb most_queries (query_count l) k) refl

-- ---- A pack

-- its number among the words is its number among the packs
pub number_present : (l : Lent) (n : ℕ) → has_number_from l.words n 0 (pack_count l) ≡ is_present n (board_in l)
unfolding has_number_from
number_present l n =
    ap (λ (m : ℕ). any (eqb n) (each (number_at l.words) 0 m)) (sub-zero (pack_count l))
    ∙ sym (slots_number l n 0 (pack_count l))
    ∙ sym (slot_present n (slots_in l))

-- as the words of a judged board tell it
pub number_found : (l : Lent) (b : Buffers) (n count : ℕ) {found : Bool} → lent_of b ≡ l → count ≡ pack_count l → found ≡ has_number_from b.words.now n 0 count
    → is_present n (board_in l) ≡ found
number_found l b n count e k f = sym (number_present l n) ∙ rw (k, ap (λ (o : Lent). o.words) e) at (sym f)

module _ (l : Lent) (h : Laid l) (a : Arrival) where
  pub arrive_no_image : is_image a.contents a.bodies ≡ false → refused 8 ≡ reply_to (arrive a) (board_in l)
  unfolding reply_to
  arrive_no_image e = rw e refl

  module _ (image : is_image a.contents a.bodies ≡ true) where
    pub arrive_many : most_packs ≤ pack_count l → refused 13 ≡ reply_to (arrive a) (board_in l)
    unfolding reply_to
    arrive_many k = rw (image, packs_held l h, le-leb most_packs (pack_count l) k) refl

    module _ (room : pack_count l < most_packs) where
      pub arrive_zero : a.number ≡ 0 → refused 14 ≡ reply_to (arrive a) (board_in l)
      unfolding reply_to
      arrive_zero e = rw (image, packs_held l h, lt-leb most_packs (pack_count l) room, eq-eqb a.number 0 e) refl

      pub arrive_present : is_present a.number (board_in l) ≡ true → refused 14 ≡ reply_to (arrive a) (board_in l)
      unfolding reply_to
      arrive_present e = rw (image, packs_held l h, lt-leb most_packs (pack_count l) room, e, or-true (eqb a.number 0)) refl

      pub arrive_done : (a.number ≡ 0 → ⊥) → is_present a.number (board_in l) ≡ false → given 0 ≡ reply_to (arrive a) (board_in l)
      unfolding reply_to
      arrive_done e f = rw (image, packs_held l h, lt-leb most_packs (pack_count l) room, ne_eqb a.number 0 e, f) refl

module _ (l : Lent) (n : ℕ) where
  pub leave_zero : n ≡ 0 → refused 14 ≡ reply_to (leave n) (board_in l)
  unfolding reply_to
  leave_zero e = rw (eq-eqb n 0 e) refl

  pub leave_absent : is_present n (board_in l) ≡ false → refused 14 ≡ reply_to (leave n) (board_in l)
  unfolding reply_to
  leave_absent e = rw (e, or-true (eqb n 0)) refl

  pub leave_done : (n ≡ 0 → ⊥) → is_present n (board_in l) ≡ true → given 0 ≡ reply_to (leave n) (board_in l)
  unfolding reply_to
  leave_done e f = rw (ne_eqb n 0 e, f) refl

module _ (l : Lent) (n : ℕ) (is : is_board l ≡ true) (named : n ≡ 0 → ⊥) where
  -- by the slot that is found
  pub leave_told : {has : Bool} → is_present n (board_in l) ≡ has → (k : ℕ) (o : Option ℕ) → MatchOption o (has ≡ false) (λ i. (has ≡ true) × (i ≡ k))
      → left (ok_or o PackNumber) ≡ (board_call (leave n) l).answer
  leave_told p k None h = leave_absent l n (p ∙ h) ∙ answer_on (leave n) l is
  leave_told p k (Some i) h = leave_done l n named (p ∙ h.0) ∙ answer_on (leave n) l is

-- and where it stands
pub slot_told : (has : Bool) (k : ℕ) (o : Option ℕ) → MatchOption o (has ≡ false) (λ i. (has ≡ true) × (i ≡ k)) → MatchResult (ok_or o PackNumber) (λ i. i ≡ k) (λ r. r ≡ PackNumber)
slot_told has k None h = refl
slot_told has k (Some i) h = h.1
