-- All watched answers, written number by number, are those that the call for one gives and leaves. Assumes nothing.
use Rattle.std.specs.Prelude.{Option, Some, None, Result, Ok, Err}
use mathlib.Core.Bool.{true}
use mathlib.Core.List.{List, ◌∷◌, ◌++◌, append-nil}
use mathlib.Core.Path.{◌≡◌, refl, sym, ap, ◌∙◌}
use Prim.Native.Nat.{ℕ, ◌+◌, ◌*◌, ◌≤◌, ◌<◌}
use native.Mathlib.Numerals.{add-one}
use native.Mathlib.Omega.{arith}
use lib.ListN.{length, drop, get_or, set, length-append, length-drop, drop_of_length-le}
use lib.Seq.{drop-cons, append_snoc, set_at, get_or-append-add}
use Rattle.definition.specs.Limits.{most_queries}
use Rattle.definition.specs.Lookup.{Reply, given}
use Rattle.definition.specs.Board.{Found, watched_answer, watched_answers, each, Lent, query_count, board_in, is_board, board_answer, board_answers}
use Rattle.board_laws.proofs.Placing.{each_long, each_at, each_more}
use Rattle.board_laws.proofs.Calls.{laid}
use Rattle.board_laws.proofs.Histories.{queries_held, answered, all_answered_lem}
use Rattle.board_laws.proofs.Answers.{among_all}
use Rattle.refusal.specs.declared.Refusal.{Refusal}
use Rattle.refusal.specs.Numbers.{number}
use Rattle.board_judge.specs.Slots.{turns_away}
use Rattle.board_judge.proofs.Judging.{turned_away}
use Rattle.codes.specs.Codes.{from16}
use Rattle.board_answer.specs.declared.Found as answer
use Rattle.board_answer.specs.Replies.{found_of, answered as replied}
use Rattle.board_answer.proofs.Answering.{answer_placed}
use Rattle.board_codes.specs.Codes.{Answering, answering, answer_numbers, Placed}
use Rattle.board_answers.specs.Numbers.{numbers_at, answers_of, packs_of, all_answered, all_numbers}

pub answer_small : (l : Lent) (q : ℕ) (r : Result (Option answer.Found) Refusal) → replied r ≡ board_answer l q → Placed r
answer_small l q (Ok (Some f)) e = answer_placed l q (found_of f) e
answer_small l q (Ok None) e = tt
answer_small l q (Err k) e = tt

-- ---- A list written from its front on

-- up to number q
pub record Written (f : ℕ → ℕ) (before : List ℕ) (q : ℕ) (now : List ℕ) : Type 0 where
  pub are : now ≡ each f 0 q ++ drop q before

module _ (f : ℕ → ℕ) (before : List ℕ) where
  pub written_first : Written f before 0 before
  unfolding each
  written_first = record { are = refl }

  module _ (q : ℕ) (now : List ℕ) (h : Written f before q now) where
    rest : q < length before → now ≡ each f 0 q ++ get_or before q 0 ∷ drop (q + 1) before
    rest k = h.are ∙ ap (λ (xs : List ℕ). each f 0 q ++ xs) (drop-cons before q 0 k ∙ rw add-one refl)

    pub written_more : q < length before → (x : ℕ) → x ≡ f q → Written f before (q + 1) (set now q x)
    written_more k x e = record {
      are =
          ap (λ (xs : List ℕ). set xs q x) (rest k)
          ∙ set_at (each f 0 q) (get_or before q 0) (drop (q + 1) before) x q (each_long f 0 q)
          ∙ rw e (sym (append_snoc (each f 0 q) (f q) (drop (q + 1) before)))
          ∙ ap (λ (xs : List ℕ). xs ++ drop (q + 1) before) (sym (each_more f q));
    }

    -- as it was lent, from q on
    pub written_there : q < length before → get_or now q 0 ≡ get_or before q 0
    written_there k =
        let xs = each f 0 q in
        let e : length xs + 0 ≡ q = omega (arith, each_long f 0 q) in
        ap (λ (l : List ℕ). get_or l q 0) (rest k)
        ∙ sym (ap (λ (n : ℕ). get_or (xs ++ get_or before q 0 ∷ drop (q + 1) before) n 0) e)
        ∙ get_or-append-add xs (get_or before q 0 ∷ drop (q + 1) before) 0 0

    pub written_long : q ≤ length before → length now ≡ length before
    written_long k = ap length h.are ∙ length-append (each f 0 q) (drop q before) ∙ omega (arith, each_long f 0 q, length-drop q before)

    pub written_all : length before ≤ q → (n : ℕ) → n ≡ q → now ≡ each f 0 n
    written_all k n e = h.are ∙ ap (λ (xs : List ℕ). each f 0 q ++ xs) (drop_of_length-le before k) ∙ append-nil (each f 0 q) ∙ ap (each f 0) (sym e)

-- ---- Both arrays

abbrev all : Lent → List (Reply Found)
all l = watched_answers (board_in l)

-- the first q answers stand in both
pub record Put (l : Lent) (answers₀ packs₀ answers packs : List ℕ) (q : ℕ) : Type 0 where
  pub codes : Written (λ n. (numbers_at (all l) packs₀ n).code) answers₀ q answers
  pub numbers : Written (λ n. (numbers_at (all l) packs₀ n).pack) packs₀ q packs
  pub most : q ≤ most_queries

module _ (l : Lent) (answers₀ packs₀ : List ℕ) (e : length answers₀ ≡ most_queries) (g : length packs₀ ≡ most_queries) where
  pub put_first : Put l answers₀ packs₀ answers₀ packs₀ 0
  put_first = record { codes = written_first _ answers₀; numbers = written_first _ packs₀; most = omega arith }

  module _ (answers packs : List ℕ) (q : ℕ) (h : Put l answers₀ packs₀ answers packs q) where
    pub put_long : (length answers ≡ most_queries) × (length packs ≡ most_queries)
    put_long =
        (written_long _ answers₀ q answers h.codes (omega (arith, h.most)) ∙ e, written_long _ packs₀ q packs h.numbers (omega (arith, h.most)) ∙ g)

    -- what the call for one gives and leaves
    pub put_more : q < most_queries → (r : Result (Option answer.Found) Refusal) → replied r ≡ watched_answer (board_in l) q → (x p : ℕ)
        → answering x p ≡ answer_numbers (replied r) (get_or packs q 0) → Put l answers₀ packs₀ (set answers q x) (set packs q p) (q + 1)
    put_more k r f x p z =
        let one : answering x p ≡ numbers_at (all l) packs₀ q =
        z ∙ rw (f, written_there _ packs₀ q packs h.numbers (omega arith), among_all (board_in l) q) refl in
        record {
          codes = written_more _ answers₀ q answers h.codes (omega arith) x (ap (λ (a : Answering). a.code) one);
          numbers = written_more _ packs₀ q packs h.numbers (omega arith) p (ap (λ (a : Answering). a.pack) one);
          most = omega arith;
        }

    pub put_all : most_queries ≤ q → (answers ≡ answers_of (all l) packs₀) × (packs ≡ packs_of (all l) packs₀)
    put_all k =
        let n : most_queries ≡ q = omega (arith, h.most) in
        (written_all _ answers₀ q answers h.codes (omega arith) most_queries n, written_all _ packs₀ q packs h.numbers (omega arith) most_queries n)

-- ---- The call

module _ (l : Lent) (answers packs : List ℕ) where
  pub all_away : (k : Refusal) → turns_away l k → all_answered (number k) answers packs ≡ all_numbers (board_answers l) answers packs
  unfolding board_answers
  all_away k h = ap (λ (r : Reply (List (Reply Found))). all_numbers r answers packs) (turned_away l k h (List (Reply Found)) (given (watched_answers (board_in l))))

  pub all_given : is_board l ≡ true → (answers' packs' : List ℕ) → answers' ≡ answers_of (watched_answers (board_in l)) packs → packs' ≡ packs_of (watched_answers (board_in l)) packs
      → all_answered (from16 * query_count l) answers' packs' ≡ all_numbers (board_answers l) answers packs
  all_given is answers' packs' g h =
      let long : query_count l ≡ length (watched_answers (board_in l)) =
      sym (queries_held l (laid l is)) ∙ sym (each_long (watched_answer (board_in l)) 0 (length (board_in l).queries)) in
      (λ t. all_answered (from16 * long t) (g t) (h t)) ∙ sym (ap (λ (r : Reply (List (Reply Found))). all_numbers r answers packs) (all_answered_lem l is))

-- in a board number q is just what the call for one gives and leaves
pub as_one : (l : Lent) → is_board l ≡ true → (answers packs : List ℕ) (q : ℕ) → q < most_queries
    → let x = all_numbers (board_answers l) answers packs in
    answering (get_or x.answers q 0) (get_or x.packs q 0) ≡ answer_numbers (board_answer l q) (get_or packs q 0)
as_one l is answers packs q h =
    let rs = watched_answers (board_in l) in
    let z : 0 + q ≡ q = omega arith in
    rw (all_answered_lem l is)
    ((λ t.
    answering (each_at (λ n. (numbers_at rs packs n).code) 0 most_queries q 0 h t) (each_at (λ n. (numbers_at rs packs n).pack) 0 most_queries q 0 h t))
    ∙ rw (z, among_all (board_in l) q, ← answered l is q) refl)
