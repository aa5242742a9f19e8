-- What document 02 (ix) says of the calls, by their contracts: after every list of calls on a board that was made, each answer, refusal and report is
-- that of the history, and a pack that leaves changes an answer's bytes (or none) just where the striking_off rule says. Assumes nothing.
use Rattle.std.specs.Prelude.{if◌then◌else◌}
use mathlib.Core.Bool.{Bool, true, false, ◌||◌, not}
use mathlib.Core.List.{List, [], ◌∷◌}
use mathlib.Core.Logic.{◌↔◌, ◌⊎◌}
use mathlib.Core.Path.{◌≡◌, refl, ap, ◌∙◌}
use Prim.Native.Nat.{ℕ}
use native.Mathlib.Omega.{arith}
use lib.Dec.{eqb}
use Rattle.definition.specs.Lookup.{Reply, given, refused}
use Rattle.definition.specs.Adding.{over}
use Rattle.definition.specs.ThirdTerm.{NoneThroughBeats, SameBytesWithout}
use Rattle.definition.specs.Board.{Call, leave, is_present, reply_to, if_given, history, joined, Found, query_number, watched_answer, watched_answers, report, Lent, lent, board_in, short_board, is_board, Done, done, board_make, writing, board_call, board_answer, board_answers, board_report, after_all, reached, Follows, through_pack, bytes_answered}
use Rattle.board_laws.proofs.Histories.{follows}
use Rattle.board_laws.proofs.Answers.{follows_history, leaving_strikes_off}
use Rattle.board_codes.specs.Codes.{call_code, Answering, answer_numbers, report_code}
use Rattle.board_answers.specs.Numbers.{AllAnswered, all_numbers}
use Rattle.resource_manager.specs.Boundary.{Crossing, crossing, board_crossed}

-- ---- Calls, one after another

-- a call on l, by its contract: the number that it gave, and m, which it left
pub record Step (c : Call) (l m : Lent) : Type 0 where
  pub gave : ℕ
  pub contract : crossing gave m.words m.bytes ≡ board_crossed (board_call c l)

-- a list of them, from l to o
abbrev pub Run : List Call → Lent → Lent → Type 0
Run [] l o = o ≡ l
Run (c ∷ cs) l o = (m : Lent) × Step c l m × Run cs m o

left_is : (r : ℕ) (m : Lent) (d : Done) → crossing r m.words m.bytes ≡ board_crossed d → m ≡ d.board
left_is r m d e = λ t. lent (ap (λ (x : Crossing). x.contents) e t) (ap (λ (x : Crossing). x.bodies) e t)

run_after : (cs : List Call) (l o : Lent) → Run cs l o → o ≡ after_all cs l
unfolding after_all
run_after [] l o e = e
run_after (c ∷ cs) l o x =
    run_after cs x.0 o x.2 ∙ ap (after_all cs) (left_is x.1.gave x.0 (board_call c l) x.1.contract)

-- 0 is the number of a leaving that is accepted
leave_given : (l : Lent) (n : ℕ) → 0 ≡ call_code (board_call (leave n) l).answer → (board_call (leave n) l).answer ≡ given 0
unfolding board_call reply_to
leave_given l n = at (short_board l) (is_board l) (eqb n 0 || not (is_present n (board_in l)))
  where
    answer : Bool → Bool → Bool → Reply ℕ
    answer s b a =
        (if s then done (refused 1) l else if not b then done (refused 8) l
        else (let r = if a then refused 14 else given 0 in done r (if_given r (writing (leave n) l) l))).answer

    at : (s b a : Bool) → 0 ≡ call_code (answer s b a) → answer s b a ≡ given 0
    at true b a e = absurd (omega (arith, e))
    at false false a e = absurd (omega (arith, e))
    at false true true e = absurd (omega (arith, e))
    at false true false e = refl

-- ---- After every list of calls

-- l are the buffers lent to the making, which gave 0 and left `made`; o is what the calls left
module _ (l made : Lent) (making : crossing 0 made.words made.bytes ≡ board_crossed (board_make l)) (cs : List Call) (o : Lent) (run : Run cs made o) where
  long : short_board l ≡ false
  unfolding board_make
  long = at (short_board l) (ap (λ (x : Crossing). x.code) making)
    where
      at : (s : Bool)
          → 0 ≡ call_code (if s then done (refused 1) l else done (given 0) (lent (over 0 (0 ∷ 0 ∷ []) l.words) l.bytes)).answer
          → s ≡ false
      at true e = absurd (omega (arith, e))
      at false e = refl

  is_reached : o ≡ reached l cs
  is_reached = run_after cs made o run ∙ ap (after_all cs) (left_is 0 made (board_make l) making)

  is_history : board_in o ≡ history cs
  is_history = ap (λ (x : Lent). board_in x) is_reached ∙ (follows l cs long).keeps

  abbrev follow : Follows l cs
  follow = follows_history l cs long

  -- x is the number that an answer gives, with the pack's
  pub answer_follows : (q pack : ℕ) (x : Answering) → x ≡ answer_numbers (board_answer o q) pack → x ≡ answer_numbers (watched_answer (history cs) q) pack
  answer_follows q pack x e = e ∙ ap (λ (r : Reply Found). answer_numbers r pack) (ap (λ (b : Lent). board_answer b q) is_reached ∙ follow.answers q)

  -- and what all of them at once give and leave
  pub answers_follow : (answers packs : List ℕ) (x : AllAnswered) → x ≡ all_numbers (board_answers o) answers packs
      → x ≡ all_numbers (given (watched_answers (history cs))) answers packs
  answers_follow answers packs x e =
      e ∙ ap (λ (r : Reply (List (Reply Found))). all_numbers r answers packs) (ap (λ (b : Lent). board_answers b) is_reached ∙ follow.all_answers)

  -- each further call, and so each refusal
  pub call_follows : (c : Call) (m : Lent) (s : Step c o m) → s.gave ≡ call_code (reply_to c (history cs))
  call_follows c m s =
      ap (λ (x : Crossing). x.code) s.contract
      ∙ ap call_code (ap (λ (b : Lent). (board_call c b).answer) is_reached ∙ follow.replies c)

  pub report_follows : (n x : ℕ) → x ≡ report_code (board_report o n) → x ≡ report_code (report n (history cs))
  report_follows n x e = e ∙ ap report_code (ap (λ (b : Lent). board_report b n) is_reached ∙ follow.reports n)

  -- a leaving that gives 0 and leaves m
  pub leaving_follows : (n q : ℕ) (m : Lent) → crossing 0 m.words m.bytes ≡ board_crossed (board_call (leave n) o)
      → let xs = joined (history cs).packs in
      let query = query_number (history cs).queries q in
      (bytes_answered o q ≡ bytes_answered m q) ↔ (NoneThroughBeats (through_pack n) xs query ⊎ SameBytesWithout (through_pack n) xs query)
  leaving_follows n q m e =
      let given-0 = leave_given o n (ap (λ (x : Crossing). x.code) e) in
      rw (left_is 0 m (board_call (leave n) o) e, ← is_history) (leaving_strikes_off o n 0 q given-0)
