-- What a watched query gets, test by test. Assumes nothing.
use Rattle.std.specs.Prelude.{if◌then◌else◌}
use mathlib.Core.Bool.{Bool, true, false, not}
use mathlib.Core.Path.{◌≡◌, refl, sym, ap, ◌∙◌}
use Prim.Native.Nat.{ℕ, ◌+◌, ◌/◌, ◌%◌, ◌≤◌}
use native.Mathlib.Omega.{arith}
use lib.ListN.{get_or}
use Rattle.definition.specs.Limits.{most_entries, most_packs, body_bytes}
use Rattle.definition.specs.Image.{key_end}
use Rattle.definition.specs.Lookup.{Reply, given, no_value, refused, Place}
use Rattle.definition.specs.Board.{joined, Found, found_in, query_number, watched_answer, Lent, query_count, slot_start, slot_at, query_at, board_in, short_board, is_board, board_answer}
use Rattle.board_laws.proofs.Placing.{each_long}
use Rattle.board_laws.proofs.Answers.{no_query}
use Rattle.refusal.specs.declared.Refusal.{Refusal}
use Rattle.refusal.specs.Numbers.{number}
use Rattle.board_judge.specs.Slots.{turns_away}
use Rattle.board_judge.proofs.Judging.{turned_away}
use Rattle.image.specs.Rows.{RowIs}
use Rattle.image.specs.declared.Row.{Row}
use Rattle.board_search.specs.Slots.{spot_of, row_of, place_of}
use Rattle.board_search.proofs.Finding.{answer_is, spot_named, named_judged, named_inside}

-- where a value that is found lies
unfoldable place : Reply Found → Place
place (given f) = f.place
place no_value = record { start = 0; length = 0 }
place (refused k) = record { start = 0; length = 0 }

pub answer_away : (l : Lent) (q : ℕ) (k : Refusal) → turns_away l k → refused (number k) ≡ board_answer l q
unfolding board_answer
answer_away l q k h = turned_away l k h Found (watched_answer (board_in l) q)

pub watched_none : (l : Lent) (q : ℕ) → query_count l ≤ q → no_value ≡ watched_answer (board_in l) q
unfolding found_in
watched_none l q m =
    sym (ap (found_in (joined (board_in l).packs)) (no_query (board_in l).queries q (omega (arith, m, each_long (query_at l) 0 (query_count l)))))

-- ---- A value that is found lies in its pack's bodies

module _ (l : Lent) (q : ℕ) (f : Found) where
  spot_placed : is_board l ≡ true → (a : Reply ℕ) → a ≡ spot_of l most_packs (query_number (board_in l).queries q) → place_of l a ≡ given f
      → f.place.start + f.place.length ≤ body_bytes
  unfolding place_of place
  spot_placed is (given n) e g =
      let p = row_of l n in
      let h = spot_named l is most_packs (query_number (board_in l).queries q) n e in
      let end : key_end p + p.value_length ≡ f.place.start + f.place.length = ap (λ (x : Reply Found). (place x).start + (place x).length) g in
      omega (arith, end, named_inside l is n h, (named_judged l is n h).used_most)
  spot_placed is no_value e g = absurd (let z : ◌≡◌ {A = ℕ} 0 1 = cc in omega arith)
  spot_placed is (refused k) e g = absurd (let z : ◌≡◌ {A = ℕ} 0 1 = cc in omega arith)

  pub answer_placed : given f ≡ board_answer l q → f.place.start + f.place.length ≤ body_bytes
  unfolding board_answer
  answer_placed = at (short_board l) (is_board l) refl
    where
      at : (s b : Bool) → is_board l ≡ b → given f ≡ (if s then refused 1 else if not b then refused 8 else watched_answer (board_in l) q)
          → f.place.start + f.place.length ≤ body_bytes
      at true b is e = absurd (let z : ◌≡◌ {A = ℕ} 0 1 = cc in omega arith)
      at false false is e = absurd (let z : ◌≡◌ {A = ℕ} 0 1 = cc in omega arith)
      at false true is e = spot_placed is (spot_of l most_packs (query_number (board_in l).queries q)) refl (answer_is l is q ∙ sym e)

-- ---- The value of a number

pub place_is : (l : Lent) (n : ℕ) (r : Row) → RowIs (slot_at l (n / most_entries)).contents (n % most_entries) r → (p : ℕ) → p ≡ get_or l.words (slot_start (n / most_entries)) 0
    → given (record { pack = p; place = record { start = r.start + r.key; length = r.value } }) ≡ place_of l (given n)
unfolding place_of slot_at
place_is l n r e p f = λ t. given (record { pack = f t; place = record { start = key_end (e.is t); length = (e.is t).value_length } })
