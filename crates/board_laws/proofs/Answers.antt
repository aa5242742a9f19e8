-- Watched answers: their bytes, all of them at once, what a pack that leaves changes, and the report. Assumes nothing.
use Rattle.std.specs.Prelude.{if◌then◌else◌}
use mathlib.Core.Bool.{Bool, true, false, not}
use mathlib.Core.List.{List, [], ◌∷◌, ◌++◌, map, flatten}
use mathlib.Core.Logic.{◌↔◌, inl}
use mathlib.Core.Option.{Option, some, none}
use mathlib.Core.Path.{◌≡◌, refl, sym, ap, ◌∙◌}
use Prim.Native.Nat.{ℕ, zero, suc, ◌+◌, ◌*◌, ◌≤◌, ◌<◌}
use native.Mathlib.Nat.{add-mul-div_left, add-mul-mod_self_left, mod-eq_of_lt, div-eq_of_lt}
use native.Mathlib.Decide.{dec_lt}
use native.Mathlib.Omega.{arith}
use lib.Dec.{eqb}
use lib.ListN.{length, get_or, get_or-eq_default}
use borrow.Author.Tests.{eqb-true, eq-eqb}
use Rattle.definition.specs.Lists.{any, filter, same}
use Rattle.definition.specs.Text.{Entry}
use Rattle.definition.specs.Image.{Row, entry_at}
use Rattle.definition.specs.Query.{Query, positions, malformed, past_limit}
use Rattle.definition.specs.Ranking.{Best, no_entry, best, best_of}
use Rattle.definition.specs.Lookup.{keys_of, value_of, answer_of, Reply, given, no_value, refused, bytes_at}
use Rattle.definition.specs.Walking.{refusal_in}
use Rattle.definition.specs.ThirdTerm.{NoneThroughBeats, left_out}
use Rattle.definition.specs.Board.{Arrival, Pack, kept, Watched, Board, leave, has_number, reply_to, changed, if_given, Brought, brought_by, joined, nothing_brought, Found, found_at, found_in, query_number, watched_answer, watched_answers, store_number, bytes_found, answer_bytes, same_answer, each, changes, bits_of, reported, report, Lent, slots_in, board_in, short_board, are_slots, is_board, done, writing, board_call, board_answer, board_answers, board_report, FollowsHistory, answer_among, AnswersAgree, through_pack, bytes_answered, LeavingStrikesOff, has_bit, ReportTells}
use Rattle.laws.proofs.Lists.{not_both, same_eq, eq_same, get_d_map, filter_append}
use Rattle.laws.proofs.Ranking.{best_beats, beats_best}
use Rattle.laws.proofs.Striking.{length_keys, striking_off}
use Rattle.board_laws.proofs.Placing.{each_long, each_at}
use Rattle.board_laws.proofs.Slots.{slot_present, slots_are, is_other, slots_without, kept_without}
use Rattle.board_laws.proofs.Calls.{Becomes, laid}
use Rattle.board_laws.proofs.Histories.{refused_given, called, call_becomes, answered, all_answered_lem, reports, follows}

-- ---- What holds of each element

abbrev Every : {A : Type 0} → (A → Type 0) → List A → Type 0
Every P [] = Unit {0}
Every P (x ∷ xs) = P x × Every P xs

module _ {A : Type 0} (P : A → Type 0) where
  every_append : (xs ys : List A) → Every P xs → Every P ys → Every P (xs ++ ys)
  every_append [] ys p q = q
  every_append (x ∷ xs) ys p q = (p.0, every_append xs ys p.1 q)

  every_at : (xs : List A) (i : ℕ) (d : A) → i < length xs → Every P xs → P (get_or xs i d)
  every_at [] i d h p = absurd (omega arith)
  every_at (x ∷ xs) zero d h p = p.0
  every_at (x ∷ xs) (suc i) d h p = every_at xs i d (omega arith) p.1

  every_also : (Q : A → Type 0) → ((x : A) → P x → Q x) → (xs : List A) → Every P xs → Every Q xs
  every_also Q f [] p = tt
  every_also Q f (x ∷ xs) p = (f x p.0, every_also Q f xs p.1)

-- ---- The bytes at the place that is answered

-- no two packs have one number
abbrev Distinct : List Pack → Type 0
Distinct [] = Unit {0}
Distinct (p ∷ ps) = (any (has_number p.number) ps ≡ false) × Distinct ps

slots_distinct : (slots : List Arrival) → are_slots slots ≡ true → Distinct (map kept slots)
slots_distinct [] h = tt
slots_distinct (a ∷ slots) h = let s = slots_are a slots h in (slot_present a.number slots ∙ s.alone, slots_distinct slots s.others)

-- its pack is there, and has its value at its place
record Carried (ps : List Pack) (x : Brought) : Type 0 where
  there : any (has_number x.pack) ps ≡ true
  carries : bytes_at (store_number x.pack ps) x.place ≡ x.entry.value

module _ (p : Pack) (ps : List Pack) where
  carried_here : (rows : List Row) → Every (Carried (p ∷ ps)) (brought_by (record { number = p.number; rows = rows; store = p.store }))
  unfolding brought_by any store_number
  carried_here [] = tt
  carried_here (r ∷ rows) =
      let e = eq-eqb p.number p.number refl in
      (record { there = rw e refl; carries = rw e refl }, carried_here rows)

  carried_behind : any (has_number p.number) ps ≡ false → (x : Brought) → Carried ps x → Carried (p ∷ ps) x
  unfolding any store_number
  carried_behind alone x c = at (eqb x.pack p.number) refl
    where
      at : (b : Bool) → eqb x.pack p.number ≡ b → Carried (p ∷ ps) x
      at true e = absurd (not_both c.there (rw (eqb-true x.pack p.number e) alone))
      at false e = record { there = rw e c.there; carries = rw e c.carries }

carried : (ps : List Pack) → Distinct ps → Every (Carried ps) (joined ps)
unfolding joined flatten
carried [] d = tt
carried (p ∷ ps) d =
    every_append (Carried (p ∷ ps)) (brought_by p) (joined ps) (carried_here p ps p.rows)
    (every_also (Carried ps) (Carried (p ∷ ps)) (carried_behind p ps d.0) (joined ps) (carried ps d.1))

abbrev entry_of : Brought → Entry
entry_of x = x.entry

pub bytes_found_lem : (ps : List Pack) → Distinct ps → (q : Query) → bytes_found ps (found_in (joined ps) q) ≡ answer_of (map (λ x. x.entry) (joined ps)) q
unfolding bytes_found found_in answer_of found_at value_of
bytes_found_lem ps d (positions qs) = at (best_of (keys_of (map entry_of (joined ps))) qs) refl
  where
    at : (b : Best) → best_of (keys_of (map entry_of (joined ps))) qs ≡ b → bytes_found ps (found_at (joined ps) b) ≡ value_of (map entry_of (joined ps)) b
    at no_entry e = refl
    at (best i row) e =
        let xs = joined ps in
        let h : i < length xs = omega (arith, (best_beats (keys_of (map entry_of xs)) qs i row e).inside, length_keys (through_pack 0) xs) in
        let c = every_at (Carried ps) xs i nothing_brought h (carried ps d) in
        ap (λ (v : List ℕ). some v) (c.carries ∙ sym (ap (λ (x : Entry). x.value) (get_d_map entry_of xs i nothing_brought (record { parts = []; value = [] }) h)))
bytes_found_lem ps d malformed = refl
bytes_found_lem ps d (past_limit k) = refl

-- in a board
pub board_bytes : (l : Lent) → is_board l ≡ true → (q : ℕ)
    → answer_bytes (board_in l) q ≡ answer_of (map (λ x. x.entry) (joined (board_in l).packs)) (query_number (board_in l).queries q)
board_bytes l is q = bytes_found_lem (board_in l).packs (slots_distinct (slots_in l) (laid l is).slots) (query_number (board_in l).queries q)

-- once a pack has left
pub left_bytes : (l : Lent) → is_board l ≡ true → (n q : ℕ) → let b = changed (leave n) (board_in l) in
    answer_bytes b q ≡ answer_of (map (λ x. x.entry) (joined b.packs)) (query_number b.queries q)
unfolding changed
left_bytes l is n q =
    let slots = slots_in l in
    rw (← kept_without n slots)
    (bytes_found_lem (map kept (filter (is_other n) slots)) (slots_distinct (filter (is_other n) slots) (slots_without n slots (laid l is).slots)) (query_number (board_in l).queries q))

-- what a board answers and keeps
module _ (l : Lent) (b : Board) (h : Becomes l b) (q : ℕ) where
  answered_bytes : bytes_answered l q ≡ answer_bytes b q
  answered_bytes = ap (bytes_found (board_in l).packs) (answered l h.is q) ∙ ap (λ (x : Board). answer_bytes x q) h.keeps

  pub answered_values : bytes_answered l q ≡ answer_of (map (λ x. x.entry) (joined b.packs)) (query_number b.queries q)
  answered_values =
      ap (bytes_found (board_in l).packs) (answered l h.is q)
      ∙ board_bytes l h.is q
      ∙ ap (λ (x : Board). answer_of (map (λ x. x.entry) (joined x.packs)) (query_number x.queries q)) h.keeps

-- ---- After every list of calls

pub follows_history : FollowsHistory
follows_history l cs e =
    let h = follows l cs e in
    record {
      is_laid_out = h.is;
      keeps = h.keeps;
      answers = λ q. answered _ h.is q ∙ ap (λ (b : Board). watched_answer b q) h.keeps;
      all_answers = all_answered_lem _ h.is ∙ ap (λ (b : Board). given (watched_answers b)) h.keeps;
      replies = λ c. ap (λ d. d.answer) (called _ h.is c) ∙ ap (reply_to c) h.keeps;
      reports = λ n. reports _ h.is n ∙ ap (report n) h.keeps;
      values = λ q. sym (answered_bytes _ _ h q) ∙ answered_values _ _ h q;
    }

-- ---- All the answers

pub no_query : (ws : List Watched) (q : ℕ) → length ws ≤ q → query_number ws q ≡ malformed
unfolding query_number
no_query [] q h = refl
no_query (w ∷ ws) zero h = absurd (omega arith)
no_query (w ∷ ws) (suc q) h = no_query ws q (omega arith)

-- also where there is no query
pub among_all : (b : Board) (q : ℕ) → get_or (watched_answers b) q no_value ≡ watched_answer b q
among_all b q = at (dec_lt q (length b.queries))
  where
    at : Dec (q < length b.queries) → get_or (watched_answers b) q no_value ≡ watched_answer b q
    at (yes h) =
        let z : 0 + q ≡ q = omega arith in
        each_at (watched_answer b) 0 (length b.queries) q no_value h ∙ ap (watched_answer b) z
    at (no h) = unfold found_in in
        get_or-eq_default (watched_answers b) no_value (omega (arith, each_long (watched_answer b) 0 (length b.queries)))
        ∙ sym (ap (found_in (joined b.packs)) (no_query b.queries q (omega arith)))

pub answers_agree : AnswersAgree
unfolding board_answers board_answer answer_among
answers_agree l q = at (short_board l) (is_board l)
  where
    at : (s b : Bool)
        → answer_among (if s then refused 1 else if not b then refused 8 else given (watched_answers (board_in l))) q
        ≡ (if s then refused 1 else if not b then refused 8 else watched_answer (board_in l) q)
    at true b = refl
    at false false = refl
    at false true = among_all (board_in l) q

-- ---- A pack that leaves

module _ (n : ℕ) where
  brought_left : (m : ℕ) (rows : List Row) (store : List ℕ)
      → let xs = brought_by (record { number = m; rows = rows; store = store }) in
      left_out (through_pack n) xs ≡ (if not (eqb n m) then xs else [])
  unfolding brought_by filter
  brought_left m [] store = at (eqb n m)
    where
      at : (b : Bool) → ◌≡◌ {A = List Brought} [] (if not b then [] else [])
      at true = refl
      at false = refl
  brought_left m (r ∷ rows) store = at (eqb n m) (brought_left m rows store)
    where
      xs : List Brought
      xs = brought_by (record { number = m; rows = rows; store = store })

      x : Brought
      x = record { pack = m; place = record { start = r.start + r.key_length; length = r.value_length }; entry = entry_at store r }

      at : (b : Bool) → left_out (through_pack n) xs ≡ (if not b then xs else [])
          → (if not b then x ∷ left_out (through_pack n) xs else left_out (through_pack n) xs) ≡ (if not b then x ∷ xs else [])
      at true ih = ih
      at false ih = ap (λ (l : List Brought). x ∷ l) ih

  -- the entries of the packs that stay are those that did not come through it
  pub joined_left : (ps : List Pack) → joined (filter (λ p. not (has_number n p)) ps) ≡ left_out (through_pack n) (joined ps)
  unfolding joined flatten filter
  joined_left [] = refl
  joined_left (p ∷ ps) =
      at (eqb n p.number) (brought_left p.number p.rows p.store) (joined_left ps)
      ∙ sym (filter_append (λ x. not (eqb n x.pack)) (brought_by p) (joined ps))
    where
      at : (b : Bool) → left_out (through_pack n) (brought_by p) ≡ (if not b then brought_by p else [])
          → joined (filter (λ p. not (has_number n p)) ps) ≡ left_out (through_pack n) (joined ps)
          → joined (if not b then p ∷ filter (λ p. not (has_number n p)) ps else filter (λ p. not (has_number n p)) ps)
          ≡ left_out (through_pack n) (brought_by p) ++ left_out (through_pack n) (joined ps)
      at true e ih = rw e ih
      at false e ih = rw (e, ih) refl

-- where the entry that is found is of another pack, none of that pack's beats the rest
none_through : (n : ℕ) (xs : List Brought) (q : Query) → ((f : Found) → found_in xs q ≡ given f → eqb n f.pack ≡ false) → NoneThroughBeats (through_pack n) xs q
unfolding found_in found_at
none_through n xs (positions qs) h = λ j b.
    h (record { pack = (get_or xs j nothing_brought).pack; place = (get_or xs j nothing_brought).place }) (rw (beats_best (keys_of (map entry_of xs)) qs j b).1 refl)
none_through n xs malformed h = λ j b. absurd b
none_through n xs (past_limit k) h = λ j b. absurd b

-- so its leaving changes nothing, by the striking_off rule
pub leaving_same : (l : Lent) → is_board l ≡ true → (n q : ℕ) → ((f : Found) → watched_answer (board_in l) q ≡ given f → eqb n f.pack ≡ false)
    → answer_bytes (board_in l) q ≡ answer_bytes (changed (leave n) (board_in l)) q
unfolding changed
leaving_same l is n q h =
    let xs = joined (board_in l).packs in
    let query = query_number (board_in l).queries q in
    board_bytes l is q
    ∙ (striking_off Brought (through_pack n) xs query).1 (inl (none_through n xs query h))
    ∙ ap (λ (ys : List Brought). answer_of (map (λ x. x.entry) ys) query) (sym (joined_left n (board_in l).packs))
    ∙ sym (left_bytes l is n q)

-- a leaving that is accepted, is so in a board
module _ (l : Lent) (n : ℕ) where
  leaving_board : (k : ℕ) → (board_call (leave n) l).answer ≡ given k → is_board l ≡ true
  unfolding board_call
  leaving_board k = at (short_board l) (is_board l)
    where
      at : (s b : Bool)
          → (if s then done (refused 1) l else if not b then done (refused 8) l
          else (let a = reply_to (leave n) (board_in l) in done a (if_given a (writing (leave n) l) l))).answer ≡ given k
          → b ≡ true
      at true b e = absurd (refused_given e)
      at false true e = refl
      at false false e = absurd (refused_given e)

  module _ (is : is_board l ≡ true) (k : ℕ) (reply : reply_to (leave n) (board_in l) ≡ given k) where
    pub leaving_becomes : Becomes (board_call (leave n) l).board (changed (leave n) (board_in l))
    unfolding if_given
    leaving_becomes = rw reply at (call_becomes l is (leave n))

pub leaving_strikes_off : LeavingStrikesOff
unfolding changed
leaving_strikes_off l n k q e =
    let is = leaving_board l n k e in
    let reply : reply_to (leave n) (board_in l) ≡ given k = sym (ap (λ d. d.answer) (called l is (leave n))) ∙ e in
    let xs = joined (board_in l).packs in
    let query = query_number (board_in l).queries q in
    let first = answered_values l (board_in l) (record { is = is; keeps = refl }) q in
    let second = answered_values (board_call (leave n) l).board (changed (leave n) (board_in l)) (leaving_becomes l n is k reply) q in
    rw (first, second, joined_left n (board_in l).packs) (striking_off Brought (through_pack n) xs query)

-- ---- The report

pub same_answer_lem : (a b : Option (List ℕ)) → (same_answer a b ≡ true) ↔ (a ≡ b)
unfolding same_answer
same_answer_lem none none = (λ _. refl, λ _. refl)
same_answer_lem none (some v) = (λ e. absurd (not_both e refl), λ e. absurd (let z : ◌≡◌ {A = ℕ} 0 1 = cc in omega arith))
same_answer_lem (some v) none = (λ e. absurd (not_both e refl), λ e. absurd (let z : ◌≡◌ {A = ℕ} 0 1 = cc in omega arith))
same_answer_lem (some v) (some w) = (λ e. ap (λ (x : List ℕ). some x) (same_eq v w e), λ e. let z : v ≡ w = cc in eq_same v w z)

-- a test that is not passed
pub differs : (a b : Option (List ℕ)) → (not (same_answer a b) ≡ true) ↔ (a ≡ b → ⊥)
differs a b = at (same_answer a b) refl (same_answer_lem a b)
  where
    at : (t : Bool) → same_answer a b ≡ t → (same_answer a b ≡ true) ↔ (a ≡ b) → (not t ≡ true) ↔ (a ≡ b → ⊥)
    at true e s = (λ h. absurd (not_both h refl), λ f. absurd (f (s.0 e)))
    at false e s = (λ h z. not_both (s.1 z) e, λ f. refl)

bit_one : (b : Bool) → eqb (if b then 1 else 0) 1 ≡ b
bit_one true = refl
bit_one false = refl

bit_small : (b : Bool) → (if b then 1 else 0) < 2
bit_small true = omega arith
bit_small false = omega arith

bits_first : (b : Bool) (m : ℕ) → has_bit 0 ((if b then 1 else 0) + 2 * m) ≡ b
unfolding has_bit
bits_first b m =
    let x : ℕ = if b then 1 else 0 in
    ap (λ (k : ℕ). eqb k 1) (add-mul-mod_self_left x 2 m ∙ mod-eq_of_lt (bit_small b)) ∙ bit_one b

bits_later : (b : Bool) (m q : ℕ) → has_bit (suc q) ((if b then 1 else 0) + 2 * m) ≡ has_bit q m
unfolding has_bit
bits_later b m q =
    let x : ℕ = if b then 1 else 0 in
    let z : 0 + m ≡ m = omega arith in
    ap (has_bit q) (add-mul-div_left x m (omega arith) ∙ ap (λ (k : ℕ). k + m) (div-eq_of_lt (bit_small b)) ∙ z)

no_bits : (q : ℕ) → has_bit q 0 ≡ false
unfolding has_bit
no_bits zero = refl
no_bits (suc q) = no_bits q

-- bit q is that of query q, and there are no others
pub bits_are : (f : ℕ → Bool) (i n q : ℕ) → q < n → has_bit q (bits_of (each f i n)) ≡ f (i + q)
unfolding bits_of each
bits_are f i zero q h = absurd (omega arith)
bits_are f i (suc n) zero h = let e : i + 0 ≡ i = omega arith in bits_first (f i) (bits_of (each f (suc i) n)) ∙ ap f (sym e)
bits_are f i (suc n) (suc q) h =
    let e : suc i + q ≡ i + suc q = omega arith in
    bits_later (f i) (bits_of (each f (suc i) n)) q ∙ bits_are f (suc i) n q (omega arith) ∙ ap f e

pub bits_end : (f : ℕ → Bool) (i n q : ℕ) → n ≤ q → has_bit q (bits_of (each f i n)) ≡ false
unfolding bits_of each
bits_end f i zero q h = no_bits q
bits_end f i (suc n) zero h = absurd (omega arith)
bits_end f i (suc n) (suc q) h = bits_later (f i) (bits_of (each f (suc i) n)) q ∙ bits_end f (suc i) n q (omega arith)

-- a query changes as the report's definition says, also where there is none
report_bit : (n : ℕ) (b : Board) (q : ℕ)
    → (has_bit q (bits_of (each (changes n b) 0 (length b.queries))) ≡ true) ↔ (answer_bytes b q ≡ answer_bytes (changed (leave n) b) q → ⊥)
unfolding changes
report_bit n b q = at (dec_lt q (length b.queries))
  where
    at : Dec (q < length b.queries)
        → (has_bit q (bits_of (each (changes n b) 0 (length b.queries))) ≡ true) ↔ (answer_bytes b q ≡ answer_bytes (changed (leave n) b) q → ⊥)
    at (yes h) =
        let z : 0 + q ≡ q = omega arith in
        rw (bits_are (changes n b) 0 (length b.queries) q h, z) (differs (answer_bytes b q) (answer_bytes (changed (leave n) b) q))
    at (no h) =
        let none_there = no_query b.queries q (omega arith) in
        let same : answer_bytes b q ≡ answer_bytes (changed (leave n) b) q = unfold changed found_in bytes_found in rw none_there refl in
        (λ e. absurd (not_both e (bits_end (changes n b) 0 (length b.queries) q (omega arith))), λ f. absurd (f same))

module _ (l : Lent) (n : ℕ) where
  report_refused : refusal_in (board_report l n) ≡ refusal_in (board_call (leave n) l).answer
  unfolding board_report board_call
  report_refused = at (short_board l) (is_board l) (reply_to (leave n) (board_in l))
    where
      at : (s b : Bool) (a : Reply ℕ)
          → refusal_in (if s then refused 1 else if not b then refused 8 else reported n (board_in l) a)
          ≡ refusal_in (if s then done (refused 1) l else if not b then done (refused 8) l else done a (if_given a (writing (leave n) l) l)).answer
      at true b a = refl
      at false false a = refl
      at false true (given k) = unfold reported refusal_in in refl
      at false true no_value = unfold reported refusal_in in refl
      at false true (refused k) = unfold reported refusal_in in refl

  report_board : (m : ℕ) → board_report l n ≡ given m → is_board l ≡ true
  unfolding board_report
  report_board m = at (short_board l) (is_board l)
    where
      at : (s b : Bool) → (if s then refused 1 else if not b then refused 8 else report n (board_in l)) ≡ given m → b ≡ true
      at true b e = absurd (refused_given e)
      at false true e = refl
      at false false e = absurd (refused_given e)

  report_tells_bit : (m q : ℕ) → board_report l n ≡ given m → (has_bit q m ≡ true) ↔ (bytes_answered l q ≡ bytes_answered (board_call (leave n) l).board q → ⊥)
  report_tells_bit m q e =
      let is = report_board m e in
      at is (reply_to (leave n) (board_in l)) refl (sym (reports l is n) ∙ e)
    where
      at : is_board l ≡ true → (a : Reply ℕ) → reply_to (leave n) (board_in l) ≡ a → reported n (board_in l) a ≡ given m
          → (has_bit q m ≡ true) ↔ (bytes_answered l q ≡ bytes_answered (board_call (leave n) l).board q → ⊥)
      at is (given k) r f = unfold reported in
          let bits : bits_of (each (changes n (board_in l)) 0 (length (board_in l).queries)) ≡ m = cc in
          let first = answered_bytes l (board_in l) (record { is = is; keeps = refl }) q in
          let second = answered_bytes (board_call (leave n) l).board (changed (leave n) (board_in l)) (leaving_becomes l n is k r) q in
          rw (first, second, ← bits) (report_bit n (board_in l) q)
      at is no_value r f = unfold reported in absurd (let z : ◌≡◌ {A = ℕ} 0 1 = cc in omega arith)
      at is (refused k) r f = unfold reported in absurd (let z : ◌≡◌ {A = ℕ} 0 1 = cc in omega arith)

pub report_tells : ReportTells
report_tells l n = (report_refused l n, report_tells_bit l n)
