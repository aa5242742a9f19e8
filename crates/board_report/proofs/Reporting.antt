-- What the leaving of a pack changes, by what a query finds with it and without it. Assumes nothing.
use Rattle.std.specs.Prelude.{if◌then◌else◌}
use mathlib.Core.Bool.{Bool, true, false, not}
use mathlib.Core.List.{List, ◌∷◌, map}
use mathlib.Core.Path.{◌≡◌, refl, sym, ap, ◌∙◌}
use Prim.Native.Nat.{ℕ, zero, suc, ◌+◌, ◌*◌, ◌-◌, ◌/◌, ◌^◌, ◌≤◌, ◌<◌}
use native.Mathlib.Nat.{pow-zero, two-pow-succ, pow-le-pow_right}
use native.Mathlib.Omega.{arith}
use lib.Dec.{eqb}
use borrow.Author.Tests.{ne_eqb}
use Rattle.definition.specs.Lists.{filter, same}
use Rattle.definition.specs.Limits.{most_packs, most_queries, most_entries}
use Rattle.definition.specs.Query.{Query}
use Rattle.definition.specs.Lookup.{Reply, given, no_value, refused, answer_of}
use Rattle.definition.specs.Board.{Arrival, Pack, kept, leave, has_number, reply_to, changed, if_given, joined, Found, query_number, watched_answer, answer_bytes, same_answer, each, changes, bits_of, reported, Lent, pack_count, query_count, slot_at, slots_in, board_in, short_board, is_board, done, writing, board_call, board_report}
use Rattle.board_laws.proofs.Slots.{is_other, own_number, kept_without}
use Rattle.board_laws.proofs.Calls.{laid}
use Rattle.board_laws.proofs.Histories.{refused_given, queries_held, reports}
use Rattle.board_laws.proofs.Answers.{board_bytes, left_bytes, leaving_same, same_answer_lem}
use Rattle.board_judge.proofs.Judging.{each_first}
use Rattle.board_search.specs.Slots.{passing, spot_of, place_of, spot_value, spot_bytes}
use Rattle.board_search.proofs.Finding.{passing_all, answer_is, value_is, spot_named}

none_given : {A : Type 0} {a : A} → no_value ≡ given a → ⊥
none_given e = let z : ◌≡◌ {A = ℕ} 0 1 = cc in omega arith

-- the number of the pack that is found
unfoldable pack_of : Reply Found → ℕ
pack_of (given f) = f.pack
pack_of no_value = 0
pack_of (refused k) = 0

-- ---- The packs of the other slots

passing_others : (l : Lent) (n i j m : ℕ) → ((k : ℕ) → j ≤ k → k < j + m → eqb n (slot_at l k).number ≡ eqb k i)
    → passing l i j m ≡ filter (is_other n) (each (slot_at l) j m)
unfolding passing each filter
passing_others l n i j zero h = refl
passing_others l n i j (suc m) h =
    at (eqb j i) (h j (omega arith) (omega arith)) (passing_others l n i (suc j) m (λ k a b. h k (omega arith) (omega arith)))
  where
    at : (w : Bool) → eqb n (slot_at l j).number ≡ w → passing l i (suc j) m ≡ filter (is_other n) (each (slot_at l) (suc j) m)
        → (if w then passing l i (suc j) m else slot_at l j ∷ passing l i (suc j) m)
        ≡ (if not (eqb n (slot_at l j).number) then slot_at l j ∷ filter (is_other n) (each (slot_at l) (suc j) m) else filter (is_other n) (each (slot_at l) (suc j) m))
    at true e ih = rw e ih
    at false e ih = rw e (ap (λ (rest : List Arrival). slot_at l j ∷ rest) ih)

module _ (l : Lent) (is : is_board l ≡ true) (i : ℕ) (inside : i < pack_count l) (q : ℕ) where
  abbrev number : ℕ
  number = (slot_at l i).number

  abbrev query : Query
  query = query_number (board_in l).queries q

  owned : (k : ℕ) → k < pack_count l → eqb number (slot_at l k).number ≡ eqb k i
  owned k h = own_number (slot_at l) (pack_count l) (laid l is).slots i k inside h

  packs_left : map kept (passing l i 0 (pack_count l)) ≡ filter (λ p. not (has_number number p)) (board_in l).packs
  packs_left = ap (map kept) (passing_others l number i 0 (pack_count l) (λ k a b. owned k (omega arith))) ∙ kept_without number (slots_in l)

  -- ---- The answer with the pack, and without it

  bytes_with : answer_bytes (board_in l) q ≡ spot_bytes l (spot_of l most_packs query)
  bytes_with =
      board_bytes l is q
      ∙ ap (λ (slots : List Arrival). answer_of (map (λ x. x.entry) (joined (map kept slots))) query)
      (sym (passing_all l most_packs 0 (pack_count l) (omega (arith, (laid l is).packs_most))))
      ∙ sym (value_is l is most_packs query)

  bytes_without : answer_bytes (changed (leave number) (board_in l)) q ≡ spot_bytes l (spot_of l i query)
  unfolding changed
  bytes_without =
      left_bytes l is number q
      ∙ ap (λ (packs : List Pack). answer_of (map (λ x. x.entry) (joined packs)) query) (sym packs_left)
      ∙ sym (value_is l is i query)

  changes_by : (a b : Reply ℕ) → a ≡ spot_of l most_packs query → b ≡ spot_of l i query → not (same_answer (spot_bytes l a) (spot_bytes l b)) ≡ changes number (board_in l) q
  unfolding changes
  changes_by a b e f = rw (e, f, ← bytes_with, ← bytes_without) refl

  -- ---- Nothing changes where the entry that is found is of another pack

  placed : (a : Reply ℕ) → a ≡ spot_of l most_packs query → place_of l a ≡ watched_answer (board_in l) q
  placed a e = ap (place_of l) e ∙ answer_is l is q

  unchanged : ((f : Found) → watched_answer (board_in l) q ≡ given f → eqb number f.pack ≡ false) → false ≡ changes number (board_in l) q
  unfolding changes
  unchanged h =
      sym (rw ((same_answer_lem (answer_bytes (board_in l) q) (answer_bytes (changed (leave number) (board_in l)) q)).1 (leaving_same l is number q h)) refl)

  pub unchanged_none : no_value ≡ spot_of l most_packs query → false ≡ changes number (board_in l) q
  unfolding place_of
  unchanged_none e = unchanged (λ f g. absurd (none_given (placed no_value e ∙ g)))

  pub unchanged_other : (n : ℕ) → given n ≡ spot_of l most_packs query → (n / most_entries ≡ i → ⊥) → false ≡ changes number (board_in l) q
  unfolding place_of pack_of
  unchanged_other n e h =
      unchanged (λ f g.
      let y : (slot_at l (n / most_entries)).number ≡ f.pack = ap pack_of (placed (given n) e ∙ g) in
      ap (eqb number) (sym y) ∙ owned (n / most_entries) (spot_named l is most_packs query n e).slot ∙ ne_eqb (n / most_entries) i h)

  -- ---- Else the bytes tell

  pub changed_gone : (n : ℕ) → given n ≡ spot_of l most_packs query → no_value ≡ spot_of l i query → true ≡ changes number (board_in l) q
  unfolding spot_bytes same_answer
  changed_gone n e f = changes_by (given n) no_value e f

  pub changed_value : (n m : ℕ) → given n ≡ spot_of l most_packs query → given m ≡ spot_of l i query
      → not (same (spot_value l n) (spot_value l m)) ≡ changes number (board_in l) q
  unfolding spot_bytes same_answer
  changed_value n m e f = changes_by (given n) (given m) e f

-- ---- The bits, from the last query on

bits_small : (f : ℕ → Bool) (i n : ℕ) → bits_of (each f i n) < 2 ^ n
unfolding bits_of each
bits_small f i zero = rw (pow-zero 2) (omega arith)
bits_small f i (suc n) = rw (two-pow-succ n) (at (f i) (bits_small f (suc i) n))
  where
    at : (b : Bool) {m p : ℕ} → m < p → (if b then 1 else 0) + 2 * m < p + p
    at true h = omega arith
    at false h = omega arith

-- those of the queries from q on
pub record Bits (f : ℕ → Bool) (count q bits : ℕ) : Type 0 where
  pub are : bits ≡ bits_of (each f q (count - q))
  pub most : q ≤ count

module _ (f : ℕ → Bool) (count : ℕ) where
  pub bits_first : Bits f count count 0
  unfolding bits_of each
  bits_first = let e : count - count ≡ 0 = omega arith in record { are = rw e refl; most = omega arith }

  module _ (q bits : ℕ) (h : Bits f count q bits) where
    pub bits_more : 0 < q → (r : ℕ) → r ≡ (if f (q - 1) then 1 else 0) + 2 * bits → Bits f count (q - 1) r
    unfolding bits_of
    bits_more k r e =
        let m : q - 1 < count = omega (arith, h.most) in
        let z : q - 1 + 1 ≡ q = omega arith in
        record { are = e ∙ rw (h.are, each_first f (q - 1) count m, z) refl; most = omega arith }

    pub bits_fit : 0 < q → count ≤ most_queries → bits < 2147483648
    bits_fit k m =
        let p : 2 ^ (count - q) ≤ 2 ^ 31 = pow-le-pow_right {n = 2} (omega arith) {i = count - q} {j = 31} (omega arith) in
        omega (arith, h.are, bits_small f q (count - q), p)

    pub bits_end : q ≤ 0 → bits ≡ bits_of (each f 0 count)
    bits_end k =
        let z : q ≡ 0 = omega arith in
        let e : count - 0 ≡ count = omega arith in
        h.are ∙ rw (z, e) refl

-- ---- The report

module _ (l : Lent) (n : ℕ) where
  pub report_away : (k : ℕ) → refused k ≡ (board_call (leave n) l).answer → refused k ≡ board_report l n
  unfolding board_report board_call reported
  report_away k = at (short_board l) (is_board l) (reply_to (leave n) (board_in l))
    where
      at : (s b : Bool) (a : Reply ℕ)
          → refused k ≡ (if s then done (refused 1) l else if not b then done (refused 8) l else done a (if_given a (writing (leave n) l) l)).answer
          → refused k ≡ (if s then refused 1 else if not b then refused 8 else reported n (board_in l) a)
      at true b a e = e
      at false false a e = e
      at false true (given j) e = absurd (refused_given e)
      at false true no_value e = e
      at false true (refused j) e = e

  pub report_given : (is : is_board l ≡ true) (k bits : ℕ) → reply_to (leave n) (board_in l) ≡ given k
      → bits ≡ bits_of (each (changes n (board_in l)) 0 (query_count l)) → given bits ≡ board_report l n
  unfolding reported
  report_given is k bits reply e = sym (reports l is n ∙ rw (reply, queries_held l (laid l is), e) refl)
