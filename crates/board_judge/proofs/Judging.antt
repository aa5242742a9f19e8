-- How a board is judged, slot by slot and query by query. Assumes nothing.
use Rattle.std.specs.Prelude.{if◌then◌else◌, Result, Ok, Err, MatchResult}
use Rattle.std.specs.Result.{is_ok}
use mathlib.Core.Bool.{Bool, true, false, ◌&&◌, ◌||◌, not, and-false}
use mathlib.Core.List.{List, [], ◌∷◌}
use mathlib.Core.Path.{◌≡◌, refl, sym, ap, ◌∙◌}
use Prim.Native.Nat.{ℕ, zero, suc, ◌+◌, ◌-◌, ◌≤◌, ◌<◌}
use native.Mathlib.Numerals.{add-one}
use native.Mathlib.Omega.{arith}
use lib.Dec.{eqb, leb}
use lib.ListN.{length}
use borrow.Author.Tests.{eq-eqb, ne_eqb, le-ltb, le-leb, lt-leb}
use Rattle.definition.specs.Lists.{any, all}
use Rattle.definition.specs.Limits.{query_bytes, most_packs, most_queries, board_words, board_bytes}
use Rattle.definition.specs.Image.{is_image}
use Rattle.definition.specs.Lookup.{Reply, refused}
use Rattle.refusal.specs.declared.Refusal.{Refusal}
use Rattle.refusal.specs.Numbers.{number as refusal_number}
use Rattle.definition.specs.Board.{each, Lent, pack_count, query_count, slot_at, name_length, class_length, slots_in, short_board, are_slots, have_room, is_board}
use Rattle.board_layout.specs.declared.Buffers.{Buffers}
use Rattle.board_layout.specs.Laid.{lent_of}
use Rattle.board_judge.specs.declared.Board.{Board}
use Rattle.board_judge.specs.Slots.{number_at, has_number_from, slot_holds, turns_away}

-- ---- From a number on

module _ {A : Type 0} where
  pub each_first : (f : ℕ → A) (i n : ℕ) → i < n → each f i (n - i) ≡ f i ∷ each f (i + 1) (n - (i + 1))
  unfolding each
  each_first f i n h =
      let e : n - i ≡ suc (n - (i + 1)) = omega arith in
      rw (e, add-one i) refl

  pub each_none : (f : ℕ → A) (i n : ℕ) → n ≤ i → each f i (n - i) ≡ []
  unfolding each
  each_none f i n h = let e : n - i ≡ 0 = omega arith in rw e refl

-- ---- Numbers

module _ (words : List ℕ) (number i last : ℕ) where
  pub number_turn : i < last → has_number_from words number i last ≡ (eqb number (number_at words i) || has_number_from words number (i + 1) last)
  unfolding has_number_from any
  number_turn h = rw (each_first (number_at words) i last h) refl

  pub number_found : i < last → number_at words i ≡ number → has_number_from words number i last ≡ true
  number_found h e = number_turn h ∙ rw (eq-eqb number (number_at words i) (sym e)) refl

  pub number_on : i < last → (number_at words i ≡ number → ⊥) → has_number_from words number i last ≡ has_number_from words number (i + 1) last
  number_on h e = number_turn h ∙ rw (ne_eqb number (number_at words i) (λ z. e (sym z))) refl

  pub number_none : last ≤ i → has_number_from words number i last ≡ false
  unfolding has_number_from any
  number_none h = rw (each_none (number_at words) i last h) refl

-- the numbers of slots are their words'
pub slots_number : (l : Lent) (number i n : ℕ) → any (λ o. eqb number o.number) (each (slot_at l) i n) ≡ any (eqb number) (each (number_at l.words) i n)
unfolding any each slot_at
slots_number l number i zero = refl
slots_number l number i (suc n) = ap (λ (b : Bool). eqb number (number_at l.words i) || b) (slots_number l number (suc i) n)

-- ---- Slots

module _ (l : Lent) (i count : ℕ) where
  abbrev rest : Bool
  rest = are_slots (each (slot_at l) i (count - i))

  pub slot_turn : i < count → rest ≡ (slot_holds l i count && are_slots (each (slot_at l) (i + 1) (count - (i + 1))))
  unfolding are_slots slot_holds has_number_from slot_at
  slot_turn h =
      ap are_slots (each_first (slot_at l) i count h)
      ∙ ap (λ (b : Bool). not (eqb (number_at l.words i) 0) && not b && is_image (slot_at l i).contents (slot_at l i).bodies
      && are_slots (each (slot_at l) (i + 1) (count - (i + 1))))
      (slots_number l (number_at l.words i) (i + 1) (count - (i + 1)))

  pub slot_on : i < count → slot_holds l i count ≡ true → rest ≡ are_slots (each (slot_at l) (i + 1) (count - (i + 1)))
  slot_on h e = slot_turn h ∙ rw e refl

  pub slot_stops : i < count → slot_holds l i count ≡ false → rest ≡ false
  slot_stops h e = slot_turn h ∙ rw e refl

  pub slots_end : count ≤ i → rest ≡ true
  unfolding are_slots
  slots_end h = rw (each_none (slot_at l) i count h) refl

-- ---- Queries

module _ (l : Lent) (q count : ℕ) where
  abbrev rooms : Bool
  rooms = all (have_room l) (each (λ q. q) q (count - q))

  room_turn : q < count → rooms ≡ (have_room l q && all (have_room l) (each (λ q. q) (q + 1) (count - (q + 1))))
  unfolding all
  room_turn h = rw (each_first (λ (q : ℕ). q) q count h) refl

  pub room_name : q < count → query_bytes < name_length l q → rooms ≡ false
  unfolding have_room
  room_name h k = room_turn h ∙ rw (lt-leb (name_length l q) query_bytes k) refl

  pub room_class : q < count → query_bytes < class_length l q → rooms ≡ false
  unfolding have_room
  room_class h k = room_turn h ∙ rw (lt-leb (class_length l q) query_bytes k, and-false (leb (name_length l q) query_bytes)) refl

  pub room_on : q < count → name_length l q ≤ query_bytes → class_length l q ≤ query_bytes
      → rooms ≡ all (have_room l) (each (λ q. q) (q + 1) (count - (q + 1)))
  unfolding have_room
  room_on h n c = room_turn h ∙ rw (le-leb (name_length l q) query_bytes n, le-leb (class_length l q) query_bytes c) refl

  pub rooms_end : count ≤ q → rooms ≡ true
  unfolding all
  rooms_end h = rw (each_none (λ (q : ℕ). q) q count h) refl

-- ---- One slot

module _ (l : Lent) (i count : ℕ) where
  abbrev number : ℕ
  number = number_at l.words i

  abbrev again : Bool
  again = has_number_from l.words number (i + 1) count

  pub slot_zero : number ≡ 0 → slot_holds l i count ≡ false
  unfolding slot_holds
  slot_zero e = rw (eq-eqb number 0 e) refl

  pub slot_twice : again ≡ true → slot_holds l i count ≡ false
  unfolding slot_holds
  slot_twice e = rw (e, and-false (not (eqb number 0))) refl

  pub slot_judged : (number ≡ 0 → ⊥) → again ≡ false → slot_holds l i count ≡ is_image (slot_at l i).contents (slot_at l i).bodies
  unfolding slot_holds
  slot_judged e f = rw (ne_eqb number 0 e, f) refl

-- ---- The board

pub buffers_long : (b : Buffers) → short_board (lent_of b) ≡ false
buffers_long b = rw (le-ltb (length b.words.now) board_words b.words_long, le-ltb (length b.bytes.now) board_bytes b.bytes_long) refl

module _ (l : Lent) where
  pub board_short : short_board l ≡ true → is_board l ≡ false
  unfolding is_board
  board_short e = rw e refl

  module _ (long : short_board l ≡ false) where
    pub board_packs : most_packs < pack_count l → is_board l ≡ false
    unfolding is_board
    board_packs h = rw (long, lt-leb (pack_count l) most_packs h) refl

    module _ (packs : pack_count l ≤ most_packs) where
      pub board_queries : most_queries < query_count l → is_board l ≡ false
      unfolding is_board
      board_queries h = rw (long, le-leb (pack_count l) most_packs packs, lt-leb (query_count l) most_queries h) refl

      module _ (queries : query_count l ≤ most_queries) where
        pub board_slots : are_slots (slots_in l) ≡ false → is_board l ≡ false
        unfolding is_board
        board_slots e = rw (long, le-leb (pack_count l) most_packs packs, le-leb (query_count l) most_queries queries, e) refl

        pub board_rooms : are_slots (slots_in l) ≡ true → is_board l ≡ all (have_room l) (each (λ q. q) 0 (query_count l))
        unfolding is_board
        board_rooms e = rw (long, le-leb (pack_count l) most_packs packs, le-leb (query_count l) most_queries queries, e) refl

-- ---- A call that is turned away

pub turned_away : (l : Lent) (k : Refusal) → turns_away l k → (A : Type 0) (r : Reply A)
    → refused (refusal_number k) ≡ (if short_board l then refused 1 else if not (is_board l) then refused 8 else r)
turned_away l k h A r = rw (h.1, h.0) (at (short_board l))
  where
    at : (s : Bool) → ◌≡◌ {A = Reply A} (refused (if s then 1 else 8)) (if s then refused 1 else refused 8)
    at true = refl
    at false = refl

-- ---- A board that is judged

pub held : (b : Board) (l : Lent) → lent_of b.buffers ≡ l → is_board l ≡ true
held b l e = rw e at b.is_one

pub judged_board : (l : Lent) (r : Result Board Refusal) → MatchResult r (λ b. lent_of b.buffers ≡ l) (turns_away l) → is_ok r ≡ is_board l
judged_board l (Ok b) h = sym (held b l h)
judged_board l (Err k) h = sym h.1
