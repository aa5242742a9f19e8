-- What the calls of a board write. Assumes nothing.
use Rattle.std.specs.Prelude.{if◌then◌else◌, Option, None, Some, MatchOption}
use Rattle.std.specs.Option.{unwrap_or}
use mathlib.Core.Bool.{Bool, true, false, ◌||◌, not}
use mathlib.Core.List.{List, [], ◌∷◌, ◌++◌}
use mathlib.Core.Path.{◌≡◌, refl, sym, ap, ◌∙◌}
use Prim.Native.Nat.{ℕ, zero, suc, ◌+◌, ◌*◌, ◌-◌, ◌≤◌, ◌<◌}
use native.Mathlib.Numerals.{add-one}
use native.Mathlib.Omega.{arith}
use lib.Dec.{eqb}
use lib.ListN.{length, take, drop, set, length-set}
use lib.Seq.{paste, sets-eq, slice, take-suc-set, drop-set-lt, append_snoc, length-take-le}
use Rattle.definition.specs.Lists.{any, take_while}
use Rattle.definition.specs.Limits.{row_words}
use Rattle.definition.specs.Image.{count_of, used_of, is_image}
use Rattle.definition.specs.Lookup.{given, refused}
use Rattle.definition.specs.Adding.{over}
use Rattle.definition.specs.Board.{Arrival, Watched, watch, arrive, leave, each, Lent, lent, pack_count, query_count, lengths_start, slot_start, text_start, body_start, slot_at, slots_in, short_board, done, board_make, writing}
use Rattle.laws.proofs.Lists.{not_both, paste_append}
use Rattle.laws.proofs.Adding.{over_paste}
use Rattle.laws.proofs.Image.{image_holds}
use borrow.Author.Tests.{eqb-true, eq-eqb, ne_eqb}
use Rattle.board_laws.proofs.Placing.{each_long}
use Rattle.board_laws.proofs.Slots.{has_slot, slot_leaves}
use Rattle.board_laws.proofs.Calls.{Laid}
use Rattle.board_layout.specs.declared.Buffers.{Buffers}
use Rattle.board_layout.specs.Laid.{lent_of}
use Rattle.board_judge.specs.Slots.{number_at, has_number_from}
use Rattle.board_judge.proofs.Judging.{each_first, number_found, number_on, number_none, slots_number}
use Rattle.board.specs.Replies.{before_number, dropped}

-- ---- Stores

pub set_over : (xs : List ℕ) (i x : ℕ) → i < length xs → set xs i x ≡ over i (x ∷ []) xs
unfolding over
set_over xs i x h = sets-eq (x ∷ []) xs i (omega arith)

sets_over : (xs : List ℕ) (i x y : ℕ) → i + 1 < length xs → set (set xs i x) (i + 1) y ≡ over i (x ∷ y ∷ []) xs
unfolding over
sets_over xs i x y h = ap (λ (n : ℕ). set (set xs i x) n y) (add-one i) ∙ sets-eq (x ∷ y ∷ []) xs i (omega arith)

-- an element, and a list behind it
over_cons : (x : ℕ) (xs ys : List ℕ) (n : ℕ) → n < length ys → over (n + 1) xs (set ys n x) ≡ over n (x ∷ xs) ys
unfolding over
over_cons x xs ys n h =
    let m : n + 1 + length xs ≡ n + suc (length xs) = omega arith in
    ap (λ (j : ℕ). take j (set ys n x) ++ xs ++ drop (n + 1 + length xs) (set ys n x)) (add-one n)
    ∙ ap (λ (l : List ℕ). l ++ xs ++ drop (n + 1 + length xs) (set ys n x)) (take-suc-set ys n x h)
    ∙ ap (λ (l : List ℕ). take n ys ++ (x ∷ []) ++ xs ++ l) (drop-set-lt (n + 1 + length xs) ys n x (omega arith) ∙ ap (λ (j : ℕ). drop j ys) m)
    ∙ ap (λ (l : List ℕ). l ++ drop (n + suc (length xs)) ys) (append_snoc (take n ys) x xs)

-- ---- Made

pub made_short : (l : Lent) → short_board l ≡ true → done (refused 1) l ≡ board_make l
unfolding board_make
made_short l e = rw e refl

pub made_is : (l : Lent) → short_board l ≡ false → 1 < length l.words → done (given 0) (lent (set (set l.words 0 0) 1 0) l.bytes) ≡ board_make l
unfolding board_make
made_is l e h = rw e (ap (λ (w : List ℕ). done (given 0) (lent w l.bytes)) (sets_over l.words 0 0 0 h))

-- ---- A query

module _ (l : Lent) (w : Watched) (q at first : ℕ) (count : q ≡ query_count l) (starts : at ≡ lengths_start q) (texts : first ≡ text_start q)
    (high : 1 < at) (inside : at + 1 < length l.words) (room : first + (length w.name + length w.class) ≤ length l.bytes) where
  pub query_written : (bytes₁ bytes₂ : List ℕ) → bytes₁ ≡ paste l.bytes first w.name (length w.name)
      → bytes₂ ≡ paste bytes₁ (first + length w.name) w.class (length w.class)
      → lent (set (set (set l.words at (length w.name)) (at + 1) (length w.class)) 1 (q + 1)) bytes₂ ≡ writing (watch w) l
  unfolding writing
  query_written bytes₁ bytes₂ e f =
      let n = length w.name in
      let c = length w.class in
      let inner : set (set l.words at n) (at + 1) c ≡ over (lengths_start (query_count l)) (n ∷ c ∷ []) l.words =
      sets_over l.words at n c inside ∙ (λ t. over ((starts ∙ ap lengths_start count) t) (n ∷ c ∷ []) l.words) in
      let long : length (set (set l.words at n) (at + 1) c) ≡ length l.words = length-set (set l.words at n) (at + 1) c ∙ length-set l.words at n in
      let words : set (set (set l.words at n) (at + 1) c) 1 (q + 1) ≡ over 1 ((query_count l + 1) ∷ []) (over (lengths_start (query_count l)) (n ∷ c ∷ []) l.words) =
      set_over (set (set l.words at n) (at + 1) c) 1 (q + 1) (omega (arith, long)) ∙ (λ t. over 1 ((count t + 1) ∷ []) (inner t)) in
      let bytes : bytes₂ ≡ over (text_start (query_count l)) (w.name ++ w.class) l.bytes =
      f ∙ ap (λ (b : List ℕ). paste b (first + n) w.class c) e
      ∙ sym (paste_append l.bytes first w.name w.class (omega arith))
      ∙ over_paste first (w.name ++ w.class) l.bytes
      ∙ ap (λ (i : ℕ). over i (w.name ++ w.class) l.bytes) (texts ∙ ap text_start count) in
      λ t. lent (words t) (bytes t)

-- ---- A pack

-- what is used of an image lies in it
module _ (contents bodies : List ℕ) (image : is_image contents bodies ≡ true) where
  pub rows_there : length (take (2 + row_words * count_of contents) contents) ≡ 2 + row_words * count_of contents
  rows_there = let h = image_holds contents bodies image in length-take-le (2 + row_words * count_of contents) contents (omega (arith, h.count_most, h.contents_long))

  pub bytes_there : length (take (used_of contents) bodies) ≡ used_of contents
  bytes_there = let h = image_holds contents bodies image in length-take-le (used_of contents) bodies (omega (arith, h.used_most, h.bodies_long))

module _ (l : Lent) (a : Arrival) (i at first : ℕ) (count : i ≡ pack_count l) (starts : at ≡ slot_start i) (bodies : first ≡ body_start i)
    (inside : at < length l.words) (rows : List ℕ) (store : List ℕ)
    (rows_are : rows ≡ take (2 + row_words * count_of a.contents) a.contents) (Store-is : store ≡ take (used_of a.contents) a.bodies) where
  pub pack_written : (words₁ bytes₁ : List ℕ) → words₁ ≡ over (at + 1) rows (set l.words at a.number) → 0 < length words₁
      → bytes₁ ≡ paste l.bytes first store (length store)
      → lent (set words₁ 0 (i + 1)) bytes₁ ≡ writing (arrive a) l
  unfolding writing
  pack_written words₁ bytes₁ e h f =
      let inner : words₁ ≡ over (slot_start (pack_count l)) (a.number ∷ take (2 + row_words * count_of a.contents) a.contents) l.words =
      e ∙ over_cons a.number rows l.words at inside ∙ (λ t. over ((starts ∙ ap slot_start count) t) (a.number ∷ rows_are t) l.words) in
      let words : set words₁ 0 (i + 1) ≡ over 0 ((pack_count l + 1) ∷ []) (over (slot_start (pack_count l)) (a.number ∷ take (2 + row_words * count_of a.contents) a.contents) l.words) =
      set_over words₁ 0 (i + 1) h ∙ (λ t. over 0 ((count t + 1) ∷ []) (inner t)) in
      let bytes : bytes₁ ≡ over (body_start (pack_count l)) (take (used_of a.contents) a.bodies) l.bytes =
      f ∙ over_paste first store l.bytes ∙ (λ t. over ((bodies ∙ ap body_start count) t) (Store-is t) l.bytes) in
      λ t. lent (words t) (bytes t)

-- ---- A pack that leaves

-- how many slots stand before it, by their words
pub before_slots : (l : Lent) (n i m : ℕ)
    → length (take_while (λ k. not (eqb n k)) (each (number_at l.words) i m)) ≡ length (take_while (λ a. not (eqb n a.number)) (each (slot_at l) i m))
unfolding take_while each slot_at
before_slots l n i zero = refl
before_slots l n i (suc m) = at (not (eqb n (number_at l.words i))) (before_slots l n (suc i) m)
  where
    at : (b : Bool)
        → length (take_while (λ k. not (eqb n k)) (each (number_at l.words) (suc i) m)) ≡ length (take_while (λ a. not (eqb n a.number)) (each (slot_at l) (suc i) m))
        → length (if b then number_at l.words i ∷ take_while (λ k. not (eqb n k)) (each (number_at l.words) (suc i) m) else [])
        ≡ length (if b then slot_at l i ∷ take_while (λ a. not (eqb n a.number)) (each (slot_at l) (suc i) m) else [])
    at true ih = ap suc ih
    at false ih = refl

pub pack_gone : (l : Lent) (n i : ℕ) → i ≡ before_number l.words n (pack_count l) → dropped l i (pack_count l) ≡ writing (leave n) l
unfolding dropped writing before_number
pack_gone l n i e = ap (λ (k : ℕ). dropped l k (pack_count l)) (e ∙ before_slots l n 0 (pack_count l))

-- it stands in the slot behind them
takes_to : (n : ℕ) (f : ℕ → ℕ) (i m : ℕ) → any (eqb n) (each f i m) ≡ true → f (i + length (take_while (λ k. not (eqb n k)) (each f i m))) ≡ n
unfolding any each take_while
takes_to n f i zero h = absurd (not_both h refl)
takes_to n f i (suc m) h = at (eqb n (f i)) refl h (takes_to n f (suc i) m)
  where
    at : (b : Bool) → eqb n (f i) ≡ b → (b || any (eqb n) (each f (suc i) m)) ≡ true
        → (any (eqb n) (each f (suc i) m) ≡ true → f (suc i + length (take_while (λ k. not (eqb n k)) (each f (suc i) m))) ≡ n)
        → f (i + length (if not b then f i ∷ take_while (λ k. not (eqb n k)) (each f (suc i) m) else [])) ≡ n
    at true e p ih = let z : i + 0 ≡ i = omega arith in ap f z ∙ sym (eqb-true n (f i) e)
    at false e p ih = let z : i + suc (length (take_while (λ k. not (eqb n k)) (each f (suc i) m))) ≡ suc i + length (take_while (λ k. not (eqb n k)) (each f (suc i) m)) = omega arith in ap f z ∙ ih p

-- with none of that number all slots stand before it
none_before : (n : ℕ) (f : ℕ → ℕ) (i m : ℕ) → any (eqb n) (each f i m) ≡ false → length (take_while (λ k. not (eqb n k)) (each f i m)) ≡ m
unfolding any each take_while
none_before n f i zero h = refl
none_before n f i (suc m) h = at (eqb n (f i)) h (none_before n f (suc i) m)
  where
    at : (b : Bool) → (b || any (eqb n) (each f (suc i) m)) ≡ false
        → (any (eqb n) (each f (suc i) m) ≡ false → length (take_while (λ k. not (eqb n k)) (each f (suc i) m)) ≡ m)
        → length (if not b then f i ∷ take_while (λ k. not (eqb n k)) (each f (suc i) m) else []) ≡ suc m
    at true h ih = absurd (not_both refl h)
    at false h ih = ap suc (ih h)

all_before : (words : List ℕ) (number count : ℕ) → has_number_from words number 0 count ≡ false → count ≡ before_number words number count
unfolding has_number_from before_number
all_before words number count h = let e : count - 0 ≡ count = omega arith in sym (none_before number (number_at words) 0 count (rw e at h))

pub slot_or : (words : List ℕ) (number count : ℕ) (o : Option ℕ)
    → MatchOption o (has_number_from words number 0 count ≡ false) (λ i. (has_number_from words number 0 count ≡ true) × (i ≡ before_number words number count))
    → unwrap_or o count ≡ before_number words number count
slot_or words number count None h = all_before words number count h
slot_or words number count (Some i) h = h.1

pub number_there : (l : Lent) (n : ℕ) → has_slot n (slots_in l) ≡ true → (i : ℕ) → i ≡ before_number l.words n (pack_count l) → number_at l.words i ≡ n
unfolding before_number
number_there l n p i e =
    let there : any (eqb n) (each (number_at l.words) 0 (pack_count l)) ≡ true = sym (slots_number l n 0 (pack_count l)) ∙ p in
    let z : i ≡ 0 + length (take_while (λ k. not (eqb n k)) (each (number_at l.words) 0 (pack_count l))) = omega (arith, e) in
    ap (number_at l.words) z ∙ takes_to n (number_at l.words) 0 (pack_count l) there

-- all slots before i have another number
pub record Before (words : List ℕ) (number count i : ℕ) : Type 0 where
  pub same : before_number words number count ≡ i + length (take_while (λ n. not (eqb number n)) (each (number_at words) i (count - i)))
  pub behind : has_number_from words number i count ≡ has_number_from words number 0 count
  pub most : i ≤ count

module _ (words : List ℕ) (number count : ℕ) where
  pub before_first : Before words number count 0
  unfolding before_number
  before_first =
      let e : count - 0 ≡ count = omega arith in
      record { same = rw e (omega arith); behind = refl; most = omega arith }

  module _ {i : ℕ} (h : Before words number count i) where
    turn : i < count → before_number words number count
        ≡ i + length (if not (eqb number (number_at words i)) then number_at words i ∷ take_while (λ n. not (eqb number n)) (each (number_at words) (i + 1) (count - (i + 1))) else [])
    unfolding take_while
    turn k = h.same ∙ rw (each_first (number_at words) i count k) refl

    pub before_found : i < count → number_at words i ≡ number → (has_number_from words number 0 count ≡ true) × (i ≡ before_number words number count)
    before_found k e = (sym h.behind ∙ number_found words number i count k e, sym (turn k ∙ rw (eq-eqb number (number_at words i) (sym e)) (omega arith)))

    pub before_more : i < count → (number_at words i ≡ number → ⊥) → Before words number count (i + 1)
    before_more k e = record {
      same = turn k ∙ rw (ne_eqb number (number_at words i) (λ z. e (sym z))) (omega arith);
      behind = sym (number_on words number i count k e) ∙ h.behind;
      most = omega arith;
    }

    pub before_end : count ≤ i → has_number_from words number 0 count ≡ false
    before_end k = sym h.behind ∙ number_none words number i count k

-- the slots behind slot i moved up
module _ (l : Lent) (i count at next end body behind last : ℕ) (a : at ≡ slot_start i) (b : next ≡ slot_start (i + 1)) (c : end ≡ slot_start count)
    (d : body ≡ body_start i) (e : behind ≡ body_start (i + 1)) (f : last ≡ body_start count) where
  pub slot_dropped : (words₁ bytes₁ : List ℕ) → words₁ ≡ over at (slice next end l.words) l.words → 0 < length words₁
      → bytes₁ ≡ over body (slice behind last l.bytes) l.bytes → lent (set words₁ 0 (count - 1)) bytes₁ ≡ dropped l i count
  unfolding dropped
  slot_dropped words₁ bytes₁ g h k =
      let n : next ≡ slot_start (suc i) = b ∙ ap slot_start (add-one i) in
      let m : behind ≡ body_start (suc i) = e ∙ ap body_start (add-one i) in
      let words : set words₁ 0 (count - 1) ≡ over 0 ((count - 1) ∷ []) (over (slot_start i) (slice (slot_start (suc i)) (slot_start count) l.words) l.words) =
      set_over words₁ 0 (count - 1) h ∙ ap (over 0 ((count - 1) ∷ [])) (g ∙ (λ t. over (a t) (slice (n t) (c t) l.words) l.words)) in
      let bytes : bytes₁ ≡ over (body_start i) (slice (body_start (suc i)) (body_start count) l.bytes) l.bytes =
      k ∙ (λ t. over (d t) (slice (m t) (f t) l.bytes) l.bytes) in
      λ t. lent (words t) (bytes t)

-- a pack that is there stands in one of the slots
pub gone_inside : (l : Lent) (n : ℕ) → Laid l → has_slot n (slots_in l) ≡ true → (i : ℕ) → i ≡ before_number l.words n (pack_count l) → i < pack_count l
unfolding before_number
gone_inside l n h p i e =
    omega (arith, e, before_slots l n 0 (pack_count l), (slot_leaves n (slots_in l) h.slots p).0, each_long (slot_at l) 0 (pack_count l))

-- the slot by the words of a judged board
pub slot_at_call : (b : Buffers) (l : Lent) (n i : ℕ) → lent_of b ≡ l → i ≡ before_number b.words.now n (pack_count (lent_of b)) → i ≡ before_number l.words n (pack_count l)
slot_at_call b l n i e h = h ∙ ap (λ (o : Lent). before_number o.words n (pack_count o)) e
