-- What the search over the slots finds is what the joined entries give. Assumes nothing.
use Rattle.std.specs.Prelude.{if◌then◌else◌}
use mathlib.Core.Bool.{Bool, true, false}
use mathlib.Core.List.{List, [], ◌∷◌, ◌++◌, map, map-append, flatten, append_assoc}
use mathlib.Core.Option.{Option, some, none}
use mathlib.Core.Path.{◌≡◌, refl, sym, ap, ◌∙◌}
use Prim.Native.Nat.{ℕ, zero, suc, ◌+◌, ◌*◌, ◌/◌, ◌%◌, ◌≤◌, ◌<◌}
use native.Mathlib.Nat.{mul-add-div, mul-add-mod_self_left, mod-eq_of_lt, div-eq_of_lt}
use native.Mathlib.Omega.{arith}
use lib.Dec.{eqb}
use lib.ListN
use lib.ListN.{length, get_or, take, length-append, length-map, get_or-append}
use lib.Seq.{get_or-append-add, take-take}
use borrow.Author.Tests.{ne_eqb}
use Rattle.definition.specs.Lists.{lower}
use Rattle.definition.specs.Limits.{most_entries, most_packs}
use Rattle.definition.specs.Text.{Part, Entry}
use Rattle.definition.specs.Image.{Row, rows_in, count_of, used_of, key_end, value_end, entry_at, is_image}
use Rattle.definition.specs.Query.{Position, Query, positions, malformed, past_limit}
use Rattle.definition.specs.Ranking.{Best, no_entry, best, rank_of, better, best_from, best_of}
use Rattle.definition.specs.Lookup.{keys_of, value_of, answer_of, given}
use Rattle.definition.specs.Writing.{entries_of_image}
use Rattle.definition.specs.Board.{Arrival, kept, Brought, brought_by, joined, nothing_brought, found_at, found_in, query_number, watched_answer, each, Lent, pack_count, slot_at, board_in, is_board}
use Rattle.laws.proofs.Lists.{get_d_map}
use Rattle.laws.proofs.Image.{image_holds, image_sizes, count_rows}
use Rattle.board_laws.proofs.Fronts.{front_slice, keeps_entries}
use Rattle.board_laws.proofs.Calls.{laid}
use Rattle.image.proofs.Rows.{row_is}
use Rattle.image_judge.proofs.Judged.{Judged, judged}
use Rattle.lookup.specs.Searches.{numbered}
use Rattle.board_search.specs.Slots.{best_slots, passing, spot_of, row_of, place_of, Named, spot_value, spot_bytes}
use Rattle.board_search.proofs.Numbering.{Agrees, agrees_from}
use Rattle.board_judge.proofs.Images.{slot_image}

abbrev entry_of : Brought → Entry
entry_of x = x.entry

-- entry i of the joined list has another number in the board
abbrev Stand : List Brought → (ℕ → Brought) → ℕ → ℕ → Type 0
Stand xs f i j = get_or xs i nothing_brought ≡ f j

best_append : (xs ys : List (List Part)) (qs : List Position) (i : ℕ) (b : Best) → best_from (xs ++ ys) qs i b ≡ best_from ys qs (i + length xs) (best_from xs qs i b)
unfolding best_from
best_append [] ys qs i b = let e : i + 0 ≡ i = omega arith in rw e refl
best_append (x ∷ xs) ys qs i b =
    let e : i + suc (length xs) ≡ suc i + length xs = omega arith in
    rw e (best_append xs ys qs (suc i) (better i (rank_of x qs) b))

-- ---- The entries of a slot

module _ (l : Lent) (i : ℕ) (image : is_image (slot_at l i).contents (slot_at l i).bodies ≡ true) where
  abbrev slot : Arrival
  slot = slot_at l i

  abbrev mine : List Brought
  mine = brought_by (kept slot)

  mine_long : length mine ≡ count_of slot.contents
  unfolding brought_by
  mine_long = length-map (rows_in slot.contents) _ ∙ count_rows slot.contents

  keys_mine : keys_of (map entry_of mine) ≡ keys_of (entries_of_image slot.contents slot.bodies)
  keys_mine = ap keys_of (keeps_entries slot image)

  keys_long : length (keys_of (map entry_of mine)) ≡ length mine
  keys_long = length-map (map entry_of mine) _ ∙ length-map mine entry_of

-- the entry that a number names
brought_in : Lent → ℕ → Brought
brought_in l n =
    let a = slot_at l (n / most_entries) in
    record { pack = a.number; place = record { start = key_end (row_of l n); length = (row_of l n).value_length }; entry = entry_at (kept a).store (row_of l n) }

module _ (l : Lent) (i : ℕ) (image : is_image (slot_at l i).contents (slot_at l i).bodies ≡ true) where
  number_slot : (r : ℕ) → r < most_entries → (most_entries * i + r) / most_entries ≡ i
  number_slot r h = let e : i + 0 ≡ i = omega arith in mul-add-div (omega arith) i r ∙ ap (λ (k : ℕ). i + k) (div-eq_of_lt h) ∙ e

  number_row : (r : ℕ) → r < most_entries → (most_entries * i + r) % most_entries ≡ r
  number_row r h = mul-add-mod_self_left most_entries i r ∙ mod-eq_of_lt h

  mine_at : (r : ℕ) → r < count_of (slot l i image).contents → get_or (mine l i image) r nothing_brought ≡ brought_in l (most_entries * i + r)
  unfolding brought_in brought_by
  mine_at r h =
      let few = (image_holds (slot_at l i).contents (slot_at l i).bodies image).count_most in
      let d : Row = record { start = 0; key_length = 0; value_length = 0 } in
      get_d_map _ (rows_in (slot_at l i).contents) r d nothing_brought (omega (arith, count_rows (slot_at l i).contents))
      ∙ rw (row_is (slot_at l i).contents r d h, number_slot r (omega arith), number_row r (omega arith)) refl

-- ---- All slots

module _ (l : Lent) (skip : ℕ) (qs : List Position) (xs : List Brought) where
  slots_agree : (i n : ℕ) (before : List Brought) (b c : Best)
      → ((j : ℕ) → i ≤ j → j < i + n → is_image (slot_at l j).contents (slot_at l j).bodies ≡ true)
      → xs ≡ before ++ joined (map kept (passing l skip i n)) → Agrees (Stand xs (brought_in l)) b c
      → Agrees (Stand xs (brought_in l)) (best_from (keys_of (map entry_of (joined (map kept (passing l skip i n))))) qs (length before) b) (best_slots l skip qs i n c)
  unfolding passing best_slots joined flatten
  slots_agree i zero before b c images e a = unfold best_from in a
  slots_agree i (suc n) before b c images e a =
      at (eqb i skip) e (slots_agree (suc i) n)
    where
      rest : List Brought
      rest = joined (map kept (passing l skip (suc i) n))

      at : (w : Bool) → xs ≡ before ++ joined (map kept (if w then passing l skip (suc i) n else slot_at l i ∷ passing l skip (suc i) n))
          → ((before : List Brought) (b c : Best)
          → ((j : ℕ) → suc i ≤ j → j < suc i + n → is_image (slot_at l j).contents (slot_at l j).bodies ≡ true)
          → xs ≡ before ++ joined (map kept (passing l skip (suc i) n)) → Agrees (Stand xs (brought_in l)) b c
          → Agrees (Stand xs (brought_in l)) (best_from (keys_of (map entry_of (joined (map kept (passing l skip (suc i) n))))) qs (length before) b) (best_slots l skip qs (suc i) n c))
          → Agrees (Stand xs (brought_in l))
          (best_from (keys_of (map entry_of (joined (map kept (if w then passing l skip (suc i) n else slot_at l i ∷ passing l skip (suc i) n))))) qs (length before) b)
          (best_slots l skip qs (suc i) n (if w then c else best_from (keys_of (entries_of_image (slot_at l i).contents (slot_at l i).bodies)) qs (most_entries * i) c))
      at true f ih = ih before b c (λ j p q. images j (omega arith) (omega arith)) f a
      at false f ih =
          let image = images i (omega arith) (omega arith) in
          let own = mine l i image in
          let long = mine_long l i image in
          let split : keys_of (map entry_of (own ++ rest)) ≡ keys_of (map entry_of own) ++ keys_of (map entry_of rest) =
          ap keys_of (map-append entry_of own rest) ∙ map-append _ (map entry_of own) (map entry_of rest) in
          let there : (r : ℕ) → r < length (keys_of (map entry_of own)) → get_or xs (length before + r) nothing_brought ≡ brought_in l (most_entries * i + r) = λ r z.
          let h : r < length own = omega (arith, keys_long l i image) in
          ap (λ (y : List Brought). get_or y (length before + r) nothing_brought) f
          ∙ get_or-append-add before (own ++ rest) r nothing_brought
          ∙ get_or-append own rest nothing_brought r h
          ∙ mine_at l i image r (omega (arith, long)) in
          let step = agrees_from (Stand xs (brought_in l)) (keys_of (map entry_of own)) qs (length before) (most_entries * i) b c there a in
          let more = ih (before ++ own) _ _ (λ j p q. images j (omega arith) (omega arith)) (f ∙ sym (append_assoc before own rest)) (rw (keys_mine l i image) at step) in
          let size : length before + length (keys_of (map entry_of own)) ≡ length (before ++ own) = omega (arith, keys_long l i image, length-append before own) in
          rw (split, best_append (keys_of (map entry_of own)) (keys_of (map entry_of rest)) qs (length before) b, size, keys_mine l i image) more

found_same : (l : Lent) (xs : List Brought) (b c : Best) → Agrees (Stand xs (brought_in l)) b c → place_of l (numbered c) ≡ found_at xs b
unfolding place_of numbered found_at brought_in
found_same l xs no_entry no_entry a = refl
found_same l xs no_entry (best j s) a = absurd a
found_same l xs (best i r) no_entry a = absurd a
found_same l xs (best i r) (best j s) a = sym (ap (λ (x : Brought). given (record { pack = x.pack; place = x.place })) a.1)

-- the packs but for the one in a slot
module _ (l : Lent) (is : is_board l ≡ true) (skip : ℕ) where
  abbrev others : List Brought
  others = joined (map kept (passing l skip 0 (pack_count l)))

  all_agree : (qs : List Position)
      → Agrees (Stand others (brought_in l)) (best_from (keys_of (map entry_of others)) qs 0 no_entry) (best_slots l skip qs 0 (pack_count l) no_entry)
  all_agree qs = slots_agree l skip qs others 0 (pack_count l) [] no_entry no_entry (λ j a b. slot_image l is j (omega arith)) refl tt

  -- what is found at a number is what the joined entries give
  pub found_is : (q : Query) → place_of l (spot_of l skip q) ≡ found_in others q
  unfolding spot_of found_in best_of
  found_is (positions qs) = found_same l others _ _ (all_agree qs)
  found_is malformed = unfold place_of in refl
  found_is (past_limit k) = unfold place_of in refl

-- with no slot passed over these are all packs
pub passing_all : (l : Lent) (skip i n : ℕ) → i + n ≤ skip → passing l skip i n ≡ each (slot_at l) i n
unfolding passing each
passing_all l skip i zero h = refl
passing_all l skip i (suc n) h = rw (ne_eqb i skip (λ e. omega arith)) (ap (λ (rest : List Arrival). slot_at l i ∷ rest) (passing_all l skip (suc i) n (omega arith)))

-- what is found there is the watched answer
pub answer_is : (l : Lent) → is_board l ≡ true → (q : ℕ) → place_of l (spot_of l most_packs (query_number (board_in l).queries q)) ≡ watched_answer (board_in l) q
answer_is l is q =
    found_is l is most_packs (query_number (board_in l).queries q)
    ∙ ap (λ (slots : List Arrival). found_in (joined (map kept slots)) (query_number (board_in l).queries q))
    (passing_all l most_packs 0 (pack_count l) (omega (arith, (laid l is).packs_most)))

-- ---- The number names an entry of a pack

abbrev Names : Lent → Best → Type 0
Names l no_entry = Unit {0}
Names l (best j r) = Named l j

names_better : (l : Lent) (j : ℕ) (o : Option (List ℕ)) (b : Best) → Named l j → Names l b → Names l (better j o b)
unfolding better
names_better l j none b h u = u
names_better l j (some r) no_entry h u = h
names_better l j (some r) (best k s) h u = at (lower r s)
  where
    at : (w : Bool) → Names l (if w then best k s else best j r)
    at true = u
    at false = h

names_from : (l : Lent) (ks : List (List Part)) (qs : List Position) (j : ℕ) (b : Best) → ((r : ℕ) → r < length ks → Named l (j + r)) → Names l b
    → Names l (best_from ks qs j b)
unfolding best_from
names_from l [] qs j b h u = u
names_from l (k ∷ ks) qs j b h u =
    let e : j + 0 ≡ j = omega arith in
    let first : Named l j = rw e at (h 0 (omega arith)) in
    let later : (r : ℕ) → r < length ks → Named l (suc j + r) = λ r z.
    let x : j + suc r ≡ suc j + r = omega arith in
    rw x at (h (suc r) (omega arith)) in
    names_from l ks qs (suc j) (better j (rank_of k qs) b) later (names_better l j (rank_of k qs) b first u)

names_slot : (l : Lent) (i : ℕ) (image : is_image (slot_at l i).contents (slot_at l i).bodies ≡ true) → i < pack_count l → (r : ℕ)
    → r < length (keys_of (entries_of_image (slot_at l i).contents (slot_at l i).bodies)) → Named l (most_entries * i + r)
names_slot l i image h r k =
    let es = entries_of_image (slot_at l i).contents (slot_at l i).bodies in
    let inside : r < count_of (slot_at l i).contents =
    omega (arith, k, length-map es (λ (e : Entry). e.parts), (image_sizes (slot_at l i).contents (slot_at l i).bodies image).0) in
    let small : r < most_entries = omega (arith, inside, (image_holds (slot_at l i).contents (slot_at l i).bodies image).count_most) in
    record { slot = rw (number_slot l i image r small) h; row = rw (number_slot l i image r small, number_row l i image r small) inside }

names_slots : (l : Lent) (skip : ℕ) (qs : List Position) (i n : ℕ) (b : Best)
    → ((j : ℕ) → i ≤ j → j < i + n → is_image (slot_at l j).contents (slot_at l j).bodies ≡ true) → i + n ≤ pack_count l → Names l b → Names l (best_slots l skip qs i n b)
unfolding best_slots
names_slots l skip qs i zero b images h u = u
names_slots l skip qs i (suc n) b images h u =
    names_slots l skip qs (suc i) n _ (λ j p q. images j (omega arith) (omega arith)) (omega arith) (at (eqb i skip))
  where
    at : (w : Bool) → Names l (if w then b else best_from (keys_of (entries_of_image (slot_at l i).contents (slot_at l i).bodies)) qs (most_entries * i) b)
    at true = u
    at false =
        names_from l (keys_of (entries_of_image (slot_at l i).contents (slot_at l i).bodies)) qs (most_entries * i) b
        (names_slot l i (images i (omega arith) (omega arith)) (omega arith)) u

module _ (l : Lent) (is : is_board l ≡ true) (skip : ℕ) where
  names_all : (qs : List Position) → Names l (best_slots l skip qs 0 (pack_count l) no_entry)
  names_all qs = names_slots l skip qs 0 (pack_count l) no_entry (λ j a b. slot_image l is j (omega arith)) (omega arith) tt

  pub spot_named : (q : Query) (n : ℕ) → given n ≡ spot_of l skip q → Named l n
  unfolding spot_of numbered
  spot_named (positions qs) n e = at (best_slots l skip qs 0 (pack_count l) no_entry) e (names_all qs)
    where
      at : (b : Best) → given n ≡ numbered b → Names l b → Named l n
      at no_entry z u = absurd (let y : ◌≡◌ {A = ℕ} 0 1 = cc in omega arith)
      at (best j r) z u = let y : n ≡ j = cc in rw y u
  spot_named malformed n e = absurd (let y : ◌≡◌ {A = ℕ} 0 1 = cc in omega arith)
  spot_named (past_limit k) n e = absurd (let y : ◌≡◌ {A = ℕ} 0 1 = cc in omega arith)

pub named_small : (l : Lent) → is_board l ≡ true → (n : ℕ) → Named l n → n < most_entries * most_packs
named_small l is n h = omega (arith, h.slot, (laid l is).packs_most)

-- ---- Its value

module _ (l : Lent) (is : is_board l ≡ true) (n : ℕ) (h : Named l n) where
  abbrev holder : Arrival
  holder = slot_at l (n / most_entries)

  pub named_judged : Judged holder.contents holder.bodies
  named_judged = judged holder.contents holder.bodies (slot_image l is (n / most_entries) h.slot)

  -- it lies in what is used of its pack's bodies
  pub named_inside : value_end (row_of l n) ≤ used_of holder.contents
  named_inside = named_judged.row_inside (n % most_entries) h.row

  named_value : (brought_in l n).entry.value ≡ spot_value l n
  unfolding brought_in
  named_value =
      let used = used_of holder.contents in
      let store = take used holder.bodies in
      front_slice used store holder.bodies (take-take used used holder.bodies (omega arith)) (key_end (row_of l n)) (value_end (row_of l n)) named_inside

value_same : (l : Lent) → is_board l ≡ true → (xs : List Brought) (b c : Best) → Names l c → Agrees (Stand xs (brought_in l)) b c
    → spot_bytes l (numbered c) ≡ value_of (map entry_of xs) b
unfolding spot_bytes numbered value_of
value_same l is xs no_entry no_entry h a = refl
value_same l is xs no_entry (best j s) h a = absurd a
value_same l is xs (best i r) no_entry h a = absurd a
value_same l is xs (best i r) (best j s) h a =
    ap (λ (v : List ℕ). some v)
    (sym (named_value l is j h) ∙ sym (ap (λ (x : Brought). x.entry.value) a.1) ∙ sym (ap (λ (e : Entry). e.value) (ListN.get_or-map entry_of xs i nothing_brought)))

-- the bytes found at a number are those that the joined entries give
pub value_is : (l : Lent) → is_board l ≡ true → (skip : ℕ) (q : Query)
    → spot_bytes l (spot_of l skip q) ≡ answer_of (map (λ x. x.entry) (joined (map kept (passing l skip 0 (pack_count l))))) q
unfolding spot_of answer_of best_of
value_is l is skip (positions qs) = value_same l is (others l is skip) _ _ (names_all l is skip qs) (all_agree l is skip qs)
value_is l is skip malformed = unfold spot_bytes in refl
value_is l is skip (past_limit k) = unfold spot_bytes in refl
