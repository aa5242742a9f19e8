-- Laws of the words for lists. Assumes nothing.
use Rattle.std.specs.Prelude.{if◌then◌else◌}
use mathlib.Core.Bool.{Bool, true, false, ◌&&◌, ◌||◌, or_assoc, or-true, and_assoc}
use mathlib.Core.List.{List, [], ◌∷◌, ◌++◌, map, append_assoc}
use mathlib.Core.Path.{◌≡◌, refl, sym, ap, ◌∙◌}
use Prim.Native.Nat.{ℕ, zero, suc, ◌+◌, ◌-◌, ◌≤◌, ◌<◌}
use native.Mathlib.Numerals.{add-one, one-add}
use native.Mathlib.Omega.{arith}
use native.Mathlib.Decide.{dec_lt}
use lib.Dec.{eqb, ltb, leb}
use lib.ListN.{length, get_or, take, drop, length-drop, drop_of_length-le, set, length-append, length-set}
use lib.Seq.{slice, take-nil, drop-nil, take-append-add, take-append_seam, drop-append_seam, take_all, drop-cons, drop-drop, paste, take-length, length-take-le, sets-eq, take-paste, drop-paste}
use native.Mathlib.Nat.{le_refl}
use borrow.Author.Tests.{eqb-true, eq-eqb, lt-ltb, le-ltb, ne_eqb, le-leb, lt-leb, leb-true}
use Rattle.definition.specs.Bytes.{within}
use Rattle.definition.specs.Lists.{all, any, take_while, drop_while, filter, same, lower}

-- ---- Tests

pub not_both : {b : Bool} → b ≡ true → b ≡ false → ⊥
not_both {b} t f = let z : ◌≡◌ {A = ℕ} 0 1 = ap (λ (x : Bool). if x then 0 else 1) (sym t ∙ f) in omega arith

pub and_true : (a b : Bool) → (a && b) ≡ true → (a ≡ true) × (b ≡ true)
and_true true b e = (refl, e)
and_true false b e = absurd (not_both e refl)

pub and_both : {a b : Bool} → a ≡ true → b ≡ true → (a && b) ≡ true
and_both p q = rw (p, q) refl

-- three ways for two numbers
pub data Order (a b : ℕ) : Type 0 where
  below : a < b → Order a b
  equal : a ≡ b → Order a b
  above : b < a → Order a b

pub order : (a b : ℕ) → Order a b
order a b = at (dec_lt a b) (dec_lt b a)
  where
    at : Dec (a < b) → Dec (b < a) → Order a b
    at (yes h) k = below h
    at (no h) (yes k) = above k
    at (no h) (no k) = equal (omega arith)

-- ---- Sameness

pub same_refl : (xs : List ℕ) → same xs xs ≡ true
unfolding same
same_refl [] = refl
same_refl (x ∷ xs) = rw (eq-eqb x x refl) (same_refl xs)

pub same_eq : (xs ys : List ℕ) → same xs ys ≡ true → xs ≡ ys
unfolding same
same_eq [] [] e = refl
same_eq [] (y ∷ ys) e = absurd (not_both e refl)
same_eq (x ∷ xs) [] e = absurd (not_both e refl)
same_eq (x ∷ xs) (y ∷ ys) e =
    let p = and_true (eqb x y) (same xs ys) e in
    rw (eqb-true x y p.0, same_eq xs ys p.1) refl

pub eq_same : (xs ys : List ℕ) → xs ≡ ys → same xs ys ≡ true
eq_same xs ys e = rw e (same_refl ys)

-- ---- The order of lists

module _ (x y : ℕ) (xs ys : List ℕ) where
  pub lower_below : x < y → lower (x ∷ xs) (y ∷ ys) ≡ true
  unfolding lower
  lower_below h = rw (lt-ltb x y h) refl

  pub lower_above : y < x → lower (x ∷ xs) (y ∷ ys) ≡ false
  unfolding lower
  lower_above h = rw (le-ltb x y (omega arith), lt-ltb y x h) refl

  pub lower_equal : x ≡ y → lower (x ∷ xs) (y ∷ ys) ≡ lower xs ys
  unfolding lower
  lower_equal h = rw (le-ltb x y (omega arith), le-ltb y x (omega arith)) refl

pub lower_irrefl : (xs : List ℕ) → lower xs xs ≡ false
unfolding lower
lower_irrefl [] = refl
lower_irrefl (x ∷ xs) = lower_equal x x xs xs refl ∙ lower_irrefl xs

pub lower_asym : (xs ys : List ℕ) → lower xs ys ≡ true → lower ys xs ≡ false
unfolding lower
lower_asym [] [] h = refl
lower_asym [] (y ∷ ys) h = refl
lower_asym (x ∷ xs) [] h = absurd (not_both h refl)
lower_asym (x ∷ xs) (y ∷ ys) h = at (order x y) (lower_asym xs ys)
  where
    at : Order x y → (lower xs ys ≡ true → lower ys xs ≡ false) → lower (y ∷ ys) (x ∷ xs) ≡ false
    at (below k) ih = lower_above y x ys xs k
    at (equal k) ih = lower_equal y x ys xs (sym k) ∙ ih (sym (lower_equal x y xs ys k) ∙ h)
    at (above k) ih = absurd (not_both h (lower_above x y xs ys k))

-- xs not below ys, and ys not below zs
pub not_lower_trans : (xs ys zs : List ℕ) → lower xs ys ≡ false → lower ys zs ≡ false → lower xs zs ≡ false
unfolding lower
not_lower_trans [] [] zs p q = q
not_lower_trans [] (y ∷ ys) zs p q = absurd (not_both refl p)
not_lower_trans (x ∷ xs) ys [] p q = refl
not_lower_trans (x ∷ xs) [] (z ∷ zs) p q = absurd (not_both refl q)
not_lower_trans (x ∷ xs) (y ∷ ys) (z ∷ zs) p q = at (order x y) (order y z) (not_lower_trans xs ys zs)
  where
    at : Order x y → Order y z → (lower xs ys ≡ false → lower ys zs ≡ false → lower xs zs ≡ false) → lower (x ∷ xs) (z ∷ zs) ≡ false
    at (below h) k ih = absurd (not_both (lower_below x y xs ys h) p)
    at (equal h) (below k) ih = absurd (not_both (lower_below y z ys zs k) q)
    at (above h) (below k) ih = absurd (not_both (lower_below y z ys zs k) q)
    at (equal h) (equal k) ih = lower_equal x z xs zs (h ∙ k) ∙ ih (sym (lower_equal x y xs ys h) ∙ p) (sym (lower_equal y z ys zs k) ∙ q)
    at (equal h) (above k) ih = lower_above x z xs zs (omega arith)
    at (above h) (equal k) ih = lower_above x z xs zs (omega arith)
    at (above h) (above k) ih = lower_above x z xs zs (omega arith)

-- below what is not below zs is below zs
pub lower_trans : (xs ys zs : List ℕ) → lower xs ys ≡ true → lower zs ys ≡ false → lower xs zs ≡ true
lower_trans xs ys zs p q = at (lower xs zs) refl
  where
    at : (b : Bool) → lower xs zs ≡ b → lower xs zs ≡ true
    at true e = e
    at false e = absurd (not_both p (not_lower_trans xs zs ys e q))

-- ---- The longest beginning that passes a test

module _ {A : Type 0} (p : A → Bool) where
  pub take_while_drop_while : (xs : List A) → take_while p xs ++ drop_while p xs ≡ xs
  unfolding take_while drop_while
  take_while_drop_while [] = refl
  take_while_drop_while (x ∷ xs) = at (p x) (take_while_drop_while xs)
    where
      at : (b : Bool) → take_while p xs ++ drop_while p xs ≡ xs
          → (if b then x ∷ take_while p xs else []) ++ (if b then drop_while p xs else x ∷ xs) ≡ x ∷ xs
      at true ih = ap (λ (l : List A). x ∷ l) ih
      at false ih = refl

  pub all_take_while : (xs : List A) → all p (take_while p xs) ≡ true
  unfolding take_while all
  all_take_while [] = refl
  all_take_while (x ∷ xs) = at (p x) refl (all_take_while xs)
    where
      at : (b : Bool) → p x ≡ b → all p (take_while p xs) ≡ true → all p (if b then x ∷ take_while p xs else []) ≡ true
      at true e ih = rw e ih
      at false e ih = refl

  pub drop_while_le : (xs : List A) → length (drop_while p xs) ≤ length xs
  unfolding drop_while
  drop_while_le [] = omega arith
  drop_while_le (x ∷ xs) = at (p x) (drop_while_le xs)
    where
      at : (b : Bool) → length (drop_while p xs) ≤ length xs → length (if b then drop_while p xs else x ∷ xs) ≤ suc (length xs)
      at true ih = omega arith
      at false ih = omega arith

  -- elements that all pass, before what does not go on with them
  pub take_while_append : (xs ys : List A) → all p xs ≡ true → take_while p ys ≡ [] → take_while p (xs ++ ys) ≡ xs
  unfolding take_while all
  take_while_append [] ys h e = e
  take_while_append (x ∷ xs) ys h e =
      let a = and_true (p x) (all p xs) h in
      rw (a.0, take_while_append xs ys a.1 e) refl

  pub drop_while_append : (xs ys : List A) → all p xs ≡ true → drop_while p (xs ++ ys) ≡ drop_while p ys
  unfolding drop_while all
  drop_while_append [] ys h = refl
  drop_while_append (x ∷ xs) ys h =
      let a = and_true (p x) (all p xs) h in
      rw a.0 (drop_while_append xs ys a.1)

-- ---- Tests of a whole list

module _ {A : Type 0} (p : A → Bool) where
  pub any_append : (xs ys : List A) → any p (xs ++ ys) ≡ (any p xs || any p ys)
  unfolding any
  any_append [] ys = refl
  any_append (x ∷ xs) ys = rw (any_append xs ys) (sym (or_assoc (p x) (any p xs) (any p ys)))

  pub filter_append : (xs ys : List A) → filter p (xs ++ ys) ≡ filter p xs ++ filter p ys
  unfolding filter
  filter_append [] ys = refl
  filter_append (x ∷ xs) ys = at (p x) (filter_append xs ys)
    where
      at : (b : Bool) → filter p (xs ++ ys) ≡ filter p xs ++ filter p ys
          → (if b then x ∷ filter p (xs ++ ys) else filter p (xs ++ ys)) ≡ (if b then x ∷ filter p xs else filter p xs) ++ filter p ys
      at true ih = ap (λ (l : List A). x ∷ l) ih
      at false ih = ih

-- ---- Neither below the other

pub not_lower_equal : (xs ys : List ℕ) → lower xs ys ≡ false → lower ys xs ≡ false → xs ≡ ys
unfolding lower
not_lower_equal [] [] p q = refl
not_lower_equal [] (y ∷ ys) p q = absurd (not_both refl p)
not_lower_equal (x ∷ xs) [] p q = absurd (not_both refl q)
not_lower_equal (x ∷ xs) (y ∷ ys) p q = at (order x y) (not_lower_equal xs ys)
  where
    at : Order x y → (lower xs ys ≡ false → lower ys xs ≡ false → xs ≡ ys) → x ∷ xs ≡ y ∷ ys
    at (below h) ih = absurd (not_both (lower_below x y xs ys h) p)
    at (equal h) ih = rw (h, ih (sym (lower_equal x y xs ys h) ∙ p) (sym (lower_equal y x ys xs (sym h)) ∙ q)) refl
    at (above h) ih = absurd (not_both (lower_below y x ys xs h) q)

-- ---- Places in a list, and after a filter

pub get_d_map : {A B : Type 0} (f : A → B) (xs : List A) (i : ℕ) (d : A) (e : B) → i < length xs → get_or (map f xs) i e ≡ f (get_or xs i d)
get_d_map f [] i d e h = absurd (omega arith)
get_d_map f (x ∷ xs) zero d e h = refl
get_d_map f (x ∷ xs) (suc i) d e h = get_d_map f xs i d e (omega arith)

-- what is there does not depend on what stands in for the rest
pub get_d_inside : {A : Type 0} (xs : List A) (i : ℕ) (d e : A) → i < length xs → get_or xs i d ≡ get_or xs i e
get_d_inside [] i d e h = absurd (omega arith)
get_d_inside (x ∷ xs) zero d e h = refl
get_d_inside (x ∷ xs) (suc i) d e h = get_d_inside xs i d e (omega arith)

-- ys are elements of xs in their order, every kept one among them: place says where in xs each stands
pub record Places {A : Type 0} (keep : A → Bool) (d : A) (ys xs : List A) : Type 0 where
  pub place : ℕ → ℕ
  pub rises : (j k : ℕ) → j < k → place j < place k
  pub inside : (k : ℕ) → k < length ys → place k < length xs
  pub element : (k : ℕ) → get_or ys k d ≡ get_or xs (place k) d
  pub back : (i : ℕ) → i < length xs → keep (get_or xs i d) ≡ true → (k : ℕ) × (k < length ys) × (place k ≡ i)

-- a new first stays first, and the rest stand one further on
lifted : (ℕ → ℕ) → ℕ → ℕ
lifted f zero = zero
lifted f (suc k) = suc (f k)

module _ {A : Type 0} (keep : A → Bool) (d : A) where
  none_yet : Places keep d [] []
  none_yet = record {
    place = λ k. k;
    rises = λ j k h. h;
    inside = λ k h. h;
    element = λ k. refl;
    back = λ i h e. absurd (omega arith);
  }

  one_more : (x : A) (ys xs : List A) → Places keep d ys xs → Places keep d (x ∷ ys) (x ∷ xs)
  unfolding lifted
  one_more x ys xs p = record { place = lifted p.place; rises = rises; inside = inside; element = element; back = back }
    where
      rises : (j k : ℕ) → j < k → lifted p.place j < lifted p.place k
      rises zero zero h = absurd (omega arith)
      rises zero (suc k) h = omega arith
      rises (suc j) zero h = absurd (omega arith)
      rises (suc j) (suc k) h = omega (arith, p.rises j k (omega arith))

      inside : (k : ℕ) → k < suc (length ys) → lifted p.place k < suc (length xs)
      inside zero h = omega arith
      inside (suc k) h = omega (arith, p.inside k (omega arith))

      element : (k : ℕ) → get_or (x ∷ ys) k d ≡ get_or (x ∷ xs) (lifted p.place k) d
      element zero = refl
      element (suc k) = p.element k

      back : (i : ℕ) → i < suc (length xs) → keep (get_or (x ∷ xs) i d) ≡ true → (k : ℕ) × (k < suc (length ys)) × (lifted p.place k ≡ i)
      back zero h e = (0, omega arith, refl)
      back (suc i) h e = let r = p.back i (omega arith) e in (suc r.0, omega (arith, r.1), ap suc r.2)

  one_less : (x : A) (ys xs : List A) → keep x ≡ false → Places keep d ys xs → Places keep d ys (x ∷ xs)
  one_less x ys xs e p = record {
    place = λ k. suc (p.place k);
    rises = λ j k h. omega (arith, p.rises j k h);
    inside = λ k h. omega (arith, p.inside k h);
    element = p.element;
    back = back;
  }
    where
      back : (i : ℕ) → i < suc (length xs) → keep (get_or (x ∷ xs) i d) ≡ true → (k : ℕ) × (k < length ys) × (suc (p.place k) ≡ i)
      back zero h f = absurd (not_both f e)
      back (suc i) h f = let r = p.back i (omega arith) f in (r.0, r.1, ap suc r.2)

  pub places : (xs : List A) → Places keep d (filter keep xs) xs
  unfolding filter
  places [] = none_yet
  places (x ∷ xs) = at (keep x) refl (places xs)
    where
      at : (b : Bool) → keep x ≡ b → Places keep d (filter keep xs) xs → Places keep d (if b then x ∷ filter keep xs else filter keep xs) (x ∷ xs)
      at true e p = one_more x (filter keep xs) xs p
      at false e p = one_less x (filter keep xs) xs e p

-- ---- One element left out, and elements that all pass a test

-- two tests that pass together are the same
pub both_ways : (a b : Bool) → (a ≡ true → b ≡ true) → (b ≡ true → a ≡ true) → a ≡ b
both_ways true b p q = sym (p refl)
both_ways false true p q = q refl
both_ways false false p q = refl

pub eqb_sym : (a b : ℕ) → eqb a b ≡ eqb b a
eqb_sym a b = both_ways (eqb a b) (eqb b a) (λ e. eq-eqb b a (sym (eqb-true a b e))) (λ e. eq-eqb a b (sym (eqb-true b a e)))

pub lower_differ : (xs ys : List ℕ) → lower xs ys ≡ true → same xs ys ≡ false
lower_differ xs ys h = at (same xs ys) refl
  where
    at : (b : Bool) → same xs ys ≡ b → b ≡ false
    at true e = absurd (not_both h (rw (same_eq xs ys e) (lower_irrefl ys)))
    at false e = refl

pub same_sym : (xs ys : List ℕ) → same xs ys ≡ false → same ys xs ≡ false
same_sym xs ys h = at (same ys xs) refl
  where
    at : (b : Bool) → same ys xs ≡ b → b ≡ false
    at true e = absurd (not_both (eq_same xs ys (sym (same_eq ys xs e))) h)
    at false e = refl

module _ {A : Type 0} (p : A → Bool) where
  pub all_get_d : (xs : List A) (j : ℕ) (d : A) → all p xs ≡ true → j < length xs → p (get_or xs j d) ≡ true
  unfolding all
  all_get_d [] j d h k = absurd (omega arith)
  all_get_d (x ∷ xs) zero d h k = (and_true (p x) (all p xs) h).0
  all_get_d (x ∷ xs) (suc j) d h k = all_get_d xs j d (and_true (p x) (all p xs) h).1 (omega arith)

  pub all_map : {B : Type 0} (f : B → A) (xs : List B) → all p (map f xs) ≡ all (λ x. p (f x)) xs
  unfolding all
  all_map f [] = refl
  all_map f (x ∷ xs) = rw (all_map f xs) refl

module _ {A : Type 0} where
  pub all_without : (p : A → Bool) (j : ℕ) (xs : List A) → all p xs ≡ true → all p (take j xs ++ drop (suc j) xs) ≡ true
  unfolding all
  all_without p zero [] h = h
  all_without p zero (x ∷ xs) h = (and_true (p x) (all p xs) h).1
  all_without p (suc j) [] h = h
  all_without p (suc j) (x ∷ xs) h =
      let a = and_true (p x) (all p xs) h in
      and_both a.0 (all_without p j xs a.1)

  pub length_without : (j : ℕ) (xs : List A) → j < length xs → suc (length (take j xs ++ drop (suc j) xs)) ≡ length xs
  length_without zero [] h = absurd (omega arith)
  length_without zero (x ∷ xs) h = refl
  length_without (suc j) [] h = absurd (omega arith)
  length_without (suc j) (x ∷ xs) h = ap suc (length_without j xs (omega arith))

-- ---- A part in the middle

module _ {A : Type 0} where
  pub slice_at : (xs ys zs : List A) (n m : ℕ) → length xs ≡ n → n + length ys ≡ m → slice n m (xs ++ (ys ++ zs)) ≡ ys
  slice_at xs ys zs n m h k =
      rw (← k, ← h, take-append-add xs (ys ++ zs) (length ys), take-append_seam ys zs) (drop-append_seam xs ys)

-- ---- A run of elements that pass a test, as a loop goes through it

module _ {A : Type 0} (p : A → Bool) where
  pub length_take_while_le : (xs : List A) → length (take_while p xs) ≤ length xs
  unfolding take_while
  length_take_while_le [] = omega arith
  length_take_while_le (x ∷ xs) = at (p x) (length_take_while_le xs)
    where
      at : (b : Bool) → length (take_while p xs) ≤ length xs → length (if b then x ∷ take_while p xs else []) ≤ suc (length xs)
      at true ih = omega arith
      at false ih = omega arith

  pub take_run : (xs : List A) → take (length (take_while p xs)) xs ≡ take_while p xs
  unfolding take_while
  take_run [] = refl
  take_run (x ∷ xs) = at (p x) (take_run xs)
    where
      at : (b : Bool) → take (length (take_while p xs)) xs ≡ take_while p xs
          → take (length (if b then x ∷ take_while p xs else [])) (x ∷ xs) ≡ (if b then x ∷ take_while p xs else [])
      at true ih = ap (λ (l : List A). x ∷ l) ih
      at false ih = refl

  pub drop_run : (xs : List A) → drop (length (take_while p xs)) xs ≡ drop_while p xs
  unfolding take_while drop_while
  drop_run [] = refl
  drop_run (x ∷ xs) = at (p x) (drop_run xs)
    where
      at : (b : Bool) → drop (length (take_while p xs)) xs ≡ drop_while p xs
          → drop (length (if b then x ∷ take_while p xs else [])) (x ∷ xs) ≡ (if b then drop_while p xs else x ∷ xs)
      at true ih = ih
      at false ih = refl

  module _ (xs : List A) (i : ℕ) (d : A) (h : i < length xs) where
    pub run_more : p (get_or xs i d) ≡ true → length (take_while p (drop i xs)) ≡ 1 + length (take_while p (drop (i + 1) xs))
    unfolding take_while
    run_more e = rw (add-one, drop-cons xs i d h, e, one-add) refl

    pub run_stop : p (get_or xs i d) ≡ false → length (take_while p (drop i xs)) ≡ 0
    unfolding take_while
    run_stop e = rw (drop-cons xs i d h, e) refl

  pub run_end : (xs : List A) (i : ℕ) → length xs ≤ i → length (take_while p (drop i xs)) ≡ 0
  unfolding take_while
  run_end xs i h = rw (drop_of_length-le xs h) refl

-- ---- A list from a place on

module _ {A : Type 0} where
  -- a part from n on, as the borrow checker gives it
  pub part_rest : (xs : List A) (n : ℕ) → take (length xs - n) (drop n xs) ≡ drop n xs
  part_rest xs n = take_all (length xs - n) (drop n xs) (simp length-drop (omega arith))

  pub length_part_rest : (xs : List A) (n : ℕ) → length (take (length xs - n) (drop n xs)) ≡ length xs - n
  length_part_rest xs n = ap length (part_rest xs n) ∙ length-drop n xs

-- what is left of a text: u is t from some place on
pub record Suffix {A : Type 0} (u t : List A) : Type 0 where
  pub most : length u ≤ length t
  pub same : drop (length t - length u) t ≡ u

module _ {A : Type 0} where
  pub suffix_whole : (t : List A) → Suffix t t
  suffix_whole t = record { most = omega arith; same = let e : length t - length t ≡ 0 = omega arith in rw e refl }

  module _ {u t : List A} (s : Suffix u t) where
    pub suffix_drop : (n : ℕ) → n ≤ length u → Suffix (drop n u) t
    suffix_drop n h =
        let e : length t - (length u - n) ≡ length t - length u + n = omega (arith, s.most) in
        record {
          most = omega (arith, length-drop n u, s.most);
          same = rw (length-drop n u, e, ← drop-drop n (length t - length u) t, s.same) refl;
        }

    pub suffix_part : (n : ℕ) → n ≤ length u → Suffix (take (length u - n) (drop n u)) t
    suffix_part n h = rw (part_rest u n) (suffix_drop n h)

    pub suffix_run : (p : A → Bool) → Suffix (drop_while p u) t
    suffix_run p = rw (← drop_run p u) (suffix_drop (length (take_while p u)) (length_take_while_le p u))

-- ---- Parts of a slice, and lists stored into a list

module _ {A : Type 0} where
  -- one element stored
  pub paste_one : (d : List A) (at : ℕ) (x : A) → at < length d → set d at x ≡ paste d at (x ∷ []) 1
  paste_one d at x h = sets-eq (x ∷ []) d at (omega arith)

  -- two lists stored one after the other
  pub paste_append : (d : List A) (at : ℕ) (xs ys : List A) → at + length xs ≤ length d
      → paste d at (xs ++ ys) (length (xs ++ ys)) ≡ paste (paste d at xs (length xs)) (at + length xs) ys (length ys)
  paste_append d at xs ys h =
      let n = at + length xs in
      let e : at + (length xs + length ys) ≡ n + length ys = omega arith in
      let f : at ≤ length d = omega arith in
      let g : take n (paste d at xs (length xs)) ≡ take at d ++ xs =
      take-paste d at xs (length xs) f (le_refl (length xs)) ∙ ap (λ (l : List A). take at d ++ l) (take-length xs) in
      let k : drop (n + length ys) (paste d at xs (length xs)) ≡ drop (n + length ys) d =
      sym (drop-drop (length ys) n (paste d at xs (length xs)))
      ∙ ap (drop (length ys)) (drop-paste d at xs (length xs) f (le_refl (length xs)))
      ∙ drop-drop (length ys) n d in
      rw (take-length (xs ++ ys), length-append xs ys, e, g, k, take-length ys, append_assoc (take at d) xs ys) refl

-- an element, and others after it
pub paste_cons : {A : Type 0} (d : List A) (at : ℕ) (x : A) (xs ys : List A) → at + (1 + length xs + length ys) ≤ length d
    → paste (paste (set d at x) (at + 1) xs (length xs)) (at + (1 + length xs)) ys (length ys)
    ≡ paste d at (x ∷ xs ++ ys) (length (x ∷ xs ++ ys))
paste_cons {A} d at x xs ys h =
    let e : at + (1 + length xs) ≡ at + 1 + length xs = omega arith in
    let k : at + 1 + length xs ≤ length (set d at x) = rw (length-set d at x) (omega arith) in
    rw e (sym (paste_append (set d at x) (at + 1) xs ys k))
    ∙ ap (λ (l : List A). paste l (at + 1) (xs ++ ys) (length (xs ++ ys))) (paste_one d at x (omega arith))
    ∙ sym (paste_append d at (x ∷ []) (xs ++ ys) (omega arith))

-- ---- Two lists compared from a place on

module _ (xs ys : List ℕ) (i : ℕ) (hx : i < length xs) (hy : i < length ys) where
  pub same_from_equal : get_or xs i 0 ≡ get_or ys i 0 → same (drop i xs) (drop i ys) ≡ same (drop (i + 1) xs) (drop (i + 1) ys)
  unfolding same
  same_from_equal e = rw (add-one, drop-cons xs i 0 hx, drop-cons ys i 0 hy, eq-eqb (get_or xs i 0) (get_or ys i 0) e) refl

  pub same_from_other : (get_or xs i 0 ≡ get_or ys i 0 → ⊥) → same (drop i xs) (drop i ys) ≡ false
  unfolding same
  same_from_other e = rw (drop-cons xs i 0 hx, drop-cons ys i 0 hy, ne_eqb (get_or xs i 0) (get_or ys i 0) e) refl

  pub lower_from_below : get_or xs i 0 < get_or ys i 0 → lower (drop i xs) (drop i ys) ≡ true
  lower_from_below e = rw (drop-cons xs i 0 hx, drop-cons ys i 0 hy) (lower_below (get_or xs i 0) (get_or ys i 0) (drop (suc i) xs) (drop (suc i) ys) e)

  pub lower_from_above : get_or ys i 0 < get_or xs i 0 → lower (drop i xs) (drop i ys) ≡ false
  lower_from_above e = rw (drop-cons xs i 0 hx, drop-cons ys i 0 hy) (lower_above (get_or xs i 0) (get_or ys i 0) (drop (suc i) xs) (drop (suc i) ys) e)

  pub lower_from_equal : get_or xs i 0 ≡ get_or ys i 0 → lower (drop i xs) (drop i ys) ≡ lower (drop (i + 1) xs) (drop (i + 1) ys)
  lower_from_equal e = rw (add-one, drop-cons xs i 0 hx, drop-cons ys i 0 hy) (lower_equal (get_or xs i 0) (get_or ys i 0) (drop (suc i) xs) (drop (suc i) ys) e)

pub same_from_end : (xs ys : List ℕ) (i : ℕ) → length xs ≤ i → length ys ≤ i → same (drop i xs) (drop i ys) ≡ true
unfolding same
same_from_end xs ys i hx hy = rw (drop_of_length-le xs hx, drop_of_length-le ys hy) refl

-- where the second ends first
pub lower_from_short : (xs ys : List ℕ) (i : ℕ) → i < length xs → length ys ≤ i → lower (drop i xs) (drop i ys) ≡ false
unfolding lower
lower_from_short xs ys i hx hy = rw (drop-cons xs i 0 hx, drop_of_length-le ys hy) refl

-- where the first ends
pub lower_from_end : (xs ys : List ℕ) (i : ℕ) → length xs ≤ i → lower (drop i xs) (drop i ys) ≡ ltb i (length ys)
unfolding lower
lower_from_end xs ys i hx = at (dec_lt i (length ys))
  where
    at : Dec (i < length ys) → lower (drop i xs) (drop i ys) ≡ ltb i (length ys)
    at (yes h) = rw (drop_of_length-le xs hx, drop-cons ys i 0 h, lt-ltb i (length ys) h) refl
    at (no h) = let k : length ys ≤ i = omega arith in rw (drop_of_length-le xs hx, drop_of_length-le ys k, le-ltb i (length ys) k) refl

-- lists of different lengths differ
pub same_lengths : (xs ys : List ℕ) → (length xs ≡ length ys → ⊥) → same xs ys ≡ false
same_lengths xs ys h = at (same xs ys) refl
  where
    at : (b : Bool) → same xs ys ≡ b → b ≡ false
    at true e = absurd (h (ap length (same_eq xs ys e)))
    at false e = refl

-- what passes at every place passes as a whole
pub get_d_all : {A : Type 0} (p : A → Bool) (xs : List A) (d : A) → ((i : ℕ) → i < length xs → p (get_or xs i d) ≡ true) → all p xs ≡ true
unfolding all
get_d_all p [] d f = refl
get_d_all p (x ∷ xs) d f = and_both (f 0 (omega arith)) (get_d_all p xs d (λ i h. f (suc i) (omega arith)))

pub any_get_d : {A : Type 0} (p : A → Bool) (xs : List A) (i : ℕ) (d : A) → i < length xs → p (get_or xs i d) ≡ true → any p xs ≡ true
unfolding any
any_get_d p [] i d h e = absurd (omega arith)
any_get_d p (x ∷ xs) zero d h e = rw e refl
any_get_d p (x ∷ xs) (suc i) d h e = rw (any_get_d p xs i d (omega arith) e) (or-true (p x))

pub same_append : (xs ys us vs : List ℕ) → length xs ≡ length ys → same (xs ++ us) (ys ++ vs) ≡ (same xs ys && same us vs)
unfolding same
same_append [] [] us vs h = refl
same_append [] (y ∷ ys) us vs h = absurd (omega arith)
same_append (x ∷ xs) [] us vs h = absurd (omega arith)
same_append (x ∷ xs) (y ∷ ys) us vs h = rw (same_append xs ys us vs (omega arith)) (sym (and_assoc (eqb x y) (same xs ys) (same us vs)))

-- ---- A number in a range

module _ (a b c : ℕ) where
  pub in_range : a ≤ c → c ≤ b → within a b c ≡ true
  in_range h k = rw (le-leb a c h, le-leb c b k) refl

  pub below_range : c < a → within a b c ≡ false
  below_range h = rw (lt-leb a c h) refl

  pub above_range : b < c → within a b c ≡ false
  above_range h = rw (lt-leb c b h) (at (leb a c))
    where
      at : (x : Bool) → (x && false) ≡ false
      at true = refl
      at false = refl

  pub range_bounds : within a b c ≡ true → (a ≤ c) × (c ≤ b)
  range_bounds e = let k = and_true (leb a c) (leb c b) e in (leb-true a c k.0, leb-true c b k.1)

-- ---- A part from one place up to another

-- as the borrow checker gives it
pub part_slice : {A : Type 0} (xs : List A) (n m : ℕ) → take (m - n) (drop n xs) ≡ slice n m xs
part_slice xs zero m = let e : m - 0 ≡ m = omega arith in rw e refl
part_slice xs (suc n) zero = let e : 0 - suc n ≡ 0 = omega arith in rw e refl
part_slice [] (suc n) (suc m) = take-nil (suc m - suc n)
part_slice (x ∷ xs) (suc n) (suc m) = let e : suc m - suc n ≡ m - n = omega arith in rw e (part_slice xs n m)

-- two such parts, joined
pub slice_join : {A : Type 0} (xs : List A) (a b c : ℕ) → a ≤ b → b ≤ c → slice a b xs ++ slice b c xs ≡ slice a c xs
slice_join [] a b c h k = rw (take-nil b, take-nil c, drop-nil a, drop-nil b) refl
slice_join (x ∷ xs) zero zero c h k = refl
slice_join (x ∷ xs) zero (suc b) zero h k = absurd (omega arith)
slice_join (x ∷ xs) zero (suc b) (suc c) h k = ap (λ (l : List _). x ∷ l) (slice_join xs zero b c (omega arith) (omega arith))
slice_join (x ∷ xs) (suc a) zero c h k = absurd (omega arith)
slice_join (x ∷ xs) (suc a) (suc b) zero h k = absurd (omega arith)
slice_join (x ∷ xs) (suc a) (suc b) (suc c) h k = slice_join xs a b c (omega arith) (omega arith)
