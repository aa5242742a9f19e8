-- Two lists are reordered just where they have, for every key, the same values under it in the same order. Assumes nothing.
use Rattle.std.specs.Prelude.{if◌then◌else◌}
use mathlib.Core.Bool.{Bool, true, false, ◌&&◌}
use mathlib.Core.List.{List, [], ◌∷◌, ◌++◌, map}
use mathlib.Core.Path.{◌≡◌, refl, sym, ap, ◌∙◌, subst}
use Prim.Native.Nat.{ℕ, suc, ◌<◌}
use native.Mathlib.Omega.{arith}
use native.Mathlib.Decide.{dec_lt}
use lib.ListN.{length, get_or, take, drop}
use lib.Seq.{length-take-le, get_or-take}
use Rattle.definition.specs.Lists.{filter, same}
use Rattle.definition.specs.Text.{Binding, tight, loose, Component, wildcard, name, Part, Entry}
use Rattle.definition.specs.Lookup.{keys_of}
use Rattle.definition.specs.Orders.{blank, Reordered, same_binding, same_component, same_key, values_under, SameUnderEachKey, OrdersAgree}
use Rattle.laws.proofs.Lists.{not_both, and_true, and_both, Order, below, equal, above, order, same_eq, same_refl, filter_append, Places, places}
use Rattle.orders.proofs.Answers.{key_number, key_back}
use Rattle.orders.proofs.Drawing.{others, drawn, drawn_inside, rest, rest_rises, drawn_from}

-- ---- Keys compared

binding_eq : (a b : Binding) → same_binding a b ≡ true → a ≡ b
unfolding same_binding
binding_eq tight tight e = refl
binding_eq tight loose e = absurd (not_both e refl)
binding_eq loose tight e = absurd (not_both e refl)
binding_eq loose loose e = refl

binding_refl : (a : Binding) → same_binding a a ≡ true
unfolding same_binding
binding_refl tight = refl
binding_refl loose = refl

component_eq : (a b : Component) → same_component a b ≡ true → a ≡ b
unfolding same_component
component_eq wildcard wildcard e = refl
component_eq wildcard (name m) e = absurd (not_both e refl)
component_eq (name n) wildcard e = absurd (not_both e refl)
component_eq (name n) (name m) e = ap name (same_eq n m e)

component_refl : (a : Component) → same_component a a ≡ true
unfolding same_component
component_refl wildcard = refl
component_refl (name n) = same_refl n

pub key_eq : (ps qs : List Part) → same_key ps qs ≡ true → ps ≡ qs
unfolding same_key
key_eq [] [] e = refl
key_eq [] (q ∷ qs) e = absurd (not_both e refl)
key_eq (p ∷ ps) [] e = absurd (not_both e refl)
key_eq (p ∷ ps) (q ∷ qs) e =
    let a = and_true (same_binding p.binding q.binding && same_component p.component q.component) (same_key ps qs) e in
    let b = and_true (same_binding p.binding q.binding) (same_component p.component q.component) a.0 in
    let bound = binding_eq p.binding q.binding b.0 in
    let named = component_eq p.component q.component b.1 in
    let more = key_eq ps qs a.1 in
    λ i. record { binding = bound i; component = named i } ∷ more i

pub key_refl : (ps : List Part) → same_key ps ps ≡ true
unfolding same_key
key_refl [] = refl
key_refl (p ∷ ps) = and_both (and_both (binding_refl p.binding) (component_refl p.component)) (key_refl ps)

-- ---- The entries under a key

abbrev pub has_key : List Part → Entry → Bool
has_key key e = same_key key e.parts

abbrev pub under : List Part → List Entry → List Entry
under key es = filter (has_key key) es

-- they are the values under it, each with that key
abbrev with_key : List Part → List ℕ → Entry
with_key key v = record { parts = key; value = v }

under_values : (key : List Part) (es : List Entry) → under key es ≡ map (with_key key) (values_under key es)
unfolding filter values_under
under_values key [] = refl
under_values key (e ∷ es) = at (has_key key e) refl (under_values key es)
  where
    at : (b : Bool) → has_key key e ≡ b → under key es ≡ map (with_key key) (map (λ (x : Entry). x.value) (under key es))
        → (if b then e ∷ under key es else under key es)
        ≡ map (with_key key) (map (λ (x : Entry). x.value) (if b then e ∷ under key es else under key es))
    at true h ih = let k = key_eq key e.parts h in λ i. record { parts = sym k i; value = e.value } ∷ ih i
    at false h ih = ih

pub filter_none : {A : Type 0} (p : A → Bool) (xs : List A) (d : A) → ((i : ℕ) → i < length xs → p (get_or xs i d) ≡ false) → filter p xs ≡ []
unfolding filter
filter_none p [] d f = refl
filter_none p (x ∷ xs) d f = rw (f 0 (omega arith)) (filter_none p xs d (λ i h. f (suc i) (omega arith)))

-- ---- From places to values

module _ (x : Entry) (xs ys : List Entry) (r : Reordered (x ∷ xs) ys) where
  abbrev k : ℕ
  k = drawn blank x xs ys r.rearranged

  -- none of its key stands before it
  first_of_key : (j : ℕ) → j < k → (get_or ys j blank).parts ≡ x.parts → ⊥
  first_of_key j h e =
      let r' = r.rearranged in
      let inside : j < length ys = omega (arith, drawn_inside blank x xs ys r') in
      let there = r'.undone_back j inside in
      let same : x.parts ≡ get_or (keys_of (x ∷ xs)) (r'.back j) [] = sym e ∙ sym (key_number ys j) ∙ key_back (x ∷ xs) ys r' j inside in
      at (order 0 (r'.back j)) there inside same
    where
      at : Order 0 (r.rearranged.back j) → r.rearranged.place (r.rearranged.back j) ≡ j → j < length ys
          → x.parts ≡ get_or (keys_of (x ∷ xs)) (r.rearranged.back j) [] → ⊥
      at (below z) there inside same = omega (arith, r.in_order 0 (r.rearranged.back j) z (r.rearranged.inside_back j inside) same)
      at (equal z) there inside same = omega (arith, ap r.rearranged.place z)
      at (above z) there inside same = omega arith

  rest_ordered : Reordered xs (others k ys)
  rest_ordered = record {
    rearranged = rest blank x xs ys r.rearranged;
    in_order = λ i j h z e.
        rest_rises blank x xs ys r.rearranged i j (omega arith) z (r.in_order (suc i) (suc j) (omega arith) (omega arith) e);
  }

  -- what stands before it has nothing under its key
  none_before : (key : List Part) → has_key key x ≡ true → under key (take k ys) ≡ []
  none_before key h =
      filter_none (has_key key) (take k ys) blank (λ i z. at i z (has_key key (get_or (take k ys) i blank)) refl)
    where
      at : (i : ℕ) → i < length (take k ys) → (b : Bool) → has_key key (get_or (take k ys) i blank) ≡ b → b ≡ false
      at i z true e =
          let inside = drawn_inside blank x xs ys r.rearranged in
          let low : i < k = omega (arith, length-take-le k ys (omega arith)) in
          let same : (get_or ys i blank).parts ≡ x.parts =
          ap (λ (y : Entry). y.parts) (sym (get_or-take k ys i blank low)) ∙ sym (key_eq key _ e) ∙ key_eq key x.parts h in
          absurd (first_of_key i low same)
      at i z false e = refl

  under_one : (key : List Part) → under key xs ≡ under key (others k ys) → under key (x ∷ xs) ≡ under key ys
  unfolding filter
  under_one key ih =
      at (has_key key x) refl
      ∙ sym (filter_append (has_key key) (take k ys) (x ∷ drop (suc k) ys))
      ∙ ap (under key) (sym (drawn_from blank x xs ys r.rearranged))
    where
      split : under key xs ≡ under key (take k ys) ++ under key (drop (suc k) ys)
      split = ih ∙ filter_append (has_key key) (take k ys) (drop (suc k) ys)

      at : (b : Bool) → has_key key x ≡ b
          → (if b then x ∷ under key xs else under key xs)
          ≡ under key (take k ys) ++ (if b then x ∷ under key (drop (suc k) ys) else under key (drop (suc k) ys))
      at true e =
          let none = none_before key e in
          rw none (ap (λ (l : List Entry). x ∷ l) (split ∙ ap (λ (l : List Entry). l ++ under key (drop (suc k) ys)) none))
      at false e = split

under_same : (xs ys : List Entry) → Reordered xs ys → (key : List Part) → under key xs ≡ under key ys
unfolding filter
under_same [] [] r key = refl
under_same [] (y ∷ ys) r key = absurd (omega (arith, r.rearranged.inside_back 0 (omega arith)))
under_same (x ∷ xs) ys r key = under_one x xs ys r key (under_same xs (others (k x xs ys r) ys) (rest_ordered x xs ys r) key)

pub reordered_values : (xs ys : List Entry) → Reordered xs ys → SameUnderEachKey xs ys
unfolding values_under
reordered_values xs ys r key = ap (map (λ (e : Entry). e.value)) (under_same xs ys r key)

-- ---- From values to places

-- lists that have the same under each key: entry i of zs goes where ws has that of its key with the same number
module _ (zs ws : List Entry) (agree : (key : List Part) → under key zs ≡ under key ws) where
  abbrev in_zs : (key : List Part) → Places (has_key key) blank (under key zs) zs
  in_zs key = places (has_key key) blank zs

  abbrev in_ws : (key : List Part) → Places (has_key key) blank (under key ws) ws
  in_ws key = places (has_key key) blank ws

  module _ (key : List Part) (i : ℕ) (h : i < length zs) (e : has_key key (get_or zs i blank) ≡ true) where
    abbrev number : ℕ
    number = ((in_zs key).back i h e).0

    number_place : (in_zs key).place number ≡ i
    number_place = ((in_zs key).back i h e).2

    unfoldable to : ℕ
    to = (in_ws key).place number

    to_inside : to < length ws
    unfolding to
    to_inside = (in_ws key).inside number (rw (agree key) at ((in_zs key).back i h e).1)

    to_element : get_or ws to blank ≡ get_or zs i blank
    unfolding to
    to_element =
        sym ((in_ws key).element number)
        ∙ ap (λ (l : List Entry). get_or l number blank) (sym (agree key))
        ∙ (in_zs key).element number
        ∙ ap (λ (n : ℕ). get_or zs n blank) number_place

  to_rises : (key : List Part) (i j : ℕ) (h : i < length zs) (g : j < length zs) (e : has_key key (get_or zs i blank) ≡ true)
      (f : has_key key (get_or zs j blank) ≡ true) → i < j → to key i h e < to key j g f
  unfolding to
  to_rises key i j h g e f z = at (order (number key i h e) (number key j g f))
    where
      at : Order (number key i h e) (number key j g f) → (in_ws key).place (number key i h e) < (in_ws key).place (number key j g f)
      at (below o) = (in_ws key).rises (number key i h e) (number key j g f) o
      at (equal o) = absurd (omega (arith, ap (in_zs key).place o, number_place key i h e, number_place key j g f))
      at (above o) =
          absurd (omega (arith, (in_zs key).rises (number key j g f) (number key i h e) o, number_place key i h e, number_place key j g f))

  -- of its own key
  abbrev own : ℕ → List Part
  own i = (get_or zs i blank).parts

  unfoldable goes : (i : ℕ) → i < length zs → ℕ
  goes i h = to (own i) i h (key_refl (own i))

  goes_inside : (i : ℕ) (h : i < length zs) → goes i h < length ws
  unfolding goes
  goes_inside i h = to_inside (own i) i h (key_refl (own i))

  goes_element : (i : ℕ) (h : i < length zs) → get_or ws (goes i h) blank ≡ get_or zs i blank
  unfolding goes
  goes_element i h = to_element (own i) i h (key_refl (own i))

  goes_rises : (i j : ℕ) (h : i < length zs) (g : j < length zs) → own i ≡ own j → i < j → goes i h < goes j g
  unfolding goes
  goes_rises i j h g e z =
      subst (λ (key : List Part). (f : has_key key (get_or zs j blank) ≡ true) → goes i h < to key j g f) e
      (λ f. to_rises (own i) i j h g (key_refl (own i)) f z) (key_refl (own j))

  -- at any number
  place_for : (i : ℕ) → Dec (i < length zs) → ℕ
  place_for i (yes h) = goes i h
  place_for i (no h) = 0

  unfoldable placed : ℕ → ℕ
  placed i = place_for i (dec_lt i (length zs))

  record Placed (i : ℕ) : Type 0 where
    inside : i < length zs
    is : placed i ≡ goes i inside

  placed_is : (i : ℕ) → i < length zs → Placed i
  unfolding placed place_for
  placed_is i k = at (dec_lt i (length zs)) refl
    where
      at : (δ : Dec (i < length zs)) → dec_lt i (length zs) ≡ δ → Placed i
      at (yes h) e = record { inside = h; is = ap (place_for i) e }
      at (no h) e = absurd (h k)

  placed_inside : (i : ℕ) → i < length zs → placed i < length ws
  placed_inside i k = let p = placed_is i k in rw p.is (goes_inside i p.inside)

  placed_element : (i : ℕ) → i < length zs → get_or ws (placed i) blank ≡ get_or zs i blank
  placed_element i k = let p = placed_is i k in rw p.is (goes_element i p.inside)

  placed_rises : (i j : ℕ) → i < j → j < length zs → own i ≡ own j → placed i < placed j
  placed_rises i j z k e =
      let p = placed_is i (omega arith) in
      let q = placed_is j k in
      rw (p.is, q.is) (goes_rises i j p.inside q.inside e z)

-- and the way back
module _ (zs ws : List Entry) (agree : (key : List Part) → under key zs ≡ under key ws) (agree' : (key : List Part) → under key ws ≡ under key zs) where
  to_back : (key : List Part) (i : ℕ) (h : i < length zs) (e : has_key key (get_or zs i blank) ≡ true) (j : ℕ) → j ≡ to zs ws agree key i h e
      → (g : j < length ws) (f : has_key key (get_or ws j blank) ≡ true) → to ws zs agree' key j g f ≡ i
  unfolding to
  to_back key i h e j same g f =
      ap (in_zs zs ws agree key).place (at (order n m)) ∙ number_place zs ws agree key i h e
    where
      n : ℕ
      n = number ws zs agree' key j g f

      m : ℕ
      m = number zs ws agree key i h e

      one_place : (in_ws zs ws agree key).place n ≡ (in_ws zs ws agree key).place m
      one_place = number_place ws zs agree' key j g f ∙ same

      at : Order n m → n ≡ m
      at (below o) = absurd (omega (arith, (in_ws zs ws agree key).rises n m o, one_place))
      at (equal o) = o
      at (above o) = absurd (omega (arith, (in_ws zs ws agree key).rises m n o, one_place))

  goes_back : (i : ℕ) (h : i < length zs) (j : ℕ) → j ≡ goes zs ws agree i h → (g : j < length ws) → goes ws zs agree' j g ≡ i
  unfolding goes
  goes_back i h j same g =
      let key = (get_or zs i blank).parts in
      let other = (get_or ws j blank).parts in
      let e : key ≡ other =
      ap (λ (x : Entry). x.parts) (sym (goes_element zs ws agree i h) ∙ ap (λ (n : ℕ). get_or ws n blank) (sym same)) in
      subst (λ (k : List Part). (f : has_key k (get_or ws j blank) ≡ true) → to ws zs agree' k j g f ≡ i) e
      (λ f. to_back key i h (key_refl key) j same g f) (key_refl other)

  placed_back : (i : ℕ) → i < length zs → placed ws zs agree' (placed zs ws agree i) ≡ i
  placed_back i k =
      let p = placed_is zs ws agree i k in
      let q = placed_is ws zs agree' (placed zs ws agree i) (placed_inside zs ws agree i k) in
      q.is ∙ goes_back i p.inside (placed zs ws agree i) p.is q.inside

pub under_reordered : (xs ys : List Entry) → ((key : List Part) → under key xs ≡ under key ys) → Reordered xs ys
under_reordered xs ys agree =
    let agree' : (key : List Part) → under key ys ≡ under key xs = λ key. sym (agree key) in
    record {
      rearranged = record {
        place = placed xs ys agree;
        back = placed ys xs agree';
        inside = placed_inside xs ys agree;
        inside_back = placed_inside ys xs agree';
        undone = placed_back xs ys agree agree';
        undone_back = placed_back ys xs agree' agree;
        element = placed_element xs ys agree;
      };
      in_order = λ i j z h e. placed_rises xs ys agree i j z h (sym (key_number xs i) ∙ e ∙ key_number xs j);
    }

pub values_reordered : (xs ys : List Entry) → SameUnderEachKey xs ys → Reordered xs ys
values_reordered xs ys same =
    under_reordered xs ys (λ key. under_values key xs ∙ ap (map (with_key key)) (same key) ∙ sym (under_values key ys))

pub orders_agree : OrdersAgree
orders_agree xs ys = (reordered_values xs ys, values_reordered xs ys)
