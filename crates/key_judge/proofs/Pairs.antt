-- Neighbouring bytes make a key. Assumes nothing.
use Rattle.std.specs.Prelude.{if◌then◌else◌}
use mathlib.Core.Bool.{Bool, true, false, ◌&&◌, ◌||◌, not}
use mathlib.Core.List.{List, [], ◌∷◌}
use mathlib.Core.Logic.{◌⊎◌, inl, inr, ⊎_elim}
use mathlib.Core.Path.{◌≡◌, refl, sym, ap, ◌∙◌}
use Prim.Native.Nat.{ℕ, zero, suc, ◌+◌, ◌-◌, ◌≤◌, ◌<◌}
use native.Mathlib.Omega.{arith}
use mir.Val.{bool_byte}
use lib.Dec.{eqb, ltb}
use lib.ListN.{length, get_or, drop, drop_of_length-le}
use borrow.Author.Tests.{eqb-true, eq-eqb, ltb-true, ltb-false}
use Rattle.definition.specs.Lists.{take_while, drop_while}
use Rattle.definition.specs.Limits.{most_parts}
use Rattle.definition.specs.Bytes.{question, is_digit, is_name, is_binding}
use Rattle.definition.specs.Text.{wildcard, name, Part, binding_of, component_at, is_named}
use Rattle.definition.specs.Image.{stored_part_at, is_key}
use Rattle.laws.proofs.Lists.{not_both, and_true}
use Rattle.key_judge.specs.Pairs.{may_follow, bindings_in}
use Rattle.laws.proofs.Keys.{binding_no_name, name_no_binding}
use Rattle.key_judge.proofs.Bytes.{binding_not_wild, wild_no_binding, name_not_wild}
use Rattle.key_judge.proofs.Keys.{ends_key, key_whole, key_ends, key_wild, key_more, stored_part, component_name, component_wild}

-- ---- Pairs

-- `?` or a byte of a name stands after a binding
after_binding : (p c : ℕ) → is_binding p ≡ true → may_follow p c ≡ true → (c ≡ question) ⊎ (is_name c ≡ true)
unfolding may_follow
after_binding p c b e = at (is_binding c) (eqb c question) (is_name c) refl refl (rw (b, binding_not_wild p b) at e)
  where
    at : (x q n : Bool) → eqb c question ≡ q → is_name c ≡ n → (x && false || true && q || n && true) ≡ true → (c ≡ question) ⊎ (is_name c ≡ true)
    at x true n f g h = inl (eqb-true c question f)
    at x false true f g h = inr g
    at true false false f g h = absurd (not_both h refl)
    at false false false f g h = absurd (not_both h refl)

-- a binding stands after `?`
after_wild : (c : ℕ) → may_follow question c ≡ true → is_binding c ≡ true
unfolding may_follow is_binding
after_wild c e = at (is_binding c) (is_name c) refl e
  where
    at : (x n : Bool) → is_binding c ≡ x → (x && true || false || n && false) ≡ true → is_binding c ≡ true
    at true n f h = f
    at false true f h = absurd (not_both h refl)
    at false false f h = absurd (not_both h refl)

-- a byte of a name or a binding stands after a byte of a name
after_name : (p c : ℕ) → is_name p ≡ true → is_name c ≡ false → may_follow p c ≡ true → is_binding c ≡ true
unfolding may_follow
after_name p c n m e = at (is_binding c) (eqb c question) refl (rw (name_no_binding p n, name_not_wild p n, m) at e)
  where
    at : (x q : Bool) → is_binding c ≡ x → (x && true || false && q || false && true) ≡ true → is_binding c ≡ true
    at true q f h = f
    at false q f h = absurd (not_both h refl)

-- no binding stands after a binding
bound_once : (p c : ℕ) → is_binding c ≡ true → may_follow p c ≡ true → is_binding p ≡ false
unfolding may_follow
bound_once p c b e = at (is_binding p) (eqb p question) refl (rw (b, binding_not_wild c b, binding_no_name c b) at e)
  where
    at : (x q : Bool) → is_binding p ≡ x → (true && not x || x && false || false && not q) ≡ true → is_binding p ≡ false
    at true q f h = absurd (not_both h refl)
    at false q f h = f

-- ---- Counting

-- as the library counts a test that holds
pub one_if : (b : Bool) → bool_byte b ≡ (if b then 1 else 0)
one_if true = refl
one_if false = refl

pub bit_most : (b : Bool) → (if b then 1 else 0) ≤ 1
bit_most true = omega arith
bit_most false = omega arith

-- ---- Bytes that stand after one another up to a last one of a name

unfoldable linked : ℕ → List ℕ → Bool
linked p [] = is_name p
linked p (c ∷ t) = may_follow p c && linked c t

linked_all : (p : ℕ) (t : List ℕ)
    → ((j : ℕ) → j + 1 < length (p ∷ t) → may_follow (get_or (p ∷ t) j 0) (get_or (p ∷ t) (j + 1) 0) ≡ true)
    → is_name (get_or (p ∷ t) (length t) 0) ≡ true → linked p t ≡ true
unfolding linked
linked_all p [] h e = e
linked_all p (c ∷ t) h e =
    let f : may_follow p c ≡ true = h 0 (omega arith) in
    let g = linked_all c t (λ j k. let z : suc j + 1 ≡ suc (j + 1) = omega arith in rw z at (h (suc j) (omega arith))) e in
    rw (f, g) refl

-- each binding has a byte of its own after it
thin : (p : ℕ) (t : List ℕ) → linked p t ≡ true → bindings_in t + bindings_in (p ∷ t) ≤ length t
unfolding linked bindings_in
thin p [] e = rw (name_no_binding p e) (omega arith)
thin p (c ∷ t) e = let l = and_true (may_follow p c) (linked c t) e in at l.0 (thin c t l.1) (is_binding c) refl
  where
    at : may_follow p c ≡ true → bindings_in t + bindings_in (c ∷ t) ≤ length t → (b : Bool) → is_binding c ≡ b
        → bindings_in (c ∷ t) + bindings_in (p ∷ c ∷ t) ≤ suc (length t)
    at f ih true b = let h : bindings_in t + (1 + bindings_in t) ≤ length t = rw b at ih in rw (bound_once p c b f, b) (omega arith)
    at f ih false b = let h : bindings_in t + (0 + bindings_in t) ≤ length t = rw b at ih in rw b (omega (arith, bit_most (is_binding p)))

-- ---- A key

-- what follows a run of a name: nothing, or a binding
record Goes (u : List ℕ) (d : ℕ) (v : List ℕ) : Type 0 where
  pub rest : drop_while is_name u ≡ d ∷ v
  pub bound : is_binding d ≡ true
  pub links : linked d v ≡ true
  pub fewer : bindings_in u ≡ suc (bindings_in v)
  pub shorter : length v < length u

abbrev Ran : List ℕ → Type 0
Ran u = (drop_while is_name u ≡ []) ⊎ ((d : ℕ) × (v : List ℕ) × Goes u d v)

ran : (c : ℕ) (u : List ℕ) → is_name c ≡ true → linked c u ≡ true → Ran u
unfolding drop_while linked bindings_in
ran c [] n e = inl refl
ran c (d ∷ v) n e = let l = and_true (may_follow c d) (linked d v) e in at l.0 l.1 (λ m. ran d v m l.1) (is_name d) refl
  where
    at : may_follow c d ≡ true → linked d v ≡ true → (is_name d ≡ true → Ran v) → (b : Bool) → is_name d ≡ b → Ran (d ∷ v)
    at f l ih true m =
        ⊎_elim (λ z. inl (rw m z))
        (λ g. inr (
          g.0,
          g.1,
          record {
            rest = rw m g.2.rest;
            bound = g.2.bound;
            links = g.2.links;
            fewer = rw (name_no_binding d m) (omega (arith, g.2.fewer));
            shorter = omega (arith, g.2.shorter);
          },
        ))
        (ih m)
    at f l ih false m =
        let b = after_name c d n m f in
        inr (d, v, record { rest = rw m refl; bound = b; links = l; fewer = rw b (omega arith); shorter = omega arith })

-- what is linked after a binding ends a key, if it has fewer than k bytes
abbrev Ends : ℕ → Type 0
Ends k = (n p : ℕ) (t : List ℕ) → length t < k → is_binding p ≡ true → linked p t ≡ true → n + bindings_in t < most_parts → ends_key n (p ∷ t) ≡ true

module _ (k : ℕ) (go : Ends k) (n p c : ℕ) (u : List ℕ) (s : suc (length u) < suc k) (b : is_binding p ≡ true) (l : linked c u ≡ true)
    (r : n + ((if is_binding c then 1 else 0) + bindings_in u) < most_parts) where
  part : stored_part_at (p ∷ c ∷ u) ≡ component_at (binding_of (p ∷ [])) (c ∷ u)
  part = stored_part (p ∷ c ∷ u) b (omega arith)

  wild_turn : c ≡ question → (v : List ℕ) → u ≡ v → linked question v ≡ true → ends_key n (p ∷ c ∷ u) ≡ true
  unfolding linked bindings_in is_named
  wild_turn q [] z f = absurd (not_both f (unfold is_name is_digit in refl))
  wild_turn q (d ∷ v) z f =
      let m = and_true (may_follow question d) (linked d v) f in
      let w = after_wild d m.0 in
      let h : n + (0 + (1 + bindings_in v)) < most_parts = rw (q, wild_no_binding, z, w) at r in
      let y : length u ≡ suc (length v) = ap length z in
      key_wild n (p ∷ c ∷ u) (record { binding = binding_of (p ∷ []); component = wildcard }) u (part ∙ component_wild (binding_of (p ∷ [])) (c ∷ u) (omega arith) q) refl
      ∙ rw z (go (n + 1) d v (omega arith) w m.1 (omega arith))

  name_turn : is_name c ≡ true → ends_key n (p ∷ c ∷ u) ≡ true
  unfolding take_while drop_while is_named
  name_turn m =
      let h : n + (0 + bindings_in u) < most_parts = rw (name_no_binding c m) at r in
      let long : 0 < length (take_while is_name (c ∷ u)) = rw m (omega arith) in
      let f = part ∙ component_name (binding_of (p ∷ [])) (c ∷ u) long in
      let o : drop_while is_name (c ∷ u) ≡ drop_while is_name u = rw m refl in
      let q : Part = record { binding = binding_of (p ∷ []); component = name (take_while is_name (c ∷ u)) } in
      ⊎_elim (λ z. key_ends n (p ∷ c ∷ u) q (drop_while is_name (c ∷ u)) f refl (o ∙ z) (omega arith))
      (λ (x : (d : ℕ) × (v : List ℕ) × Goes u d v).
      let y = o ∙ x.2.rest in
      let y' : length (drop_while is_name (c ∷ u)) ≡ suc (length x.1) = ap length y in
      key_more n (p ∷ c ∷ u) q (drop_while is_name (c ∷ u)) f (omega arith)
      ∙ rw y (go (n + 1) x.0 x.1 (omega (arith, x.2.shorter)) x.2.bound x.2.links (omega (arith, x.2.fewer))))
      (ran c u m l)

sound : (k : ℕ) → Ends k
unfolding linked bindings_in
sound zero n p t s b e r = absurd (omega arith)
sound (suc k) n p [] s b e r = absurd (not_both e (binding_no_name p b))
sound (suc k) n p (c ∷ u) s b e r =
    let l = and_true (may_follow p c) (linked c u) e in
    ⊎_elim (λ q. wild_turn k (sound k) n p c u s b l.1 r q u refl (rw q at l.1)) (name_turn k (sound k) n p c u s b l.1 r) (after_binding p c b l.0)

-- ---- The whole

pub key_linked : (t : List ℕ) → 0 < length t → is_binding (get_or t 0 0) ≡ true → is_name (get_or t (length t - 1) 0) ≡ true
    → ((j : ℕ) → j + 1 < length t → may_follow (get_or t j 0) (get_or t (j + 1) 0) ≡ true)
    → (length t ≤ 33) ⊎ (bindings_in t ≤ most_parts) → is_key t ≡ true
unfolding bindings_in
key_linked [] h b e l k = absurd (omega arith)
key_linked (p ∷ u) h b e l k =
    let z : suc (length u) - 1 ≡ length u = omega arith in
    let d = linked_all p u l (rw z at e) in
    let most : bindings_in u + (1 + bindings_in u) ≤ length u = rw b at (thin p u d) in
    let few : 0 + bindings_in u < most_parts = ⊎_elim (λ s. omega (arith, s, most)) (λ s. let c : 1 + bindings_in u ≤ most_parts = rw b at s in omega arith) k in
    key_whole (p ∷ u) ∙ sound (suc (length u)) 0 p u (omega arith) b d few

-- ---- The loops

-- one more
pub and_next : (P : ℕ → Bool) (all one : Bool) (i : ℕ) → (all ≡ true → (j : ℕ) → j < i → P j ≡ true) → one ≡ P i
    → (all && one) ≡ true → (j : ℕ) → j < i + 1 → P j ≡ true
and_next P all one i h e f j k = at (eqb j i) refl
  where
    at : (b : Bool) → eqb j i ≡ b → P j ≡ true
    at true q = ap P (eqb-true j i q) ∙ sym e ∙ (and_true all one f).1
    at false q = let d : j ≡ i → ⊥ = λ x. not_both (eq-eqb j i x) q in h (and_true all one f).0 j (omega (arith, d))

-- n more from b on, where those before b are among the first a
pub run_next : (P : ℕ → Bool) (a b n : ℕ) → b ≤ a → ((j : ℕ) → j < a → P j ≡ true) → ((j : ℕ) → j < n → P (b + j) ≡ true)
    → (j : ℕ) → j < b + n → P j ≡ true
run_next P a b n s h g j k = at (ltb j b) refl
  where
    at : (x : Bool) → ltb j b ≡ x → P j ≡ true
    at true q = h j (omega (arith, ltb-true j b q))
    at false q =
        let o : b ≤ j = ltb-false j b q in
        let z : b + (j - b) ≡ j = omega arith in
        rw z at (g (j - b) (omega arith))

pub bindings_more : (xs : List ℕ) (i : ℕ) → i < length xs → bindings_in (drop i xs) ≡ (if is_binding (get_or xs i 0) then 1 else 0) + bindings_in (drop (i + 1) xs)
unfolding bindings_in
bindings_more [] i h = absurd (omega arith)
bindings_more (x ∷ xs) zero h = refl
bindings_more (x ∷ xs) (suc i) h = let z : suc i + 1 ≡ suc (i + 1) = omega arith in rw z (bindings_more xs i (omega arith))

pub bindings_end : (xs : List ℕ) (i : ℕ) → length xs ≤ i → bindings_in (drop i xs) ≡ 0
unfolding bindings_in
bindings_end xs i h = rw (drop_of_length-le xs h) refl
