-- Two lists without a key in common may stand in either order; and of the same entries in whatever order one key decides a query. Assumes
-- nothing.
use Rattle.std.specs.Prelude.{if◌then◌else◌}
use mathlib.Core.Bool.{Bool, true, false}
use mathlib.Core.List.{List, [], ◌∷◌, ◌++◌, map, append-nil}
use mathlib.Core.Logic.{◌⊎◌, inl, inr}
use mathlib.Core.Option.{some, some-ne-none}
use mathlib.Core.Path.{◌≡◌, refl, sym, ap, ◌∙◌}
use Prim.Native.Nat.{ℕ, zero, suc, ◌<◌}
use native.Mathlib.Omega.{arith}
use lib.ListN.{length, get_or}
use Rattle.definition.specs.Lists.{filter}
use Rattle.definition.specs.Text.{Part, Entry}
use Rattle.definition.specs.Query.{Position, Query, positions, malformed, past_limit}
use Rattle.definition.specs.Matching.{Aligned, Beats}
use Rattle.definition.specs.Ranking.{Best, no_entry, best, best_of}
use Rattle.definition.specs.Lookup.{keys_of, answer_of}
use Rattle.definition.specs.Orders.{blank, values_under, numbers_with, pair, pairs_from, EitherFirst, last_of, Decides, OneKeyDecides}
use Rattle.laws.proofs.Lists.{not_both, filter_append, lower_irrefl, not_lower_equal}
use Rattle.laws.proofs.Ranking.{best_beats, best_none}
use Rattle.laws.proofs.Striking.{answer_beats, answer_none}
use Rattle.orders.proofs.Rows.{equal_rows}
use Rattle.orders.proofs.Answers.{keys_long, key_number, none_above}
use Rattle.orders.proofs.Agreeing.{key_eq, key_refl, has_key, under, filter_none, under_reordered}
use Rattle.orders.proofs.Joined.{Each}

no_cons : {A : Type 0} {x : A} {xs : List A} → x ∷ xs ≡ [] → ⊥
no_cons e = let z : ◌≡◌ {A = ℕ} 0 1 = cc in omega arith

both_empty : {A : Type 0} (xs ys : List A) → xs ++ ys ≡ [] → (xs ≡ []) × (ys ≡ [])
both_empty [] ys e = (refl, e)
both_empty (x ∷ xs) ys e = absurd (no_cons e)

map_empty : {A B : Type 0} (f : A → B) (xs : List A) → map f xs ≡ [] → xs ≡ []
map_empty f [] e = refl
map_empty f (x ∷ xs) e = absurd (no_cons e)

numbers_none : (j : ℕ) (key : List Part) (ys : List Entry) → numbers_with j key ys ≡ [] → under key ys ≡ []
unfolding numbers_with filter
numbers_none j key [] e = refl
numbers_none j key (y ∷ ys) e = at (has_key key y) e (numbers_none (suc j) key ys)
  where
    at : (b : Bool) → (if b then j ∷ numbers_with (suc j) key ys else numbers_with (suc j) key ys) ≡ []
        → (numbers_with (suc j) key ys ≡ [] → under key ys ≡ []) → (if b then y ∷ under key ys else under key ys) ≡ []
    at true f ih = absurd (no_cons f)
    at false f ih = ih f

-- no entry of xs has its key in ys
pairs_none : (i : ℕ) (xs ys : List Entry) → pairs_from i xs ys ≡ [] → Each (λ x. under x.parts ys ≡ []) xs
unfolding pairs_from Each
pairs_none i [] ys e = tt
pairs_none i (x ∷ xs) ys e =
    let b = both_empty (map (pair i) (numbers_with 0 x.parts ys)) (pairs_from (suc i) xs ys) e in
    (numbers_none 0 x.parts ys (map_empty (pair i) (numbers_with 0 x.parts ys) b.0), pairs_none (suc i) xs ys b.1)

-- so under a key that xs has, ys has nothing
under_none : (key : List Part) (xs ys : List Entry) (e : Entry) (es : List Entry) → Each (λ x. under x.parts ys ≡ []) xs
    → under key xs ≡ e ∷ es → under key ys ≡ []
unfolding filter Each
under_none key [] ys e es h u = absurd (no_cons (sym u))
under_none key (x ∷ xs) ys e es h u = at (has_key key x) refl u (under_none key xs ys e es h.1)
  where
    at : (b : Bool) → has_key key x ≡ b → (if b then x ∷ under key xs else under key xs) ≡ e ∷ es
        → (under key xs ≡ e ∷ es → under key ys ≡ []) → under key ys ≡ []
    at true k f ih = rw (key_eq key x.parts k) h.0
    at false k f ih = ih f

pub either_first : EitherFirst
either_first xs ys none =
    under_reordered (xs ++ ys) (ys ++ xs) (λ key.
    filter_append (has_key key) xs ys ∙ at key (under key xs) refl ∙ sym (filter_append (has_key key) ys xs))
  where
    apart : Each (λ x. under x.parts ys ≡ []) xs
    apart = pairs_none 0 xs ys none

    at : (key : List Part) (us : List Entry) → under key xs ≡ us → under key xs ++ under key ys ≡ under key ys ++ under key xs
    at key [] u = rw u (sym (append-nil (under key ys)))
    at key (e ∷ es) u = rw (under_none key xs ys e es apart u) (append-nil (under key xs))

-- ---- The last value under the key that wins

last_cons : (v : List ℕ) (vs : List (List ℕ)) (w : List ℕ) → last_of vs ≡ some w → last_of (v ∷ vs) ≡ some w
unfolding last_of
last_cons v [] w e = absurd (some-ne-none w (sym e))
last_cons v (u ∷ vs) w e = e

abbrev value_of : Entry → List ℕ
value_of e = e.value

last_under : (key : List Part) (es : List Entry) (i : ℕ) → i < length es → has_key key (get_or es i blank) ≡ true
    → ((j : ℕ) → i < j → j < length es → has_key key (get_or es j blank) ≡ false)
    → last_of (values_under key es) ≡ some (get_or es i blank).value
unfolding values_under filter last_of
last_under key [] i h e f = absurd (omega arith)
last_under key (x ∷ xs) zero h e f =
    rw (e, filter_none (has_key key) xs blank (λ j z. f (suc j) (omega arith) (omega arith))) refl
last_under key (x ∷ xs) (suc i) h e f =
    at (has_key key x) (last_under key xs i (omega arith) e (λ j z k. f (suc j) (omega arith) (omega arith)))
  where
    v : List ℕ
    v = (get_or xs i blank).value

    at : (b : Bool) → last_of (map value_of (under key xs)) ≡ some v
        → last_of (map value_of (if b then x ∷ under key xs else under key xs)) ≡ some v
    at true ih = last_cons x.value (map value_of (under key xs)) v ih
    at false ih = ih

-- an answer is the last value under the key of the entry that beats the rest
answer_last : (es : List Entry) (qs : List Position) (i : ℕ) → Beats (keys_of es) qs i
    → answer_of es (positions qs) ≡ last_of (values_under (get_or (keys_of es) i []) es)
answer_last es qs i b = answer_beats es qs i b ∙ sym (last_under key es i inside (rw (key_number es i) (key_refl _)) later)
  where
    key : List Part
    key = get_or (keys_of es) i []

    inside : i < length es
    inside = rw (keys_long es) at b.inside

    later : (j : ℕ) → i < j → j < length es → has_key key (get_or es j blank) ≡ false
    later j z h = at (has_key key (get_or es j blank)) refl
      where
        at : (c : Bool) → has_key key (get_or es j blank) ≡ c → c ≡ false
        at true e =
            let same : get_or (keys_of es) j [] ≡ key = key_number es j ∙ sym (key_eq key _ e) in
            absurd (not_both (b.after j b.row z (rw (keys_long es) h) (rw same b.ranks)) (lower_irrefl b.row))
        at false e = refl

-- ---- Lists of the same entries, in whatever order: who beats the rest in the one has the key of who does in the other

-- where an entry stands
pub record Stands (x : Entry) (es : List Entry) : Type 0 where
  pub number : ℕ
  pub inside : number < length es
  pub is : get_or es number blank ≡ x

-- each entry of es stands in fs
abbrev pub StandIn : List Entry → List Entry → Type 0
StandIn es fs = (i : ℕ) → i < length es → Stands (get_or es i blank) fs

key_stands : (es fs : List Entry) (i : ℕ) (s : Stands (get_or es i blank) fs) → get_or (keys_of fs) s.number [] ≡ get_or (keys_of es) i []
key_stands es fs i s = key_number fs s.number ∙ ap (λ (e : Entry). e.parts) s.is ∙ sym (key_number es i)

module _ (es fs : List Entry) (there : StandIn es fs) (back : StandIn fs es) (qs : List Position) where
  keys_equal : (i j : ℕ) → Beats (keys_of es) qs i → Beats (keys_of fs) qs j → get_or (keys_of es) i [] ≡ get_or (keys_of fs) j []
  keys_equal i j a b =
      let s = back j (rw (keys_long fs) at b.inside) in
      let t = there i (rw (keys_long es) at a.inside) in
      let up = none_above es qs i a s.number b.row s.inside (rw (key_stands fs es j s) b.ranks) in
      let down = none_above fs qs j b t.number a.row t.inside (rw (key_stands es fs i t) a.ranks) in
      let rows : a.row ≡ b.row = not_lower_equal a.row b.row up down in
      equal_rows qs b.row _ _ (rw rows at a.ranks.aligned) b.ranks.aligned

none_there : (es fs : List Entry) → StandIn fs es → (qs : List Position)
    → ((j : ℕ) (row : List ℕ) → j < length (keys_of es) → Aligned (get_or (keys_of es) j []) qs row → ⊥)
    → (j : ℕ) (row : List ℕ) → j < length (keys_of fs) → Aligned (get_or (keys_of fs) j []) qs row → ⊥
none_there es fs back qs f j row h a =
    let s = back j (rw (keys_long fs) at h) in
    f s.number row (rw (keys_long es) s.inside) (rw (key_stands fs es j s) a)

-- ---- The claim

module _ (es fs : List Entry) (there : StandIn es fs) (back : StandIn fs es) where
  abbrev Either : Query → Type 0
  Either q = (answer_of es q ≡ answer_of fs q) ⊎ ((key : List Part) × Decides key es fs q)

  either : (qs : List Position) → Either (positions qs)
  either qs = at (best_of (keys_of es) qs) refl (best_of (keys_of fs) qs) refl
    where
      at : (b : Best) → best_of (keys_of es) qs ≡ b → (c : Best) → best_of (keys_of fs) qs ≡ c → Either (positions qs)
      at no_entry e c f =
          let none = best_none (keys_of es) qs e in
          inl (answer_none es qs none ∙ sym (answer_none fs qs (none_there es fs back qs none)))
      at (best i r) e no_entry f =
          let w = best_beats (keys_of es) qs i r e in
          absurd (none_there fs es there qs (best_none (keys_of fs) qs f) i w.row w.inside w.ranks.aligned)
      at (best i r) e (best j s) f =
          let w = best_beats (keys_of es) qs i r e in
          let v = best_beats (keys_of fs) qs j s f in
          let same = keys_equal es fs there back qs i j w v in
          inr (
            get_or (keys_of es) i [],
            record {
              first_wins = record { winner = i; beats = w; has_it = refl };
              second_wins = record { winner = j; beats = v; has_it = sym same };
              first = answer_last es qs i w;
              second = rw same (answer_last fs qs j v);
            },
          )

  pub decided : (q : Query) → Either q
  unfolding answer_of
  decided (positions qs) = either qs
  decided malformed = inl refl
  decided (past_limit k) = inl refl

pub one_key_decides : OneKeyDecides
one_key_decides xs ys r q =
    decided xs ys
    (λ i h. record { number = r.place i; inside = r.inside i h; is = r.element i h })
    (λ j h.
    record {
      number = r.back j;
      inside = r.inside_back j h;
      is = sym (r.element (r.back j) (r.inside_back j h)) ∙ ap (λ (n : ℕ). get_or ys n blank) (r.undone_back j h);
    })
    q
