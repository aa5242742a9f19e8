-- Laws of a query's names, as the code takes them off its text. Assumes nothing.
use Rattle.std.specs.Prelude.{if◌then◌else◌}
use mathlib.Core.Bool.{Bool, true, false}
use mathlib.Core.List.{List, [], ◌∷◌, ◌++◌, append_assoc}
use mathlib.Core.Option.{Option, some, none}
use mathlib.Core.Path.{◌≡◌, refl, ap}
use Prim.Native.Nat.{ℕ, ◌≤◌, ◌<◌}
use native.Mathlib.Omega.{arith}
use lib.Dec.{eqb}
use lib.ListN.{length}
use Rattle.definition.specs.Lists.{take_while, drop_while, is_empty}
use Rattle.definition.specs.Parsing.{Parsed, many, at_most}
use Rattle.definition.specs.Bytes.{dot, is_name}
use Rattle.definition.specs.Query.{query_part_at, names_of}
use Rattle.laws.proofs.Parsing.{many_stop, many_more}
use Rattle.laws.proofs.Keys.{query_part_shrinks}

-- ---- Names before others

-- names, and then those of the rest, if that is well formed
unfoldable pub before : List (List ℕ) → Option (List (List ℕ)) → Option (List (List ℕ))
before ns none = none
before ns (some ms) = some (ns ++ ms)

pub before_none_yet : (o : Option (List (List ℕ))) → o ≡ before [] o
unfolding before
before_none_yet none = refl
before_none_yet (some ms) = refl

pub before_one_more : (ns : List (List ℕ)) (n : List ℕ) (o : Option (List (List ℕ))) → before ns (before (n ∷ []) o) ≡ before (ns ++ (n ∷ [])) o
unfolding before
before_one_more ns n none = refl
before_one_more ns n (some ms) = rw append_assoc refl

-- ---- The names of a text

pub names_end : (t : List ℕ) → length t ≤ 0 → names_of t ≡ some []
unfolding names_of many at_most is_empty
names_end [] h = refl
names_end (c ∷ t) h = absurd (omega arith)

-- no name stands first
pub names_stop : (t : List ℕ) → 0 < length t → length (take_while is_name t) ≡ 0 → names_of t ≡ none
unfolding names_of is_empty query_part_at take_while
names_stop [] h e = absurd (omega arith)
names_stop (c ∷ t) h e = at (is_name c) refl e
  where
    at : (b : Bool) → is_name c ≡ b → length (if b then c ∷ take_while is_name t else []) ≡ 0 → names_of (c ∷ t) ≡ none
    at true k e = absurd (omega arith)
    at false k e = rw (many_stop query_part_at query_part_shrinks (c ∷ t) (rw k refl)) refl

-- a name, and what follows it and its dots
pub names_more : (t : List ℕ) → 0 < length (take_while is_name t)
    → names_of t ≡ before (take_while is_name t ∷ []) (names_of (drop_while (eqb dot) (drop_while is_name t)))
unfolding names_of before query_part_at take_while drop_while
names_more [] h = absurd (omega arith)
names_more (c ∷ t) h = at (is_name c) refl h
  where
    rest : List ℕ
    rest = drop_while (eqb dot) (drop_while is_name t)

    end : (b : Bool) (ns : List (List ℕ)) (n : List ℕ) → (if b then some (n ∷ ns) else none) ≡ before (n ∷ []) (if b then some ns else none)
    end true ns n = refl
    end false ns n = refl

    at : (b : Bool) → is_name c ≡ b → 0 < length (if b then c ∷ take_while is_name t else [])
        → names_of (c ∷ t)
        ≡ before ((if b then c ∷ take_while is_name t else []) ∷ []) (names_of (drop_while (eqb dot) (if b then drop_while is_name t else c ∷ t)))
    at true k h =
        rw (many_more query_part_at query_part_shrinks (c ∷ t) (c ∷ take_while is_name t) rest (rw k refl))
        (end (is_empty (many query_part_at rest).rest) (many query_part_at rest).items (c ∷ take_while is_name t))
    at false k h = absurd (omega arith)

-- ---- The names that are found

abbrev pub items_of : List ℕ → List (List ℕ)
items_of t = (many query_part_at t).items

abbrev items : Parsed (List ℕ) → List (List ℕ)
items p = p.items

pub items_stop : (t : List ℕ) → length (take_while is_name t) ≡ 0 → items_of t ≡ []
unfolding query_part_at take_while
items_stop [] e = unfold many at_most in refl
items_stop (c ∷ t) e = at (is_name c) refl e
  where
    at : (b : Bool) → is_name c ≡ b → length (if b then c ∷ take_while is_name t else []) ≡ 0 → items_of (c ∷ t) ≡ []
    at true k e = absurd (omega arith)
    at false k e = ap items (many_stop query_part_at query_part_shrinks (c ∷ t) (rw k refl))

pub items_more : (t : List ℕ) → 0 < length (take_while is_name t) → items_of t ≡ take_while is_name t ∷ items_of (drop_while (eqb dot) (drop_while is_name t))
unfolding query_part_at take_while drop_while
items_more [] h = absurd (omega arith)
items_more (c ∷ t) h = at (is_name c) refl h
  where
    at : (b : Bool) → is_name c ≡ b → 0 < length (if b then c ∷ take_while is_name t else [])
        → items_of (c ∷ t) ≡ (if b then c ∷ take_while is_name t else []) ∷ items_of (drop_while (eqb dot) (if b then drop_while is_name t else c ∷ t))
    at true k h =
        ap items (many_more query_part_at query_part_shrinks (c ∷ t) (c ∷ take_while is_name t) (drop_while (eqb dot) (drop_while is_name t)) (rw k refl))
    at false k h = absurd (omega arith)

-- of a text that is well formed they are all
pub items_all : (t : List ℕ) (ns : List (List ℕ)) → names_of t ≡ some ns → items_of t ≡ ns
unfolding names_of
items_all t ns e = at (is_empty (many query_part_at t).rest) e
  where
    at : (b : Bool) → (if b then some (items_of t) else none) ≡ some ns → items_of t ≡ ns
    at true e = cc
    at false e = absurd (let z : ◌≡◌ {A = ℕ} 0 1 = cc in omega arith)
