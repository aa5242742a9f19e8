-- For one query equal rows come only from equal keys: from the relation of alignments alone. Assumes nothing.
use Rattle.std.specs.Prelude.{if◌then◌else◌}
use mathlib.Core.Bool.{Bool, true, false}
use mathlib.Core.List.{List, ◌∷◌}
use mathlib.Core.Option.{Option, some, none, map, some-ne-none}
use mathlib.Core.Path.{◌≡◌, refl, sym, ap, ◌∙◌}
use Prim.Native.Nat.{ℕ, ◌%◌}
use native.Mathlib.Omega.{arith}
use lib.Dec.{eqb, ltb}
use Rattle.definition.specs.Text.{Binding, tight, loose, Component, wildcard, name, Part}
use Rattle.definition.specs.Query.{Position}
use Rattle.definition.specs.Matching.{
  Match,
  byWildcard,
  byClass,
  byInstance,
  equals,
  match_at,
  skip_mark,
  mark_of,
  mark_at,
  Aligned,
  end,
  skip,
  meet,
}
use Rattle.definition.specs.Orders.{EqualRows}
use Rattle.laws.proofs.Lists.{not_both, same_eq}
use Rattle.laws.proofs.Ranking.{mark_positive}

-- ---- A mark tells how a part matched, and its binding

match_in : ℕ → Match
match_in m = if ltb m 3 then byWildcard else if ltb m 5 then byClass else byInstance

binding_in : ℕ → Binding
binding_in m = if eqb (m % 2) 0 then tight else loose

match_told : (m : Match) (b : Binding) → match_in (mark_of m b) ≡ m
unfolding match_in mark_of
match_told byWildcard loose = refl
match_told byWildcard tight = refl
match_told byClass loose = refl
match_told byClass tight = refl
match_told byInstance loose = refl
match_told byInstance tight = refl

binding_told : (m : Match) (b : Binding) → binding_in (mark_of m b) ≡ b
unfolding binding_in mark_of
binding_told byWildcard loose = refl
binding_told byWildcard tight = refl
binding_told byClass loose = refl
binding_told byClass tight = refl
binding_told byInstance loose = refl
binding_told byInstance tight = refl

-- ---- How it matched, with the position, tells the component

-- what a position has for a match by name
part_by : Match → Position → Option (List ℕ)
part_by byWildcard q = none
part_by byClass q = q.class
part_by byInstance q = q.instance

equals_there : (n : List ℕ) (o : Option (List ℕ)) → equals n o ≡ true → o ≡ some n
unfolding equals
equals_there n none e = absurd (not_both e refl)
equals_there n (some m) e = ap (λ (l : List ℕ). some l) (sym (same_eq n m e))

name_there : (n : List ℕ) (q : Position) (k : Match) → match_at (name n) q ≡ some k → part_by k q ≡ some n
unfolding match_at part_by
name_there n q k = at (equals n q.instance) (equals n q.class) refl refl
  where
    at : (a b : Bool) → equals n q.instance ≡ a → equals n q.class ≡ b
        → (if a then some byInstance else if b then some byClass else none) ≡ some k → part_by k q ≡ some n
    at true b i c e = let f : byInstance ≡ k = cc in rw (← f) (equals_there n q.instance i)
    at false true i c e = let f : byClass ≡ k = cc in rw (← f) (equals_there n q.class c)
    at false false i c e = absurd (some-ne-none k (sym e))

component_told : (c d : Component) (q : Position) (k : Match) → match_at c q ≡ some k → match_at d q ≡ some k → c ≡ d
unfolding match_at part_by
component_told wildcard wildcard q k e f = refl
component_told wildcard (name m) q k e f =
    let g : byWildcard ≡ k = cc in
    absurd (some-ne-none m (sym (rw (← g) at (name_there m q k f))))
component_told (name n) wildcard q k e f =
    let g : byWildcard ≡ k = cc in
    absurd (some-ne-none n (sym (rw (← g) at (name_there n q k e))))
component_told (name n) (name m) q k e f =
    let g : some n ≡ some m = sym (name_there n q k e) ∙ name_there m q k f in
    cc

-- ---- Rows

-- the match behind a mark
record Marked (p : Part) (q : Position) (m : ℕ) : Type 0 where
  by : Match
  matches : match_at p.component q ≡ some by
  mark : mark_of by p.binding ≡ m

marked : (p : Part) (q : Position) (m : ℕ) → mark_at p q ≡ some m → Marked p q m
unfolding mark_at
marked p q m = at (match_at p.component q) refl
  where
    at : (o : Option Match) → match_at p.component q ≡ o → map (λ k. mark_of k p.binding) o ≡ some m → Marked p q m
    at none e f = absurd (some-ne-none m (sym f))
    at (some k) e f = record { by = k; matches = e; mark = cc }

part_told : (p r : Part) (q : Position) (m : ℕ) → mark_at p q ≡ some m → mark_at r q ≡ some m → p ≡ r
part_told p r q m e f =
    let a = marked p q m e in
    let b = marked r q m f in
    let marks : mark_of a.by p.binding ≡ mark_of b.by r.binding = a.mark ∙ sym b.mark in
    let how : a.by ≡ b.by = sym (match_told a.by p.binding) ∙ ap match_in marks ∙ match_told b.by r.binding in
    let bound : p.binding ≡ r.binding =
    sym (binding_told a.by p.binding) ∙ ap binding_in marks ∙ binding_told b.by r.binding in
    let named : p.component ≡ r.component =
    component_told p.component r.component q b.by (rw how at a.matches) b.matches in
    λ i. record { binding = bound i; component = named i }

no_skip : (p : Part) (q : Position) → mark_at p q ≡ some skip_mark → ⊥
no_skip p q e = omega (arith, mark_positive p q skip_mark e)

keys_told : {key other : List Part} {qs : List Position} {row : List ℕ} → Aligned key qs row → Aligned other qs row → key ≡ other
keys_told end end = refl
keys_told (skip g a) (skip h b) = keys_told a b
keys_told (skip {q = q} g a) (meet {p = r} h b) = absurd (no_skip r q h)
keys_told (meet {p = p} {q = q} g a) (skip h b) = absurd (no_skip p q g)
keys_told (meet {p = p} {q = q} {mark = m} g a) (meet {p = r} h b) =
    let first = part_told p r q m g h in
    let rest = keys_told a b in
    λ i. first i ∷ rest i

pub equal_rows : EqualRows
equal_rows qs row key other a b = keys_told a b
