-- The mark of a key's part at a position. Assumes nothing.
use Rattle.std.specs.Prelude.{if◌then◌else◌}
use mathlib.Core.Bool.{Bool, true, false}
use mathlib.Core.List.{List, [], ◌∷◌}
use mathlib.Core.Option.{Option, some, none, map}
use mathlib.Core.Path.{◌≡◌, refl, sym, ap, ◌∙◌}
use Prim.Native.Nat.{ℕ, zero, suc, ◌+◌, ◌-◌, ◌≤◌, ◌<◌}
use native.Mathlib.Omega.{arith}
use lib.Dec.{eqb}
use lib.ListN.{length, get_or, take, drop, length-take, length-drop}
use lib.Seq.{get_or-take, get_or-drop}
use borrow.Author.Tests.{eqb-true, eqb-false, eq-eqb, ne_eqb}
use Rattle.definition.specs.Lists.{any, same}
use Rattle.definition.specs.Bytes.{star, question}
use Rattle.definition.specs.Text.{Binding, tight, loose, Part, binding_of}
use Rattle.definition.specs.Query.{Position}
use Rattle.definition.specs.Matching.{Match, byWildcard, byClass, byInstance, equals, match_at, mark_of, mark_at}
use Rattle.positions.specs.Parts.{part_of, mark_byte}
use Rattle.key.specs.Keys.{component_of, part_between}

-- 0 stands for no mark
unfoldable pub mark_in : ℕ → Option ℕ
mark_in zero = none
mark_in (suc m) = some (suc m)

pub binding_loose : (b : ℕ) → b ≡ star → binding_of (b ∷ []) ≡ loose
unfolding binding_of any
binding_loose b e = rw (eq-eqb star b (sym e)) refl

pub binding_tight : (b : ℕ) → (b ≡ star → ⊥) → binding_of (b ∷ []) ≡ tight
unfolding binding_of any
binding_tight b h = rw (ne_eqb star b (λ e. h (sym e))) refl

-- a mark is never 0
pub mark_in_lem : (p : Part) (q : Position) → mark_in (mark_byte (mark_at p q)) ≡ mark_at p q
unfolding mark_at mark_in mark_byte mark_of
mark_in_lem p q = at (match_at p.component q) p.binding
  where
    at : (o : Option Match) (b : Binding) → mark_in (mark_byte (map (λ m. mark_of m b) o)) ≡ map (λ m. mark_of m b) o
    at none b = refl
    at (some byWildcard) loose = refl
    at (some byWildcard) tight = refl
    at (some byClass) loose = refl
    at (some byClass) tight = refl
    at (some byInstance) loose = refl
    at (some byInstance) tight = refl

-- and at most 6
pub mark_most : (p : Part) (q : Position) → mark_byte (mark_at p q) ≤ 6
unfolding mark_at mark_byte mark_of
mark_most p q = at (match_at p.component q) p.binding
  where
    at : (o : Option Match) (b : Binding) → mark_byte (map (λ m. mark_of m b) o) ≤ 6
    at none b = omega arith
    at (some byWildcard) loose = omega arith
    at (some byWildcard) tight = omega arith
    at (some byClass) loose = omega arith
    at (some byClass) tight = omega arith
    at (some byInstance) loose = omega arith
    at (some byInstance) tight = omega arith

-- a match's mark, from the byte that binds the part
marked : (k : Match) (c r : ℕ) → r ≡ (if eqb c star then mark_of k loose else mark_of k tight) → r ≡ mark_of k (binding_of (c ∷ []))
marked k c r e = at (eqb c star) refl e
  where
    at : (l : Bool) → eqb c star ≡ l → r ≡ (if l then mark_of k loose else mark_of k tight) → r ≡ mark_of k (binding_of (c ∷ []))
    at true h e = rw (e, binding_loose c (eqb-true c star h)) refl
    at false h e = rw (e, binding_tight c (eqb-false c star h)) refl

equals_part : (x n : List ℕ) → 0 < length x → equals x (part_of n) ≡ same x n
unfolding equals part_of same
equals_part [] n h = absurd (omega arith)
equals_part (c ∷ x) [] h = refl
equals_part (c ∷ x) (d ∷ n) h = refl

module _ (key : List ℕ) (b e : ℕ) (h : b + 1 < e) (q : Position) where
  abbrev text : List ℕ
  text = take (e - (b + 1)) (drop (b + 1) key)

  first : get_or text 0 0 ≡ get_or key (b + 1) 0
  first =
      let z : b + 1 + 0 ≡ b + 1 = omega arith in
      get_or-take (e - (b + 1)) (drop (b + 1) key) 0 0 (omega arith) ∙ get_or-drop (b + 1) key 0 0 ∙ ap (λ (n : ℕ). get_or key n 0) z

  -- the part is not empty, so it equals no missing part
  pub same_part : e ≤ length key → (n : List ℕ) (r : Bool) → r ≡ same text n → equals text (part_of n) ≡ r
  same_part k n r f = equals_part text n (omega (arith, length-take (e - (b + 1)) (drop (b + 1) key), length-drop (b + 1) key)) ∙ sym f

  abbrev Is : ℕ → Type 0
  Is r = r ≡ mark_byte (mark_at (part_between key b e) q)

  pub by_wildcard : (r : ℕ) → get_or key (b + 1) 0 ≡ question → r ≡ (if eqb (get_or key b 0) star then 1 else 2) → Is r
  unfolding mark_at match_at part_between component_of mark_of mark_byte
  by_wildcard r w z = rw (first, eq-eqb (get_or key (b + 1) 0) question w) (marked byWildcard (get_or key b 0) r z)

  module _ (w : get_or key (b + 1) 0 ≡ question → ⊥) where
    pub by_instance : (r : ℕ) → equals text q.instance ≡ true → r ≡ (if eqb (get_or key b 0) star then 5 else 6) → Is r
    unfolding mark_at match_at part_between component_of mark_of mark_byte
    by_instance r f z = rw (first, ne_eqb (get_or key (b + 1) 0) question w, f) (marked byInstance (get_or key b 0) r z)

    module _ (f : equals text q.instance ≡ false) where
      pub by_class : (r : ℕ) → equals text q.class ≡ true → r ≡ (if eqb (get_or key b 0) star then 3 else 4) → Is r
      unfolding mark_at match_at part_between component_of mark_of mark_byte
      by_class r g z = rw (first, ne_eqb (get_or key (b + 1) 0) question w, f, g) (marked byClass (get_or key b 0) r z)

      pub by_none : equals text q.class ≡ false → Is 0
      unfolding mark_at match_at part_between component_of mark_byte
      by_none g = rw (first, ne_eqb (get_or key (b + 1) 0) question w, f, g) refl
