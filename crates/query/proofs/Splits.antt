-- Laws of lists by their indexes, of what parts stand for, and of what is kept of them. Assumes nothing.
use mathlib.Core.List.{List, [], ◌∷◌, ◌++◌, map}
use mathlib.Core.Path.{◌≡◌, refl, sym, ap, ◌∙◌}
use Prim.Native.Nat.{ℕ, zero, suc, ◌≤◌, ◌<◌}
use native.Mathlib.Omega.{arith}
use lib.ListN.{length, get_or, take, drop, set, length-drop, length-map}
use lib.Seq.{ext_get_or}
use Rattle.definition.specs.Limits.{query_parts}
use Rattle.definition.specs.Bytes.{is_name}
use Rattle.laws.proofs.Lists.{take_run, get_d_map, length_take_while_le}
use Rattle.query.specs.Splits.{name_from, length_from, each, part_in, names_in, Inside}
use Rattle.query.specs.Shapes.{kept_over}

-- ---- Lists by their indexes

module _ {A : Type 0} where
  length_each : (n : ℕ) (f : ℕ → A) → length (each n f) ≡ n
  unfolding each
  length_each zero f = refl
  length_each (suc n) f = ap suc (length_each n (λ i. f (suc i)))

  get_d_each : (n : ℕ) (f : ℕ → A) (i : ℕ) (d : A) → i < n → get_or (each n f) i d ≡ f i
  unfolding each
  get_d_each zero f i d h = absurd (omega arith)
  get_d_each (suc n) f zero d h = refl
  get_d_each (suc n) f (suc i) d h = get_d_each n (λ j. f (suc j)) i d (omega arith)

module _ (text starts lengths : List ℕ) where
  pub length_names : length (names_in text starts lengths) ≡ length starts
  unfolding names_in
  length_names = length_each (length starts) (part_in text starts lengths)

  pub name_at : (i : ℕ) (d : List ℕ) → i < length starts → get_or (names_in text starts lengths) i d ≡ part_in text starts lengths i
  unfolding names_in
  name_at i d h = get_d_each (length starts) (part_in text starts lengths) i d h

-- ---- Parts that begin at `starts`

module _ (t starts : List ℕ) where
  abbrev lengths : List ℕ
  lengths = map (length_from t) starts

  part_length : (i : ℕ) → i < length starts → get_or lengths i 0 ≡ length_from t (get_or starts i 0)
  part_length i h = get_d_map (length_from t) starts i 0 0 h

  part_from : (i : ℕ) → i < length starts → part_in t starts lengths i ≡ name_from t (get_or starts i 0)
  part_from i h = rw (part_length i h) (take_run is_name (drop (get_or starts i 0) t))

  pub names_from : names_in t starts lengths ≡ map (name_from t) starts
  names_from =
      ext_get_or [] _ _ (length_names t starts lengths ∙ sym (length-map starts (name_from t)))
      (λ i h. let k : i < length starts = omega (arith, length_names t starts lengths) in
      name_at t starts lengths i [] k ∙ part_from i k ∙ sym (get_d_map (name_from t) starts i 0 [] k))

  pub parts_inside : length starts ≤ query_parts → ((i : ℕ) → i < length starts → get_or starts i 0 ≤ length t)
      → ((i : ℕ) → i < length starts → 0 < length_from t (get_or starts i 0)) → Inside t starts lengths
  parts_inside few begin some = record {
    few = few;
    same = length-map starts (length_from t);
    some = λ i h. rw (part_length i h) (some i h);
    within = λ i h. rw (part_length i h)
        (omega (arith, begin i h, length_take_while_le is_name (drop (get_or starts i 0) t), length-drop (get_or starts i 0) t));
  }

-- ---- What is kept

pub kept_long : (ps held : List ℕ) → length (kept_over ps held) ≡ length held
unfolding kept_over
kept_long [] held = refl
kept_long (p ∷ ps) [] = refl
kept_long (p ∷ ps) (h ∷ hs) = ap suc (kept_long ps hs)

-- one more, where there is room, and where there is none
pub kept_more : (ps held : List ℕ) (x : ℕ) → length ps < length held → kept_over (ps ++ (x ∷ [])) held ≡ set (kept_over ps held) (length ps) x
unfolding kept_over
kept_more [] [] x h = absurd (omega arith)
kept_more [] (g ∷ held) x h = refl
kept_more (p ∷ ps) [] x h = absurd (omega arith)
kept_more (p ∷ ps) (g ∷ held) x h = ap (λ (l : List ℕ). p ∷ l) (kept_more ps held x (omega arith))

pub kept_full : (ps held : List ℕ) (x : ℕ) → length held ≤ length ps → kept_over (ps ++ (x ∷ [])) held ≡ kept_over ps held
unfolding kept_over
kept_full [] [] x h = refl
kept_full [] (g ∷ held) x h = absurd (omega arith)
kept_full (p ∷ ps) [] x h = refl
kept_full (p ∷ ps) (g ∷ held) x h = ap (λ (l : List ℕ). p ∷ l) (kept_full ps held x (omega arith))

pub kept_front : (ps held : List ℕ) → length ps ≤ length held → take (length ps) (kept_over ps held) ≡ ps
unfolding kept_over
kept_front [] held h = refl
kept_front (p ∷ ps) [] h = absurd (omega arith)
kept_front (p ∷ ps) (g ∷ held) h = ap (λ (l : List ℕ). p ∷ l) (kept_front ps held (omega arith))
