-- What a split key gives a match: the key's parts stand between its bounds. Assumes nothing.
use mathlib.Core.Bool.{true}
use mathlib.Core.List.{List, [], ◌∷◌, ◌++◌}
use mathlib.Core.Path.{◌≡◌, refl, sym, ap, ◌∙◌}
use Prim.Native.Nat.{ℕ, zero, suc, ◌+◌, ◌≤◌, ◌<◌}
use native.Mathlib.Omega.{arith}
use native.Mathlib.Numerals.{add-one}
use lib.ListN.{length, get_or, take, drop, get_or-append}
use Rattle.definition.specs.Lists.{all}
use Rattle.definition.specs.Text.{Part}
use Rattle.definition.specs.Image.{key_of, key_parts, is_key}
use Rattle.laws.proofs.Lists.{and_true}
use Rattle.laws.proofs.Keys.{is_legal, parts_of}
use Rattle.key.specs.Keys.{part_between, no_part, part_end, ends_of, bounds_over, Bounded}
use Rattle.key.proofs.Keys.{some_part, part_some, part_rest, part_inside, part_is}

-- the parts ps stand between the bounds bs
record Between (key : List ℕ) (ps : List Part) (bs : List ℕ) : Type 0 where
  pub part : (i : ℕ) → i < length ps → get_or ps i no_part ≡ part_between key (get_or bs i 0) (get_or bs (suc i) 0)
  pub rises : (i : ℕ) → i < length ps → get_or bs i 0 + 1 < get_or bs (suc i) 0
  pub inside : (i : ℕ) → i ≤ length ps → get_or bs i 0 ≤ length key

length_ends : (at : ℕ) (ps : List Part) → length (ends_of at ps) ≡ length ps
unfolding ends_of
length_ends at [] = refl
length_ends at (p ∷ ps) = ap suc (length_ends (part_end at p) ps)

-- the key goes on with ps at `at`
between : (key : List ℕ) (at : ℕ) (ps : List Part) → all is_legal ps ≡ true → drop at key ≡ key_of ps → at ≤ length key → Between key ps (at ∷ ends_of at ps)
unfolding all ends_of
between key at [] l e h = record {
  part = λ i k. absurd (omega arith);
  rises = λ i k. absurd (omega arith);
  inside = λ i k. let z : i ≡ 0 = omega arith in rw z h;
}
between key at (p ∷ ps) l e h =
    let m = and_true (is_legal p) (all is_legal ps) l in
    step m.0 (between key (part_end at p) ps m.1 (part_rest key at p ps m.0 e) (part_inside key at p ps m.0 e))
  where
    step : is_legal p ≡ true → Between key ps (part_end at p ∷ ends_of (part_end at p) ps) → Between key (p ∷ ps) (at ∷ ends_of at (p ∷ ps))
    step l B = record { part = part; rises = rises; inside = inside }
      where
        part : (i : ℕ) → i < suc (length ps) → get_or (p ∷ ps) i no_part ≡ part_between key (get_or (at ∷ ends_of at (p ∷ ps)) i 0) (get_or (ends_of at (p ∷ ps)) i 0)
        part zero k = sym (part_is key at p ps l e)
        part (suc i) k = B.part i (omega arith)

        rises : (i : ℕ) → i < suc (length ps) → get_or (at ∷ ends_of at (p ∷ ps)) i 0 + 1 < get_or (ends_of at (p ∷ ps)) i 0
        rises zero k = omega (arith, part_some key at p ps l e)
        rises (suc i) k = B.rises i (omega arith)

        inside : (i : ℕ) → i ≤ suc (length ps) → get_or (at ∷ ends_of at (p ∷ ps)) i 0 ≤ length key
        inside zero k = h
        inside (suc i) k = B.inside i (omega arith)

-- of bounds of which the first was 0
pub bounded : (key held bounds : List ℕ) (count : ℕ) → is_key key ≡ true → take 1 held ≡ 0 ∷ [] → count ≡ length (key_parts key) → bounds ≡ bounds_over key held
    → Bounded key bounds count
unfolding bounds_over
bounded key held bounds count h z n e =
    let K = parts_of key h in
    let ps = key_parts key in
    let B = between key 0 ps K.legal (sym K.written) (omega arith) in
    let f : bounds ≡ (0 ∷ ends_of 0 ps) ++ drop (suc (length ps)) held = e ∙ rw z refl in
    let same : (i : ℕ) → i ≤ length ps → get_or bounds i 0 ≡ get_or (0 ∷ ends_of 0 ps) i 0 =
    λ i k. ap (λ (l : List ℕ). get_or l i 0) f ∙ get_or-append (0 ∷ ends_of 0 ps) (drop (suc (length ps)) held) 0 i (omega (arith, length_ends 0 ps)) in
    record {
      counted = n;
      few = omega (arith, K.few);
      some = omega (arith, some_part key K);
      first = same 0 (omega arith);
      part = λ i k. rw (add-one, same i (omega arith), same (suc i) (omega arith)) (B.part i (omega arith));
      rises = λ i k. rw (add-one i, same i (omega arith), same (suc i) (omega arith)) (B.rises i (omega arith));
      inside = λ i k. rw (same i (omega arith)) (B.inside i (omega arith));
    }
