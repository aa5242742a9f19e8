-- Lists of the same entries, those of equal key in the same order among themselves, give the same value, or none. Assumes nothing.
use mathlib.Core.Bool.{false}
use mathlib.Core.List.{List, []}
use mathlib.Core.Path.{◌≡◌, sym, ap, ◌∙◌}
use Prim.Native.Nat.{ℕ, ◌<◌}
use lib.ListN.{length, get_or, length-map, get_or-map}
use Rattle.definition.specs.Lists.{lower}
use Rattle.definition.specs.Text.{Entry}
use Rattle.definition.specs.Query.{Position}
use Rattle.definition.specs.Matching.{Ranks, Beats}
use Rattle.definition.specs.Lookup.{keys_of}
use Rattle.definition.specs.Orders.{Rearranged, blank}
use Rattle.laws.proofs.Lists.{Order, below, equal, above, order, lower_asym, not_lower_equal}
use Rattle.orders.proofs.Rows.{equal_rows}

pub keys_long : (es : List Entry) → length (keys_of es) ≡ length es
keys_long es = length-map es (λ (e : Entry). e.parts)

pub key_number : (es : List Entry) (i : ℕ) → get_or (keys_of es) i [] ≡ (get_or es i blank).parts
key_number es i = get_or-map (λ (e : Entry). e.parts) es i blank

module _ (xs ys : List Entry) (r : Rearranged blank xs ys) where
  pub key_there : (i : ℕ) → i < length xs → get_or (keys_of ys) (r.place i) [] ≡ get_or (keys_of xs) i []
  key_there i h = key_number ys (r.place i) ∙ ap (λ (e : Entry). e.parts) (r.element i h) ∙ sym (key_number xs i)

  pub key_back : (j : ℕ) → j < length ys → get_or (keys_of ys) j [] ≡ get_or (keys_of xs) (r.back j) []
  key_back j h =
      ap (λ (n : ℕ). get_or (keys_of ys) n []) (sym (r.undone_back j h)) ∙ key_there (r.back j) (r.inside_back j h)

-- no entry ranks higher than the one that beats the rest
pub none_above : (es : List Entry) (qs : List Position) (i : ℕ) (b : Beats (keys_of es) qs i) (j : ℕ) (other : List ℕ) → j < length es
    → Ranks (get_or (keys_of es) j []) qs other → lower b.row other ≡ false
none_above es qs i b j other h k = at (order j i)
  where
    at : Order j i → lower b.row other ≡ false
    at (below z) = b.before j other z k
    at (equal z) = b.ranks.highest other (rw z at k.aligned)
    at (above z) = lower_asym other b.row (b.after j other z (rw (keys_long es) h) k)

-- one is the other rearranged, and of two entries with equal key the earlier stays the earlier; i beats the rest in the one
module _ (xs ys : List Entry) (r : Rearranged blank xs ys)
    (in_order : (i j : ℕ) → i < j → j < length xs → get_or (keys_of xs) i [] ≡ get_or (keys_of xs) j [] → r.place i < r.place j)
    (qs : List Position) (i : ℕ) (b : Beats (keys_of xs) qs i) where
  pub inside : i < length xs
  inside = rw (keys_long xs) at b.inside

  -- an earlier entry whose row is no lower has the same row, so the same key, and stays earlier
  pub stays_earlier : (j : ℕ) (other : List ℕ) → j < i → Ranks (get_or (keys_of xs) j []) qs other → lower other b.row ≡ false → r.place j < r.place i
  stays_earlier j other h k e =
      let rows : other ≡ b.row = not_lower_equal other b.row e (b.before j other h k) in
      in_order j i h inside (equal_rows qs b.row _ _ (rw rows at k.aligned) b.ranks.aligned)
