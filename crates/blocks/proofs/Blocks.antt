-- What a block has, byte by byte, and bytes pasted one block after another. Assumes nothing.
use mathlib.Core.Bool.{Bool, ◌||◌, or-false}
use mathlib.Core.List.{List, ◌++◌}
use mathlib.Core.Path.{◌≡◌, refl, sym, ap, ◌∙◌}
use Prim.Native.Nat.{ℕ, ◌+◌, ◌≤◌, ◌<◌}
use native.Mathlib.Numerals.{add-one}
use native.Mathlib.Nat.{zero-add}
use native.Mathlib.Omega.{arith}
use lib.Dec.{eqb}
use lib.ListN.{length, get_or, set, take, drop, length-drop}
use lib.Seq.{paste, paste-suc, take-paste, take-suc, get_or-drop}
use Rattle.definition.specs.Lists.{any, zeroes}
use Rattle.laws.proofs.Lists.{any_append}
use Rattle.laws.proofs.Image.{length_zeroes}
use Rattle.blocks.specs.Either.{either}

any_more : (p : ℕ → Bool) (xs : List ℕ) (i : ℕ) → i < length xs → any p (take (i + 1) xs) ≡ (any p (take i xs) || p (get_or xs i 0))
unfolding any
any_more p xs i h = rw (add-one, take-suc xs i 0 h, any_append) (ap (λ (x : Bool). any p (take i xs) || x) (or-false _))

-- one byte more
pub block_more : (text : List ℕ) (at a b : ℕ) (found : Bool) (i : ℕ) → at + i < length text → found ≡ any (either a b) (take i (drop at text))
    → (found || (eqb (get_or text (at + i) 0) a || eqb (get_or text (at + i) 0) b)) ≡ any (either a b) (take (i + 1) (drop at text))
unfolding either
block_more text at a b found i h e =
    let k : i < length (drop at text) = omega (arith, length-drop at text) in
    rw (e, any_more (either a b) (drop at text) i k, get_or-drop) refl

-- and one more in a block that is copied from its front on
paste_front : (d s : List ℕ) (i : ℕ) → i < length d → i < length s → set (paste d 0 s i) i (get_or s i 0) ≡ paste d 0 s (i + 1)
paste_front d s i h k =
    rw add-one (ap (λ (n : ℕ). set (paste d 0 s i) n (get_or s i 0)) (sym (zero-add i)) ∙ paste-suc d 0 s i 0 (omega arith) k)

pub block_next : (source : List ℕ) (from i : ℕ) (block : List ℕ) → from + i < length source → i < 8 → block ≡ paste (zeroes 8) 0 (drop from source) i
    → set block i (get_or source (from + i) 0) ≡ paste (zeroes 8) 0 (drop from source) (i + 1)
block_next source from i block h k e =
    rw e (ap (set (paste (zeroes 8) 0 (drop from source) i) i) (sym (get_or-drop from source i 0))
    ∙ paste_front (zeroes 8) (drop from source) i (omega (arith, length_zeroes 8)) (omega (arith, length-drop from source)))

-- what is copied through a block is what is copied
pub through_block : (store source block : List ℕ) (at from size : ℕ) → size ≤ 8 → from + size ≤ length source
    → block ≡ paste (zeroes 8) 0 (drop from source) size → paste store at block size ≡ paste store at (drop from source) size
through_block store source block at from size h k e =
    ap (λ (l : List ℕ). take at store ++ l ++ drop (at + size) store)
    (rw e (ap (λ (n : ℕ). take n (paste (zeroes 8) 0 (drop from source) size)) (sym (zero-add size))
    ∙ take-paste (zeroes 8) 0 (drop from source) size (omega arith) (omega (arith, length-drop from source))))
