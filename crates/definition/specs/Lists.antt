-- Words for tests and lists that the definition is written in. They say nothing of resources.
use Rattle.std.specs.Prelude.{Bool, true, false, ◌&&◌, ◌||◌, List, [], ◌∷◌, ℕ, eqb, ltb, drop, replicate, if◌then◌else◌}
use Rattle.std.proofs.Math.Option.{Option, some, none}
use Prim.Native.String.{String, [] as ε, ◌∷◌ as ◌◁◌}
use Prim.Native.Char.{code}

-- the bytes of a text of ASCII characters
abbrev pub ascii : String → List ℕ
ascii ε = []
ascii (◌◁◌ c s) = code c ∷ ascii s

module _ {A : Type 0} where
  unfoldable pub all : (A → Bool) → List A → Bool
  all p [] = true
  all p (x ∷ xs) = p x && all p xs

  unfoldable pub any : (A → Bool) → List A → Bool
  any p [] = false
  any p (x ∷ xs) = p x || any p xs

  -- the longest beginning whose elements all pass the test, and what follows it
  unfoldable pub take_while : (A → Bool) → List A → List A
  take_while p [] = []
  take_while p (x ∷ xs) = if p x then x ∷ take_while p xs else []

  unfoldable pub drop_while : (A → Bool) → List A → List A
  drop_while p [] = []
  drop_while p (x ∷ xs) = if p x then drop_while p xs else x ∷ xs

  -- those that pass the test, in their order
  unfoldable pub filter : (A → Bool) → List A → List A
  filter p [] = []
  filter p (x ∷ xs) = if p x then x ∷ filter p xs else filter p xs

  unfoldable pub is_empty : List A → Bool
  is_empty [] = true
  is_empty (x ∷ xs) = false

  -- the first of two, if there is one
  unfoldable pub or_else : Option A → Option A → Option A
  or_else none o = o
  or_else (some a) o = some a

  -- what stands from n on; kept shut, so that a large n is never counted down
  unfoldable pub beyond : ℕ → List A → List A
  beyond n xs = drop n xs

-- n zeroes; kept shut for the same reason
unfoldable pub zeroes : ℕ → List ℕ
zeroes n = replicate n 0

-- are the two the same?
unfoldable pub same : List ℕ → List ℕ → Bool
same [] [] = true
same [] (y ∷ ys) = false
same (x ∷ xs) [] = false
same (x ∷ xs) (y ∷ ys) = eqb x y && same xs ys

-- does the first stand below the second? The first difference from the left decides, and a beginning stands below the whole
unfoldable pub lower : List ℕ → List ℕ → Bool
lower [] [] = false
lower [] (y ∷ ys) = true
lower (x ∷ xs) [] = false
lower (x ∷ xs) (y ∷ ys) = if ltb x y then true else if ltb y x then false else lower xs ys
