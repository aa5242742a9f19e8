-- The loop over the entries of an image, by their keys. Assumes nothing.
use Rattle.std.specs.Prelude.{if◌then◌else◌}
use mathlib.Core.Bool.{Bool, true, false}
use mathlib.Core.List.{List, [], ◌∷◌}
use mathlib.Core.Option.{some, none, some-ne-none}
use mathlib.Core.Path.{◌≡◌, refl, sym, ap, ◌∙◌}
use Prim.Native.Nat.{ℕ, suc, ◌+◌, ◌≤◌, ◌<◌}
use native.Mathlib.Numerals.{add-one}
use native.Mathlib.Omega.{arith}
use lib.ListN.{length, get_or, drop, drop_of_length-le, length-drop}
use lib.Seq.{drop-cons}
use borrow.Author.Tests.{lt-ltb}
use lib.Dec.{ltb}
use Rattle.definition.specs.Text.{Part, Entry}
use Rattle.definition.specs.Image.{count_of, key_at, key_parts, entry_at, is_key, is_image, key_of}
use Rattle.definition.specs.Writing.{entries_of_image}
use Rattle.definition.specs.Lookup.{keys_of}
use Rattle.definition.specs.Walking.{first_of}
use Rattle.definition.specs.Orders.{same_key, numbers_with, next_with_key}
use Rattle.definition.specs.Lists.{same}
use Rattle.laws.proofs.Lists.{get_d_map, same_eq, same_refl, not_both}
use Rattle.laws.proofs.Keys.{parts_of}
use Rattle.laws.proofs.Image.{image_sizes}
use Rattle.orders.proofs.Agreeing.{key_eq, key_refl}
use Rattle.image.specs.Rows.{row_at}
use Rattle.walk.proofs.Walking.{entry_of}

-- ---- Keys as bytes

-- keys of equal bytes have equal parts, and only these
module _ (key other : List ℕ) (h : is_key key ≡ true) (k : is_key other ≡ true) where
  pub same_bytes : same key other ≡ true → same_key (key_parts key) (key_parts other) ≡ true
  same_bytes e = rw (same_eq key other e) (key_refl (key_parts other))

  pub other_bytes : same key other ≡ false → same_key (key_parts key) (key_parts other) ≡ false
  other_bytes f = at (same_key (key_parts key) (key_parts other)) refl
    where
      at : (b : Bool) → same_key (key_parts key) (key_parts other) ≡ b → b ≡ false
      at true e =
          let g : key ≡ other = sym (parts_of key h).written ∙ ap key_of (key_eq (key_parts key) (key_parts other) e) ∙ (parts_of other k).written in
          absurd (not_both (rw g (same_refl other)) f)
      at false e = refl

-- ---- The loop

module _ (contents bodies : List ℕ) (key : List Part) (next : ℕ) where
  abbrev held : List Entry
  held = entries_of_image contents bodies

  -- the first from entry j on is the one that is looked for
  pub record Looking (j : ℕ) : Type 0 where
    pub same : first_of (numbers_with j key (drop j held)) ≡ first_of (numbers_with next key (drop next held))

  pub looking_first : Looking next
  looking_first = record { same = refl }

  module _ (image : is_image contents bodies ≡ true) (j : ℕ) (s : Looking j) where
    module _ (h : j < count_of contents) where
      turn : drop j held ≡ entry_at bodies (row_at contents j) ∷ drop (suc j) held
      turn =
          let d = row_at contents j in
          let inside : j < length held = omega (arith, h, (image_sizes contents bodies image).0) in
          drop-cons held j (entry_at bodies d) inside
          ∙ ap (λ (e : Entry). e ∷ drop (suc j) held) (entry_of contents bodies j (entry_at bodies d) image h)

      pub looks_here : same_key key (key_parts (key_at bodies (row_at contents j))) ≡ true
          → some j ≡ first_of (numbers_with next key (drop next held))
      unfolding numbers_with first_of
      looks_here e =
          let f : first_of (numbers_with j key (drop j held)) ≡ some j = rw (turn, e) refl in
          sym f ∙ s.same

      pub looking_more : same_key key (key_parts (key_at bodies (row_at contents j))) ≡ false → Looking (j + 1)
      unfolding numbers_with
      looking_more e =
          let f : first_of (numbers_with j key (drop j held)) ≡ first_of (numbers_with (suc j) key (drop (suc j) held)) = rw (turn, e) refl in
          record { same = rw (add-one j) (sym f ∙ s.same) }

    pub looks_end : count_of contents ≤ j → none ≡ first_of (numbers_with next key (drop next held))
    unfolding numbers_with first_of
    looks_end h =
        let past : drop j held ≡ [] = drop_of_length-le held {i = j} (omega (arith, h, (image_sizes contents bodies image).0)) in
        let f : first_of (numbers_with j key (drop j held)) ≡ none = rw past refl in
        sym f ∙ s.same

-- ---- The call

module _ (contents bodies : List ℕ) (i : ℕ) (others bodies' : List ℕ) (next : ℕ) (h : is_image contents bodies ≡ true) where
  pub of_entry : i < count_of contents
      → first_of (numbers_with next (key_parts (key_at bodies (row_at contents i))) (drop next (entries_of_image others bodies')))
      ≡ next_with_key (entries_of_image contents bodies) i (entries_of_image others bodies') next
  unfolding next_with_key
  of_entry z =
      let es = entries_of_image contents bodies in
      let d = row_at contents i in
      let inside : i < length es = omega (arith, z, (image_sizes contents bodies h).0) in
      let here : get_or (keys_of es) i [] ≡ key_parts (key_at bodies d) =
      get_d_map (λ (e : Entry). e.parts) es i (entry_at bodies d) [] inside
      ∙ ap (λ (e : Entry). e.parts) (entry_of contents bodies i (entry_at bodies d) h z) in
      rw (lt-ltb i (length es) inside, here) refl

-- ---- What is found

numbers_first : (n : ℕ) (key : List Part) (xs : List Entry) (j : ℕ) → first_of (numbers_with n key xs) ≡ some j → (n ≤ j) × (j < n + length xs)
unfolding numbers_with first_of
numbers_first n key [] j e = absurd (some-ne-none j (sym e))
numbers_first n key (x ∷ xs) j e = at (same_key key x.parts) e (numbers_first (suc n) key xs j)
  where
    at : (b : Bool) → first_of (if b then n ∷ numbers_with (suc n) key xs else numbers_with (suc n) key xs) ≡ some j
        → (first_of (numbers_with (suc n) key xs) ≡ some j → (suc n ≤ j) × (j < suc n + length xs)) → (n ≤ j) × (j < n + suc (length xs))
    at true f ih = let z : n ≡ j = cc in (omega arith, omega arith)
    at false f ih = let k = ih f in (omega (arith, k.0), omega (arith, k.1))

-- what is found is an entry of the image, from that number on
pub found_shared : (es : List Entry) (i : ℕ) (others bodies' : List ℕ) (next j : ℕ) → is_image others bodies' ≡ true
    → some j ≡ next_with_key es i (entries_of_image others bodies') next → (next ≤ j) × (j < count_of others)
unfolding next_with_key
found_shared es i others bodies' next j image = at (ltb i (length es))
  where
    fs : List Entry
    fs = entries_of_image others bodies'

    at : (c : Bool) → some j ≡ (if c then first_of (numbers_with next (get_or (keys_of es) i []) (drop next fs)) else none)
        → (next ≤ j) × (j < count_of others)
    at false e = absurd (some-ne-none j e)
    at true e =
        let f = numbers_first next (get_or (keys_of es) i []) (drop next fs) j (sym e) in
        (f.0, omega (arith, f.0, f.1, length-drop next fs, (image_sizes others bodies' image).0))
