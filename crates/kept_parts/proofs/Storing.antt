-- A part put below what is kept of a path, and single parts. Assumes nothing.
use Rattle.std.specs.Prelude.{Some, None, if◌then◌else◌}
use mathlib.Core.Bool.{true, false}
use mathlib.Core.List.{List, [], ◌∷◌, ◌++◌}
use mathlib.Core.Path.{◌≡◌, refl, sym, ap, ◌∙◌}
use Prim.Native.Nat.{ℕ, zero, suc, ◌+◌, ◌-◌, ◌≤◌, ◌<◌}
use native.Mathlib.Omega.{arith}
use lib.Dec.{eqb, leb}
use lib.ListN.{length, take, drop, set, length-append, length-drop}
use lib.Seq.{paste, take_at, take-length, length-take-le}
use borrow.Author.Tests.{eq-eqb, ne_eqb, leb-true}
use Rattle.definition.specs.Lists.{ascii, is_empty, same}
use Rattle.definition.specs.Limits.{file_name_bytes}
use Rattle.definition.specs.Bytes.{slash}
use Rattle.definition.specs.Archive.{folder_of, joined}
use Rattle.laws.proofs.Lists.{and_true, paste_one, paste_append}
use Rattle.kept_parts.specs.declared.Kept.{Kept}
use Rattle.kept_parts.specs.Keeping.{kept, end_below, put_below, has_room, with_part, bytes_with, without_part, did, taken_part}

-- ---- Where a part ends

pub empty_is : (q : List ℕ) → is_empty q ≡ eqb (length q) 0
unfolding is_empty
empty_is [] = sym (eq-eqb 0 0 refl)
empty_is (c ∷ q) = sym (ne_eqb (length (c ∷ q)) 0 (λ e. omega arith))

pub end_first : (size n : ℕ) → size ≡ 0 → end_below size n ≡ n
unfolding end_below
end_first size n e = rw e refl

pub end_later : (size n : ℕ) → 0 < size → end_below size n ≡ size + 1 + n
unfolding end_below
end_later size n h = rw (ne_eqb size 0 (λ e. omega arith)) refl

pub end_most : (size n : ℕ) → n ≤ end_below size n
end_most zero n = omega (arith, end_first zero n refl)
end_most (suc s) n = omega (arith, end_later (suc s) n (omega arith))

module _ (k : Kept) (n : ℕ) where
  pub no_room : 0 < k.over → false ≡ has_room n k
  unfolding has_room
  no_room h = rw (ne_eqb k.over 0 (λ e. omega arith)) refl

  pub room_is : k.over ≤ 0 → {e : ℕ} → e ≡ end_below k.size n → leb e file_name_bytes ≡ has_room n k
  unfolding has_room
  room_is h q = rw (eq-eqb k.over 0 (omega arith), q) refl

  pub room_most : has_room n k ≡ true → end_below k.size n ≤ file_name_bytes
  unfolding has_room
  room_most h = leb-true _ _ (and_true (eqb k.over 0) (leb (end_below k.size n) file_name_bytes) h).1

-- ---- One part taken, by what it is

module _ (k : Kept) (b : List ℕ) where
  pub up_over : 0 < k.over → Some (kept k.size (k.over - 1) true) ≡ without_part k b
  unfolding without_part
  up_over h = rw (ne_eqb k.over 0 (λ e. omega arith)) refl

  pub up_root : k.over ≤ 0 → k.size ≡ 0 → None ≡ without_part k b
  unfolding without_part
  up_root h e = rw (eq-eqb k.over 0 (omega arith), eq-eqb k.size 0 e) refl

  pub up_folder : k.over ≤ 0 → (k.size ≡ 0 → ⊥) → Some (kept (length (folder_of (take k.size b))) 0 true) ≡ without_part k b
  unfolding without_part
  up_folder h e = rw (eq-eqb k.over 0 (omega arith), ne_eqb k.size 0 e) refl

module _ (p : List ℕ) (k : Kept) (b : List ℕ) where
  pub added_room : has_room (length p) k ≡ true → (kept (end_below k.size (length p)) 0 false ≡ with_part p k) × (put_below p k.size b ≡ bytes_with p k b)
  unfolding with_part bytes_with
  added_room h = (rw h refl, rw h refl)

  pub added_over : has_room (length p) k ≡ false → (kept k.size (k.over + 1) false ≡ with_part p k) × (b ≡ bytes_with p k b)
  unfolding with_part bytes_with
  added_over h = (rw h refl, rw h refl)

  pub part_empty : length p ≡ 0 → did None b ≡ taken_part p k b
  unfolding taken_part
  part_empty h = rw (empty_is p, eq-eqb (length p) 0 h) refl

  module _ (h : length p ≡ 0 → ⊥) where
    there : is_empty p ≡ false
    there = empty_is p ∙ ne_eqb (length p) 0 h

    pub part_dot : same p (ascii ".") ≡ true → did (Some (kept k.size k.over true)) b ≡ taken_part p k b
    unfolding taken_part
    part_dot d = rw (there, d) refl

    module _ (d : same p (ascii ".") ≡ false) where
      pub part_up : same p (ascii "..") ≡ true → did (without_part k b) b ≡ taken_part p k b
      unfolding taken_part
      part_up dd = rw (there, d, dd) refl

      pub part_name : same p (ascii "..") ≡ false → did (Some (with_part p k)) (bytes_with p k b) ≡ taken_part p k b
      unfolding taken_part
      part_name dd = rw (there, d, dd) refl

-- a path that is kept, and one with a part below it
module _ (b p : List ℕ) (size : ℕ) (h : size ≤ length b) where
  kept_long : length (take size b) ≡ size
  kept_long = length-take-le size b h

  pub joined_first : size ≡ 0 → joined (take size b) p ≡ p
  unfolding joined is_empty
  joined_first e = rw e refl

  pub joined_later : 0 < size → joined (take size b) p ≡ take size b ++ slash ∷ p
  unfolding joined is_empty
  joined_later k = at (take size b) kept_long
    where
      at : (q : List ℕ) → length q ≡ size → (if is_empty q then p else q ++ slash ∷ p) ≡ q ++ slash ∷ p
      at [] e = absurd (omega arith)
      at (c ∷ q) e = refl

  pub length_joined : length (joined (take size b) p) ≡ end_below size (length p)
  length_joined = at size refl
    where
      at : (s : ℕ) → s ≡ size → length (joined (take size b) p) ≡ end_below size (length p)
      at zero e = rw (joined_first (sym e), end_first size (length p) (sym e)) refl
      at (suc s) e =
          let k : 0 < size = omega arith in
          rw (joined_later k, end_later size (length p) k) (omega (arith, length-append (take size b) (slash ∷ p), kept_long))

  pub put_first : size ≡ 0 → paste b 0 p (length p) ≡ put_below p size b
  unfolding put_below
  put_first e =
      let z : 0 + length p ≡ length p = omega arith in
      rw (joined_first e, end_first size (length p) e, take-length p, z) refl

  pub put_later : 0 < size → size + 1 + length p ≤ length b → paste (set b size slash) (size + 1) p (length p) ≡ put_below p size b
  unfolding put_below
  put_later k room =
      let e : size + suc (length p) ≡ size + 1 + length p = omega arith in
      ap (λ (l : List ℕ). paste l (size + 1) p (length p)) (paste_one b size slash (omega arith))
      ∙ sym (paste_append b size (slash ∷ []) p (omega arith))
      ∙ rw (take-length p, joined_later k, end_later size (length p) k, e) refl

  pub take_put : take (end_below size (length p)) (put_below p size b) ≡ joined (take size b) p
  unfolding put_below
  take_put = take_at (joined (take size b) p) (drop (end_below size (length p)) b) (end_below size (length p)) length_joined

  pub length_put : end_below size (length p) ≤ length b → length (put_below p size b) ≡ length b
  unfolding put_below
  length_put k =
      omega (arith, length-append (joined (take size b) p) (drop (end_below size (length p)) b), length_joined, length-drop (end_below size (length p)) b)
