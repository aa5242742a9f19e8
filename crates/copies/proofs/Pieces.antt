-- Pieces put one after another. Assumes nothing.
use mathlib.Core.List.{List, [], ◌∷◌, ◌++◌}
use mathlib.Core.Path.{◌≡◌, refl, ap, sym, ◌∙◌}
use Prim.Native.Nat.{ℕ, ◌+◌, ◌≤◌, ◌<◌}
use native.Mathlib.Numerals.{add-one}
use native.Mathlib.Omega.{arith}
use lib.ListN.{length, set, take, length-append}
use lib.Seq.{paste, paste-zero, length-paste, length-take-le, take-length, sets-eq}
use Rattle.laws.proofs.Lists.{paste_one, paste_append}
use Rattle.copies.specs.Appended.{Appends}

-- the bytes by another name
pub piece_of : {xs ys out out' : List ℕ} {at end : ℕ} → xs ≡ ys → Appends xs out at out' end → Appends ys out at out' end
piece_of {xs} {ys} {out} {out'} {at} {end} e p = rw e at p

-- the buffer is as long as before
pub piece_long : {bytes out out' : List ℕ} {at end : ℕ} → Appends bytes out at out' end → length out' ≡ length out
piece_long {bytes} {out} {out'} {at} p =
    let n : length bytes ≤ length bytes = omega arith in
    ap length p.leaves ∙ length-paste out at bytes (length bytes) p.fits n

-- nothing, one byte, two, and the first n of some bytes
pub piece_none : (out : List ℕ) (at : ℕ) → at ≤ length out → Appends [] out at out at
piece_none out at h = record { fits = omega arith; ends = omega arith; leaves = paste-zero out at [] }

pub piece_byte : (out : List ℕ) (at x : ℕ) → at < length out → Appends (x ∷ []) out at (set out at x) (at + 1)
piece_byte out at x h = record { fits = omega arith; ends = refl; leaves = paste_one out at x h }

pub piece_two : (out : List ℕ) (at x y : ℕ) → at + 2 ≤ length out → Appends (x ∷ y ∷ []) out at (set (set out at x) (at + 1) y) (at + 2)
piece_two out at x y h = record { fits = h; ends = refl; leaves = rw add-one (sets-eq (x ∷ y ∷ []) out at h) }

pub piece_first : (out s : List ℕ) (at n : ℕ) → n ≤ length s → at + n ≤ length out → Appends (take n s) out at (paste out at s n) (at + n)
piece_first out s at n h k =
    let e = length-take-le n s h in
    record { fits = omega arith; ends = omega arith; leaves = rw (take-length (take n s), e) refl }

-- one piece after another
pub then_piece : {xs ys out out₁ out₂ : List ℕ} {at end₁ end₂ : ℕ} → Appends xs out at out₁ end₁ → Appends ys out₁ end₁ out₂ end₂ → Appends (xs ++ ys) out at out₂ end₂
then_piece {xs} {ys} {out} {out₁} {out₂} {at} {end₁} {end₂} p q = record {
  fits = omega (arith, p.ends, q.fits, piece_long p, length-append xs ys);
  ends = omega (arith, p.ends, q.ends, length-append xs ys);
  leaves = q.leaves ∙ ap (λ (e : ℕ). paste out₁ e ys (length ys)) p.ends
      ∙ ap (λ (o : List ℕ). paste o (at + length xs) ys (length ys)) p.leaves ∙ sym (paste_append out at xs ys p.fits);
}

-- ---- Pieces put in a loop

-- `left` is still to be put, from `end` on, of what is to stand from `at` on
pub record Walk (whole out₀ : List ℕ) (at : ℕ) (left out : List ℕ) (end : ℕ) : Type 0 where
  pub place : end + length left ≡ at + length whole
  pub same_length : length out ≡ length out₀
  pub leaves : paste out end left (length left) ≡ paste out₀ at whole (length whole)

pub walk_begun : (whole out : List ℕ) (at : ℕ) → Walk whole out at whole out at
walk_begun whole out at = record { place = refl; same_length = refl; leaves = refl }

-- one piece more
pub walk_next : {whole out₀ left line more out out' : List ℕ} {at end end' : ℕ} → Walk whole out₀ at left out end → left ≡ line ++ more
    → Appends line out end out' end' → Walk whole out₀ at more out' end'
walk_next {whole} {out₀} {left} {line} {more} {out} {out'} {at} {end} {end'} w e p =
    let l : length left ≡ length line + length more = ap length e ∙ length-append line more in
    record {
      place = omega (arith, w.place, p.ends);
      same_length = piece_long p ∙ w.same_length;
      leaves = ap (λ (x : ℕ). paste out' x more (length more)) p.ends ∙ ap (λ (o : List ℕ). paste o (end + length line) more (length more)) p.leaves
          ∙ sym (paste_append out end line more p.fits) ∙ ap (λ (t : List ℕ). paste out end t (length t)) (sym e) ∙ w.leaves;
    }

pub walk_room : {whole out₀ left out : List ℕ} {at end : ℕ} (line more : List ℕ) → at + length whole ≤ length out₀ → Walk whole out₀ at left out end → left ≡ line ++ more
    → end + length line ≤ length out
walk_room line more h w e = omega (arith, h, w.place, w.same_length, ap length e ∙ length-append line more)

pub walk_ended : {whole out₀ left out : List ℕ} {at end : ℕ} → at + length whole ≤ length out₀ → Walk whole out₀ at left out end → left ≡ [] → Appends whole out₀ at out end
walk_ended {whole} {out₀} {left} {out} {at} {end} h w e =
    let l : length left ≡ 0 = ap length e in
    record {
      fits = h;
      ends = omega (arith, w.place);
      leaves = paste-zero out end [] ∙ ap (λ (t : List ℕ). paste out end t (length t)) (sym e) ∙ w.leaves;
    }
