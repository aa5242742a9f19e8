-- The layout of an archive by walking its lengths, and that it is the layout of the definition. Assumes nothing.
use mathlib.Core.Bool.{Bool, true, ◌&&◌}
use mathlib.Core.List.{List, [], ◌∷◌, ◌++◌}
use mathlib.Core.Path.{◌≡◌, refl, sym, ap, ◌∙◌}
use Prim.Native.Nat.{ℕ, zero, suc, ◌+◌, ◌*◌, ◌/◌, ◌%◌, ◌≤◌, ◌<◌}
use native.Mathlib.Omega.{arith}
use lib.Dec.{leb, ltb}
use lib.ListN.{length, take, drop, length-append, length-drop, take-append-drop}
use lib.Seq.{length-take-le, take-add, drop_at}
use borrow.Author.Tests.{leb-true, le-leb, ltb-true}
use Rattle.definition.specs.Lists.{all, is_empty, same}
use Rattle.definition.specs.Archive.{File, lengths_of, bodies_of, archive_of, number_at, files_from, files_of}
use Rattle.laws.proofs.Lists.{not_both, and_true, and_both, both_ways, same_eq, eq_same}
use Rattle.laws.proofs.Archive.{halves, length_archive, archive_bodies}

-- n files, whose lengths stand in `lengths` and whose names and bodies are exactly `bodies`
unfoldable pub fits_from : ℕ → List ℕ → List ℕ → Bool
fits_from zero lengths bodies = is_empty bodies
fits_from (suc n) lengths bodies =
    leb (number_at lengths 0 + number_at lengths 2) (length bodies) && fits_from n (drop 4 lengths) (drop (number_at lengths 0 + number_at lengths 2) bodies)

unfoldable pub fits : List ℕ → Bool
fits s = leb 2 (length s) && leb (2 + 4 * number_at s 0) (length s) && fits_from (number_at s 0) (drop 2 s) (drop (2 + 4 * number_at s 0) s)

-- ---- What fits is the bytes of its files

low_half : (a b : ℕ) → a < 256 → (a + 256 * b) % 256 ≡ a
low_half a b h = omega arith

high_half : (a b : ℕ) → a < 256 → (a + 256 * b) / 256 ≡ b
high_half a b h = omega arith

pub number_from : (n : ℕ) (lengths bodies : List ℕ) → length (files_from n lengths bodies) ≡ n
unfolding files_from
number_from zero lengths bodies = refl
number_from (suc n) lengths bodies = ap suc (number_from n (drop 4 lengths) (drop (number_at lengths 0 + number_at lengths 2) bodies))

bodies_from : (n : ℕ) (lengths bodies : List ℕ) → fits_from n lengths bodies ≡ true → bodies_of (files_from n lengths bodies) ≡ bodies
unfolding fits_from files_from bodies_of is_empty
bodies_from zero lengths [] h = refl
bodies_from zero lengths (c ∷ bodies) h = absurd (not_both h refl)
bodies_from (suc n) lengths bodies h =
    let a = number_at lengths 0 in
    let b = number_at lengths 2 in
    let p = and_true (leb (a + b) (length bodies)) (fits_from n (drop 4 lengths) (drop (a + b) bodies)) h in
    rw (← take-add a b bodies, bodies_from n (drop 4 lengths) (drop (a + b) bodies) p.1) (take-append-drop (a + b) bodies)

lengths_from : (n : ℕ) (lengths bodies : List ℕ) → all (λ c. ltb c 256) lengths ≡ true → 4 * n ≤ length lengths → fits_from n lengths bodies ≡ true
    → lengths_of (files_from n lengths bodies) ≡ take (4 * n) lengths
unfolding fits_from files_from lengths_of all
lengths_from zero lengths bodies c k h = refl
lengths_from (suc n) [] bodies c k h = absurd (omega arith)
lengths_from (suc n) (w ∷ []) bodies c k h = absurd (omega arith)
lengths_from (suc n) (w ∷ x ∷ []) bodies c k h = absurd (omega arith)
lengths_from (suc n) (w ∷ x ∷ y ∷ []) bodies c k h = absurd (omega arith)
lengths_from (suc n) (w ∷ x ∷ y ∷ z ∷ rest) bodies c k h =
    let a = w + 256 * x in
    let b = y + 256 * z in
    let cw = and_true (ltb w 256) (all (λ d. ltb d 256) (x ∷ y ∷ z ∷ rest)) c in
    let cx = and_true (ltb x 256) (all (λ d. ltb d 256) (y ∷ z ∷ rest)) cw.1 in
    let cy = and_true (ltb y 256) (all (λ d. ltb d 256) (z ∷ rest)) cx.1 in
    let cz = and_true (ltb z 256) (all (λ d. ltb d 256) rest) cy.1 in
    let p = and_true (leb (a + b) (length bodies)) (fits_from n rest (drop (a + b) bodies)) h in
    let l = leb-true (a + b) (length bodies) p.0 in
    let e : 4 * suc n ≡ suc (suc (suc (suc (4 * n)))) = omega arith in
    rw (
      length-take-le a bodies (omega arith),
      length-take-le b (drop a bodies) (simp length-drop (omega arith)),
      e,
      low_half w x (ltb-true w 256 cw.0),
      high_half w x (ltb-true w 256 cw.0),
      low_half y z (ltb-true y 256 cy.0),
      high_half y z (ltb-true y 256 cy.0),
      lengths_from n rest (drop (a + b) bodies) cz.1 (omega arith) p.1,
    ) refl

fits_exact : (s : List ℕ) → all (λ c. ltb c 256) s ≡ true → fits s ≡ true → archive_of (files_of s) ≡ s
unfolding fits archive_of files_of all
fits_exact [] c h = absurd (not_both h refl)
fits_exact (x ∷ []) c h = absurd (not_both h refl)
fits_exact (x ∷ y ∷ t) c h =
    let n = x + 256 * y in
    let cx = and_true (ltb x 256) (all (λ d. ltb d 256) (y ∷ t)) c in
    let cy = and_true (ltb y 256) (all (λ d. ltb d 256) t) cx.1 in
    let p = and_true (leb 2 (length (x ∷ y ∷ t)) && leb (2 + 4 * n) (length (x ∷ y ∷ t))) (fits_from n t (drop (2 + 4 * n) (x ∷ y ∷ t))) h in
    let q = and_true (leb 2 (length (x ∷ y ∷ t))) (leb (2 + 4 * n) (length (x ∷ y ∷ t))) p.0 in
    let l = leb-true (2 + 4 * n) (length (x ∷ y ∷ t)) q.1 in
    let e : 2 + 4 * n ≡ suc (suc (4 * n)) = omega arith in
    let b = drop (2 + 4 * n) (x ∷ y ∷ t) in
    rw (
      number_from n t b,
      low_half x y (ltb-true x 256 cx.0),
      high_half x y (ltb-true x 256 cx.0),
      lengths_from n t b cy.1 (omega arith) p.1,
      bodies_from n t b p.1,
      e,
      take-append-drop (4 * n) t,
    ) refl

-- ---- The bytes of files fit

files_fit_from : (fs : List File) (xs : List ℕ) → fits_from (length fs) (lengths_of fs ++ xs) (bodies_of fs) ≡ true
unfolding fits_from lengths_of bodies_of is_empty
files_fit_from [] xs = refl
files_fit_from (f ∷ fs) xs =
    rw (halves (length f.name), halves (length f.body), drop_at (f.name ++ f.body) (bodies_of fs) (length f.name + length f.body) (length-append f.name f.body))
    (and_both (le-leb (length f.name + length f.body) (length (f.name ++ f.body ++ bodies_of fs)) (simp length-append (omega arith))) (files_fit_from fs xs))

pub files_fit : (fs : List File) → fits (archive_of fs) ≡ true
unfolding fits archive_of
files_fit fs =
    let long = length_archive fs in
    rw (halves (length fs), archive_bodies fs)
    (and_both (and_both (le-leb 2 (length (archive_of fs)) (omega arith)) (le-leb (2 + 4 * length fs) (length (archive_of fs)) (omega arith)))
    (files_fit_from fs (bodies_of fs)))

-- ---- Both layouts are one

pub fits_archive : (s : List ℕ) → all (λ c. ltb c 256) s ≡ true → fits s ≡ same (archive_of (files_of s)) s
fits_archive s c =
    both_ways (fits s) (same (archive_of (files_of s)) s) (λ h. eq_same (archive_of (files_of s)) s (fits_exact s c h))
    (λ h. ap fits (sym (same_eq (archive_of (files_of s)) s h)) ∙ files_fit (files_of s))
