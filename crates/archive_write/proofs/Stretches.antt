-- The stretches of an archive, and one stretch written after another. Assumes nothing.
use mathlib.Core.Bool.{true}
use mathlib.Core.List.{List, [], ◌∷◌, ◌++◌, append_assoc, append-nil}
use mathlib.Core.Path.{◌≡◌, refl, sym, ap, ◌∙◌}
use Prim.Native.Nat.{ℕ, ◌+◌, ◌-◌, ◌*◌, ◌≤◌, ◌<◌}
use native.Mathlib.Numerals.{add-one}
use native.Mathlib.Omega.{arith}
use lib.ListN.{length, take, drop, length-append, length-drop, take-append-drop}
use lib.Seq.{paste, take-suc, take_at, take_all, take-length, drop_at, drop-drop, drop-append-add, length-take-le}
use Rattle.definition.specs.Archive.{File, bytes_of, lengths_of, bodies_of, archive_of, files_of, laid_out}
use Rattle.laws.proofs.Archive.{length_lengths, laid_out_archive, file_at}
use Rattle.archive.specs.Walk.{lengths_at, name_start}
use Rattle.archive.proofs.Walk.{bodies_append}

-- ---- The bytes of files one after another

pub lengths_append : (fs gs : List File) → lengths_of (fs ++ gs) ≡ lengths_of fs ++ lengths_of gs
unfolding lengths_of
lengths_append [] gs = refl
lengths_append (f ∷ fs) gs = rw (lengths_append fs gs) refl

-- a stretch of a list
part_at_lem : (p x q : List ℕ) (a n : ℕ) → length p ≡ a → length x ≡ n → take n (drop a (p ++ (x ++ q))) ≡ x
part_at_lem p x q a n h k = rw (drop_at p (x ++ q) a h) (take_at x q n k)

module _ (s : List ℕ) (h : laid_out s ≡ true) where
  abbrev fs : List File
  fs = files_of s

  regroup : (a b c d e : List ℕ) → a ++ (b ++ c) ++ (d ++ e) ≡ a ++ (b ++ ((c ++ d) ++ e))
  regroup a b c d e = simp append_assoc

  -- cut in the lengths before file i, and in the names and bodies before file j
  cut : (i j : ℕ) → s ≡ bytes_of (length fs) ++ (lengths_of (take i fs) ++ ((lengths_of (drop i fs) ++ bodies_of (take j fs)) ++ bodies_of (drop j fs)))
  unfolding archive_of
  cut i j =
      let l : lengths_of fs ≡ lengths_of (take i fs) ++ lengths_of (drop i fs) = ap lengths_of (sym (take-append-drop i fs)) ∙ lengths_append (take i fs) (drop i fs) in
      let b : bodies_of fs ≡ bodies_of (take j fs) ++ bodies_of (drop j fs) = ap bodies_of (sym (take-append-drop j fs)) ∙ bodies_append (take j fs) (drop j fs) in
      sym (laid_out_archive s h)
      ∙ ap (λ x. bytes_of (length fs) ++ x ++ bodies_of fs) l
      ∙ ap (λ x. bytes_of (length fs) ++ (lengths_of (take i fs) ++ lengths_of (drop i fs)) ++ x) b
      ∙ regroup (bytes_of (length fs)) (lengths_of (take i fs)) (lengths_of (drop i fs)) (bodies_of (take j fs)) (bodies_of (drop j fs))

  module _ (i j : ℕ) (ki : i ≤ length fs) (kj : j ≤ length fs) where
    before_long : length (lengths_of (take i fs)) ≡ 4 * i
    before_long = length_lengths (take i fs) ∙ ap (λ x. 4 * x) (length-take-le i fs ki)

    after_long : length (lengths_of (drop i fs)) + 4 * i ≡ 4 * length fs
    after_long = omega (arith, length_lengths (drop i fs), length-drop i fs)

    middle_long : length (lengths_of (drop i fs) ++ bodies_of (take j fs)) + lengths_at i ≡ name_start j s
    unfolding name_start
    middle_long = omega (arith, length-append (lengths_of (drop i fs)) (bodies_of (take j fs)), after_long)

    pub stretch_sizes : length s ≡ name_start j s + length (bodies_of (drop j fs))
    stretch_sizes = omega (arith, simp length-append at (ap length (cut i j)), middle_long, before_long, length-append (lengths_of (drop i fs)) (bodies_of (take j fs)))

    pub stretch_lengths : take (lengths_at i - 2) (drop 2 s) ≡ lengths_of (take i fs)
    stretch_lengths =
        ap (λ t. take (lengths_at i - 2) (drop 2 t)) (cut i j)
        ∙ part_at_lem (bytes_of (length fs)) (lengths_of (take i fs)) ((lengths_of (drop i fs) ++ bodies_of (take j fs)) ++ bodies_of (drop j fs)) 2 (lengths_at i - 2) refl (omega (arith, before_long))

    pub stretch_middle : take (name_start j s - lengths_at i) (drop (lengths_at i) s) ≡ lengths_of (drop i fs) ++ bodies_of (take j fs)
    stretch_middle =
        ap (λ t. take (name_start j s - lengths_at i) (drop (lengths_at i) t)) (cut i j)
        ∙ part_at_lem (bytes_of (length fs) ++ lengths_of (take i fs)) (lengths_of (drop i fs) ++ bodies_of (take j fs)) (bodies_of (drop j fs)) (lengths_at i) (name_start j s - lengths_at i)
        (omega (arith, before_long)) (omega (arith, middle_long))

    pub stretch_last : take (length s - name_start j s) (drop (name_start j s) s) ≡ bodies_of (drop j fs)
    stretch_last =
        let p = bytes_of (length fs) ++ (lengths_of (take i fs) ++ (lengths_of (drop i fs) ++ bodies_of (take j fs))) in
        let e : s ≡ p ++ (bodies_of (drop j fs) ++ []) = cut i j ∙ simp (append_assoc, append-nil) in
        let l : length p ≡ name_start j s = omega (arith, length-append (lengths_of (take i fs)) (lengths_of (drop i fs) ++ bodies_of (take j fs)), before_long, middle_long) in
        ap (λ t. take (length s - name_start j s) (drop (name_start j s) t)) e
        ∙ part_at_lem p (bodies_of (drop j fs)) [] (name_start j s) (length s - name_start j s) l (omega (arith, stretch_sizes))

pub starts_low : (s : List ℕ) (j : ℕ) → lengths_at (length (files_of s)) ≤ name_start j s
unfolding name_start
starts_low s j = omega arith

pub start_next : (s : List ℕ) (j : ℕ) → j < length (files_of s) → name_start (j + 1) s ≡ name_start j s + (length (file_at j (files_of s)).name + length (file_at j (files_of s)).body)
unfolding name_start bodies_of
start_next s j h =
    let fs = files_of s in
    let f = file_at j fs in
    let more : take (j + 1) fs ≡ take j fs ++ f ∷ [] = rw add-one (take-suc fs j (record { name = []; body = [] }) h) in
    omega (arith, ap (λ gs. length (bodies_of gs)) more, ap length (bodies_append (take j fs) (f ∷ [])), length-append (bodies_of (take j fs)) (bodies_of (f ∷ [])), length-append (f.name ++ f.body) [], length-append f.name f.body)

-- ---- Writing one stretch after another

-- p was written over the front of d, up to `at`, and e is what is there now
pub record Written (d p e : List ℕ) (at : ℕ) : Type 0 where
  pub now_is : e ≡ p ++ drop at d
  pub size : length p ≡ at

pub written_first : (d : List ℕ) → Written d [] d 0
written_first d = record { now_is = refl; size = refl }

paste_on : (d p x : List ℕ) (at : ℕ) → length p ≡ at → paste (p ++ drop at d) at x (length x) ≡ p ++ x ++ drop (at + length x) d
paste_on d p x at h =
    let e : drop (at + length x) (p ++ drop at d) ≡ drop (at + length x) d = rw (← h) (drop-append-add p (drop (length p) d) (length x) ∙ drop-drop (length x) (length p) d) in
    rw (take_at p (drop at d) at h, take-length x, e) refl

pub written_on : {d p e : List ℕ} {at : ℕ} → Written d p e at → (x f : List ℕ) (n next : ℕ) → n ≡ length x → next ≡ at + n → f ≡ paste e at x n
    → Written d (p ++ x) f next
written_on {d} {p} {e} {at} w x f n next en ex q =
    let l : at + length x ≡ next = omega arith in
    record {
      now_is =
          q ∙ ap (λ t. paste t at x n) w.now_is
          ∙ ap (λ k. paste (p ++ drop at d) at x k) en
          ∙ paste_on d p x at w.size
          ∙ ap (λ k. p ++ x ++ drop k d) l;
      size = length-append p x ∙ omega (arith, w.size);
    }

-- all of it, once what was written is known
pub written_all : {d p e : List ℕ} {n : ℕ} → Written d p e n → (q : List ℕ) → p ≡ q → (n ≡ length q) × (e ≡ paste d 0 q n)
written_all {d} {p} {e} {n} w q h =
    let l : n ≡ length q = sym w.size ∙ ap length h in
    let z : 0 + n ≡ n = omega arith in
    (l, w.now_is ∙ rw (h, z, take_all n q (omega arith)) refl)
