-- The files of an archive, with one more. Assumes nothing.
use Rattle.std.specs.Prelude.{Ok, Err, if◌then◌else◌}
use mathlib.Core.Bool.{Bool, true, false, not}
use mathlib.Core.List.{List, [], ◌∷◌, ◌++◌, append_assoc}
use mathlib.Core.Path.{◌≡◌, refl, sym, ap, ◌∙◌}
use Prim.Native.Nat.{ℕ, suc, ◌+◌, ◌-◌, ◌≤◌, ◌<◌}
use native.Mathlib.Omega.{arith}
use lib.Dec.{leb, ltb}
use lib.ListN.{length, take, drop, length-append, length-drop}
use lib.Seq.{paste, length-take-le, length-paste, take_all, take_at}
use borrow.Author.Tests.{leb-true, le-leb, lt-leb, le-ltb, lt-ltb, ltb-false, leb-false, not-false}
use Rattle.definition.specs.Lists.{all, lower}
use Rattle.definition.specs.Limits.{archive_bytes, archive_files, file_name_bytes}
use Rattle.definition.specs.Archive.{File, bytes_of, lengths_of, bodies_of, archive_of, files_of, split, is_name_part, is_file_name, rising, laid_out}
use Rattle.definition.specs.Evaluation.{definition}
use Rattle.laws.proofs.Lists.{not_both, and_true, and_both, not_lower_equal, all_map}
use Rattle.laws.proofs.Archive.{files_archive, laid_out_says, says_laid_out, rising_first, rising_rest, rising_cons}
use Rattle.archive.specs.Walk.{lengths_at, name_start}
use Rattle.archive.proofs.Walk.{bodies_append, part_size}
use Rattle.archive_slot.specs.declared.Slot.{Slot}
use Rattle.archive_slot.specs.Slots.{below, on_it, place_for}
use Rattle.archive_slot.proofs.Slots.{names, on_passed, on_same, below_most}
use Rattle.archive_add.specs.declared.AddError.{AddError}
use Rattle.archive_add.specs.declared.AddError.TheVariants.{NotAName, Again, TooMany, TooLarge}
use Rattle.archive_add.specs.Adding.{inserted, archive_with, Addition, addition_of, adding}
use Rattle.archive_write.proofs.Stretches.{lengths_append, stretch_sizes, stretch_lengths, stretch_middle, stretch_last, starts_low, written_first, written_on, written_all}

-- ---- Files with one more

pub inserted_cut : (f : File) (fs : List File) → inserted f fs ≡ take (below f.name fs) fs ++ f ∷ drop (below f.name fs) fs
unfolding inserted below
inserted_cut f [] = refl
inserted_cut f (g ∷ gs) = at (lower g.name f.name) (inserted_cut f gs)
  where
    at : (b : Bool) → inserted f gs ≡ take (below f.name gs) gs ++ f ∷ drop (below f.name gs) gs
        → (if b then g ∷ inserted f gs else f ∷ g ∷ gs)
        ≡ take (if b then suc (below f.name gs) else 0) (g ∷ gs) ++ f ∷ drop (if b then suc (below f.name gs) else 0) (g ∷ gs)
    at true ih = ap (λ (l : List File). g ∷ l) ih
    at false ih = refl

all_inserted : (p : File → Bool) (f : File) (fs : List File) → p f ≡ true → all p fs ≡ true → all p (inserted f fs) ≡ true
unfolding inserted all
all_inserted p f [] h k = rw h refl
all_inserted p f (g ∷ gs) h k =
    let a = and_true (p g) (all p gs) k in
    at (lower g.name f.name) (and_both a.0 (all_inserted p f gs h a.1))
  where
    at : (b : Bool) → all p (g ∷ inserted f gs) ≡ true → all p (if b then g ∷ inserted f gs else f ∷ g ∷ gs) ≡ true
    at true ih = ih
    at false ih = and_both h k

rising_inserted : (f : File) (fs : List File) → rising (names fs) ≡ true → on_it f.name fs ≡ false → rising (names (inserted f fs)) ≡ true
unfolding inserted rising
rising_inserted f [] h k = refl
rising_inserted f (g ∷ gs) h k = at (lower g.name f.name) refl (rising_inserted f gs (rising_rest g.name (names gs) h))
  where
    above : all (λ e. lower g.name e.name) gs ≡ true
    above = rw (all_map (lower g.name) (λ e. e.name) gs) at (rising_first g.name (names gs) h)

    first : (b : Bool) → lower f.name g.name ≡ b → lower g.name f.name ≡ false → lower f.name g.name ≡ true
    first true e l = e
    first false e l = absurd (not_both (on_same f.name g gs (not_lower_equal g.name f.name l e)) k)

    at : (b : Bool) → lower g.name f.name ≡ b → (on_it f.name gs ≡ false → rising (names (inserted f gs)) ≡ true)
        → rising (names (if b then g ∷ inserted f gs else f ∷ g ∷ gs)) ≡ true
    at true e ih =
        rising_cons g.name (names (inserted f gs))
        (rw (all_map (lower g.name) (λ x. x.name) (inserted f gs)) (all_inserted (λ x. lower g.name x.name) f gs e above))
        (ih (sym (on_passed f.name g gs e) ∙ k))
    at false e ih = and_both (first (lower f.name g.name) refl e) h

-- ---- The archive with a file more

module _ (s : List ℕ) (h : laid_out s ≡ true) (f : File) where
  abbrev j : ℕ
  j = below f.name (files_of s)

  k : j ≤ length (files_of s)
  k = below_most f.name (files_of s)

  length_more : length (inserted f (files_of s)) ≡ length (files_of s) + 1
  length_more =
      ap length (inserted_cut f (files_of s)) ∙ length-append (take j (files_of s)) (f ∷ drop j (files_of s))
      ∙ omega (arith, length-take-le j (files_of s) k, length-drop j (files_of s), k)

  module _ (slot : Slot) (es : slot ≡ place_for f.name s) (count : ℕ) (ec : count ≡ length (files_of s)) where
    index_is : slot.index ≡ j
    unfolding place_for
    index_is = ap (λ x. x.index) es

    at_is : slot.at ≡ name_start j s
    unfolding place_for
    at_is = ap (λ x. x.at) es

    pub slot_most : (slot.index ≤ count) × (lengths_at count ≤ slot.at) × (slot.at ≤ length s)
    slot_most =
        (omega (arith, k, index_is, ec), omega (arith, at_is, ec, starts_low s j), omega (arith, at_is, stretch_sizes s h j j k k))

    abbrev parts : List ℕ
    parts =
        bytes_of (count + 1) ++ take (lengths_at slot.index - 2) (drop 2 s) ++ (bytes_of (length f.name) ++ bytes_of (length f.body))
        ++ take (slot.at - lengths_at slot.index) (drop (lengths_at slot.index) s) ++ f.name ++ f.body ++ take (length s - slot.at) (drop slot.at s)

    parts_are : parts ≡ archive_with f s
    unfolding archive_with archive_of lengths_of bodies_of
    parts_are =
        let fs = files_of s in
        let c : count + 1 ≡ length (take j fs ++ f ∷ drop j fs) = sym (ap length (sym (inserted_cut f fs)) ∙ length_more ∙ omega (arith, ec)) in
        rw (
          index_is,
          at_is,
          c,
          stretch_lengths s h j j k k,
          stretch_middle s h j j k k,
          stretch_last s h j j k k,
          inserted_cut f fs,
          lengths_append (take j fs) (f ∷ drop j fs),
          bodies_append (take j fs) (f ∷ drop j fs),
        )
        (regroup (bytes_of (length (take j fs ++ f ∷ drop j fs))) (lengths_of (take j fs)) (bytes_of (length f.name) ++ bytes_of (length f.body)) (lengths_of (drop j fs)) (bodies_of (take j fs)) f.name f.body (bodies_of (drop j fs)))
      where
        regroup : (a b c d e n m t : List ℕ) → a ++ b ++ c ++ (d ++ e) ++ n ++ m ++ t ≡ a ++ (b ++ (c ++ d)) ++ (e ++ (n ++ m ++ t))
        regroup a b c d e n m t = simp append_assoc

    -- seven stretches, each where the one before it ends
    pub insert_written : (d₀ d₁ d₂ d₃ d₄ d₅ d₆ d₇ : List ℕ) → d₁ ≡ paste d₀ 0 (bytes_of (count + 1)) 2
        → d₂ ≡ paste d₁ 2 (take (lengths_at slot.index - 2) (drop 2 s)) (lengths_at slot.index - 2)
        → d₃ ≡ paste d₂ (lengths_at slot.index) (bytes_of (length f.name) ++ bytes_of (length f.body)) 4
        → d₄ ≡ paste d₃ (lengths_at slot.index + 4) (take (slot.at - lengths_at slot.index) (drop (lengths_at slot.index) s)) (slot.at - lengths_at slot.index)
        → d₅ ≡ paste d₄ (slot.at + 4) f.name (length f.name) → d₆ ≡ paste d₅ (slot.at + 4 + length f.name) f.body (length f.body)
        → d₇ ≡ paste d₆ (slot.at + 4 + length f.name + length f.body) (take (length s - slot.at) (drop slot.at s)) (length s - slot.at)
        → (length s + (4 + length f.name + length f.body) ≡ length (archive_with f s))
        × (d₇ ≡ paste d₀ 0 (archive_with f s) (length s + (4 + length f.name + length f.body)))
    insert_written d₀ d₁ d₂ d₃ d₄ d₅ d₆ d₇ e₁ e₂ e₃ e₄ e₅ e₆ e₇ =
        let q = slot_most in
        let i = slot.index in
        let at = slot.at in
        let x = length f.name in
        let y = length f.body in
        let la : lengths_at i ≡ 2 + (lengths_at i - 2) = omega arith in
        let lb : at + 4 ≡ lengths_at i + 4 + (at - lengths_at i) = omega arith in
        let lc : length s + (4 + x + y) ≡ at + 4 + x + y + (length s - at) = omega arith in
        let w₁ = written_on (written_first d₀) (bytes_of (count + 1)) d₁ 2 2 refl refl e₁ in
        let w₂ = written_on w₁ (take (lengths_at i - 2) (drop 2 s)) d₂ (lengths_at i - 2) (lengths_at i) (sym (part_size s 2 (lengths_at i) (omega arith))) la e₂ in
        let w₃ = written_on w₂ (bytes_of x ++ bytes_of y) d₃ 4 (lengths_at i + 4) refl refl e₃ in
        let w₄ = written_on w₃ (take (at - lengths_at i) (drop (lengths_at i) s)) d₄ (at - lengths_at i) (at + 4) (sym (part_size s (lengths_at i) at q.2)) lb e₄ in
        let w₅ = written_on w₄ f.name d₅ x (at + 4 + x) refl refl e₅ in
        let w₆ = written_on w₅ f.body d₆ y (at + 4 + x + y) refl refl e₆ in
        let w₇ = written_on w₆ (take (length s - at) (drop at s)) d₇ (length s - at) (length s + (4 + x + y)) (sym (part_size s at (length s) (omega arith))) lc e₇ in
        written_all w₇ (archive_with f s) parts_are

  pub length_with : length (archive_with f s) ≡ length s + (4 + length f.name + length f.body)
  length_with = sym (insert_written (place_for f.name s) refl (length (files_of s)) refl [] _ _ _ _ _ _ _ refl refl refl refl refl refl refl).0

  inserted_laid : is_file_name f.name ≡ true → on_it f.name (files_of s) ≡ false → length (files_of s) < archive_files
      → length (archive_with f s) ≤ archive_bytes → laid_out (archive_with f s) ≡ true
  unfolding archive_with
  inserted_laid a b c d =
      let r = laid_out_says s h in
      let e = files_archive (inserted f (files_of s)) in
      says_laid_out (archive_of (inserted f (files_of s))) (record {
        short = d;
        exact = ap archive_of e;
        few = rw e (omega (arith, length_more));
        named = rw e (all_inserted (λ g. is_file_name g.name) f (files_of s) a r.named);
        rises = rw e (rising_inserted f (files_of s) r.rises b);
      })

  pub name_short : is_file_name f.name ≡ true → length f.name ≤ file_name_bytes
  unfolding is_file_name
  name_short a = leb-true (length f.name) file_name_bytes (and_true (leb (length f.name) file_name_bytes) (all is_name_part (split f.name)) a).0

  -- ---- The first reason why there is none, or the archive

  module _ (out : List ℕ) where
    pub adding_name : is_file_name f.name ≡ false → addition_of (Err NotAName) out ≡ adding f s out
    unfolding adding
    adding_name a = rw a refl

    module _ (a : is_file_name f.name ≡ true) where
      pub adding_again : on_it f.name (files_of s) ≡ true → addition_of (Err Again) out ≡ adding f s out
      unfolding adding
      adding_again b = rw (a, b) refl

      module _ (b : on_it f.name (files_of s) ≡ false) where
        pub adding_many : archive_files ≤ length (files_of s) → addition_of (Err TooMany) out ≡ adding f s out
        unfolding adding
        adding_many c = rw (a, b, le-leb archive_files (length (files_of s)) c) refl

        module _ (c : length (files_of s) < archive_files) where
          pub adding_large : archive_bytes < length s + (4 + length f.name + length f.body) → addition_of (Err TooLarge) out ≡ adding f s out
          unfolding adding
          adding_large d = rw (a, b, lt-leb archive_files (length (files_of s)) c, lt-ltb archive_bytes (length (archive_with f s)) (omega (arith, length_with))) refl

          module _ (d : length s + (4 + length f.name + length f.body) ≤ archive_bytes) where
            pub adding_short : length out < length s + (4 + length f.name + length f.body) → addition_of (Err TooLarge) out ≡ adding f s out
            unfolding adding
            adding_short g =
                rw (
                  a,
                  b,
                  lt-leb archive_files (length (files_of s)) c,
                  le-ltb archive_bytes (length (archive_with f s)) (omega (arith, length_with)),
                  lt-ltb (length out) (length (archive_with f s)) (omega (arith, length_with)),
                ) refl

            pub adding_laid : length s + (4 + length f.name + length f.body) ≤ length out → (n : ℕ) (t : List ℕ) → n ≡ length (archive_with f s)
                → t ≡ paste out 0 (archive_with f s) n → addition_of (Ok n) t ≡ adding f s out
            unfolding adding
            adding_laid g n t en et =
                rw (
                  et,
                  en,
                  a,
                  b,
                  lt-leb archive_files (length (files_of s)) c,
                  le-ltb archive_bytes (length (archive_with f s)) (omega (arith, length_with)),
                  le-ltb (length out) (length (archive_with f s)) (omega (arith, length_with)),
                ) refl

-- ---- What a caller learns

-- the bytes that hold an archive with a file more
pub record Holding (f : File) (s out : List ℕ) (n : ℕ) : Type 0 where
  pub inside : n ≤ length out
  pub bytes : take n out ≡ archive_with f s
  pub laid : laid_out (take n out) ≡ true

module _ (f : File) (s out o : List ℕ) (n : ℕ) (h : laid_out s ≡ true) where
  held : is_file_name f.name ≡ true → on_it f.name (files_of s) ≡ false → length (files_of s) < archive_files → length (archive_with f s) ≤ archive_bytes
      → length (archive_with f s) ≤ length out → addition_of (Ok n) o ≡ addition_of (Ok (length (archive_with f s))) (paste out 0 (archive_with f s) (length (archive_with f s)))
      → Holding f s o n
  held a b c d r e =
      let w = archive_with f s in
      let en : n ≡ length w = (let g = ap (λ x. x.answer) e in cc) in
      let eo : o ≡ paste out 0 w (length w) = ap (λ x. x.out) e in
      let t : take n o ≡ w = rw (en, eo) (take_at (take (length w) w) (drop (0 + length w) out) (length w) (length-take-le (length w) w (omega arith)) ∙ take_all (length w) w (omega arith)) in
      record {
        inside = omega (arith, en, ap length eo, length-paste out 0 w (length w) (omega arith) (omega arith));
        bytes = t;
        laid = rw t (inserted_laid s h f a b c d);
      }

  -- a reason that does not hold is passed over
  passed : (b : Bool) (a : AddError) (x : Addition) → addition_of (Ok n) o ≡ (if b then addition_of (Err a) out else x) → (b ≡ false) × (addition_of (Ok n) o ≡ x)
  passed true a x e = let r = ap (λ y. y.answer) e in (cc, cc)
  passed false a x e = (refl, e)

  -- what was added to an archive is one
  pub added_holds : addition_of (Ok n) o ≡ adding f s out → Holding f s o n
  unfolding adding
  added_holds e =
      let r₁ = passed (not (is_file_name f.name)) NotAName _ e in
      let r₂ = passed (on_it f.name (files_of s)) Again _ r₁.1 in
      let r₃ = passed (leb archive_files (length (files_of s))) TooMany _ r₂.1 in
      let r₄ = passed (ltb archive_bytes (length (archive_with f s))) TooLarge _ r₃.1 in
      let r₅ = passed (ltb (length out) (length (archive_with f s))) TooLarge _ r₄.1 in
      held (not-false (is_file_name f.name) r₁.0) r₂.0 (leb-false archive_files (length (files_of s)) r₃.0) (ltb-false archive_bytes (length (archive_with f s)) r₄.0)
      (ltb-false (length out) (length (archive_with f s)) r₅.0) r₅.1

-- an archive of no files
pub none_laid : laid_out (0 ∷ 0 ∷ []) ≡ true
unfolding definition
none_laid = refl
