-- Judging an archive: names that rise, and the tests together. Assumes nothing.
use mathlib.Core.Bool.{Bool, true, false, ◌&&◌, and-false, and_assoc}
use mathlib.Core.List.{List, [], ◌∷◌, map}
use mathlib.Core.Path.{◌≡◌, refl, sym, ◌∙◌}
use Prim.Native.Nat.{ℕ, ◌+◌, ◌≤◌, ◌<◌}
use mir.Syntax.{w8}
use mir.Val.{Fits}
use lib.Dec.{leb, ltb}
use lib.ListN.{length, drop, get_or}
use borrow.Author.Tests.{le-leb, lt-leb, lt-ltb}
use Rattle.definition.specs.Lists.{all, is_empty, lower}
use Rattle.definition.specs.Limits.{archive_bytes, archive_files}
use Rattle.definition.specs.Archive.{File, number_at, files_of, split, is_name_part, is_file_name, rising, laid_out}
use Rattle.laws.proofs.Lists.{not_both, get_d_all}
use Rattle.laws.proofs.Walked.{fits, fits_archive}
use Rattle.archive.specs.declared.Member.{Member}
use Rattle.archive.specs.Walk.{member_at, file_in, rising_from}
use Rattle.archive.proofs.Walk.{Walking, walking_turn, walking_end, length_files}

-- ---- Names that rise

shuffle : (a b c d : Bool) → (a && b && (c && d)) ≡ (a && c && (b && d))
shuffle true true c d = refl
shuffle true false true d = refl
shuffle true false false d = refl
shuffle false b c d = refl

rising_last : (last : List ℕ) (fs : List File) → rising_from last fs ≡ (all (λ f. is_file_name f.name) fs && rising (last ∷ map (λ f. f.name) fs))
unfolding rising_from all rising
rising_last last [] = refl
rising_last last (f ∷ fs) =
    rw (rising_last f.name fs)
    (shuffle (is_file_name f.name) (lower last f.name) (all (λ g. is_file_name g.name) fs) (rising (map (λ g. g.name) (f ∷ fs))))

name_some : (n : List ℕ) → is_file_name n ≡ true → lower [] n ≡ true
unfolding is_file_name split all is_name_part is_empty lower
name_some [] h = absurd (not_both h refl)
name_some (c ∷ n) h = refl

-- the first name stands above the empty one
rising_all : (fs : List File) → rising_from [] fs ≡ (all (λ f. is_file_name f.name) fs && rising (map (λ f. f.name) fs))
unfolding all rising
rising_all [] = rising_last [] []
rising_all (f ∷ fs) = rising_last [] (f ∷ fs) ∙ at (is_file_name f.name) refl
  where
    at : (b : Bool) → is_file_name f.name ≡ b
        → (b && all (λ g. is_file_name g.name) fs && (lower [] f.name && rising (map (λ g. g.name) (f ∷ fs))))
        ≡ (b && all (λ g. is_file_name g.name) fs && rising (map (λ g. g.name) (f ∷ fs)))
    at true e = rw (name_some f.name e) refl
    at false e = refl

module _ (last : List ℕ) {s : List ℕ} {count at j : ℕ} (w : Walking s count at j) where
  module _ (h : j < count) {m : Member} (e : m ≡ member_at s j at) where
    rising_turn : rising_from last (drop j (files_of s))
        ≡ (is_file_name (file_in s m).name && lower last (file_in s m).name && rising_from (file_in s m).name (drop (j + 1) (files_of s)))
    unfolding rising_from
    rising_turn = rw (walking_turn w h e) refl

    pub rising_bad : is_file_name (file_in s m).name ≡ false → rising_from last (drop j (files_of s)) ≡ false
    rising_bad n = rw (rising_turn, n) refl

    module _ (n : is_file_name (file_in s m).name ≡ true) where
      pub rising_low : lower last (file_in s m).name ≡ false → rising_from last (drop j (files_of s)) ≡ false
      rising_low l = rw (rising_turn, n, l) refl

      pub rising_next : lower last (file_in s m).name ≡ true
          → rising_from last (drop j (files_of s)) ≡ rising_from (file_in s m).name (drop (j + 1) (files_of s))
      rising_next l = rw (rising_turn, n, l) refl

  pub rising_end : count ≤ j → rising_from last (drop j (files_of s)) ≡ true
  unfolding rising_from
  rising_end h = rw (walking_end w h) refl

-- ---- An archive

-- what the borrow checker knows of a slice of bytes
pub bytes_all : (s : List ℕ) → ((i : ℕ) → Fits w8 (get_or s i 0)) → all (λ c. ltb c 256) s ≡ true
bytes_all s f = get_d_all (λ c. ltb c 256) s 0 (λ i h. lt-ltb (get_or s i 0) 256 (f i).fits)

module _ (s : List ℕ) where
  pub laid_long : archive_bytes < length s → laid_out s ≡ false
  unfolding laid_out
  laid_long h = rw (lt-leb (length s) archive_bytes h) refl

  module _ (bytes : all (λ c. ltb c 256) s ≡ true) where
    pub laid_unfit : fits s ≡ false → laid_out s ≡ false
    unfolding laid_out
    laid_unfit f = rw (sym (fits_archive s bytes) ∙ f, and-false (leb (length s) archive_bytes)) refl

    module _ (h : length s ≤ archive_bytes) (f : fits s ≡ true) (count : ℕ) (ec : count ≡ number_at s 0) where
      laid_is : laid_out s ≡ (leb count archive_files && rising_from [] (files_of s))
      unfolding laid_out
      laid_is =
          rw (le-leb (length s) archive_bytes h, sym (fits_archive s bytes) ∙ f, length_files s ∙ sym ec, rising_all (files_of s))
          (and_assoc (leb count archive_files) (all (λ g. is_file_name g.name) (files_of s)) (rising (map (λ g. g.name) (files_of s))))

      pub laid_many : archive_files < count → laid_out s ≡ false
      laid_many k = rw (laid_is, lt-leb count archive_files k) refl

      pub laid_few : count ≤ archive_files → laid_out s ≡ rising_from [] (files_of s)
      laid_few k = rw (laid_is, le-leb count archive_files k) refl
