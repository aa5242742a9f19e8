-- The three cases of a place, and how long it is at most. Assumes nothing.
use mathlib.Core.Bool.{true}
use mathlib.Core.List.{List, []}
use mathlib.Core.Path.{◌≡◌, refl, sym, ap, ◌∙◌}
use Prim.Native.Nat.{ℕ, ◌-◌, ◌≤◌, ◌<◌}
use native.Mathlib.Omega.{arith}
use native.Mathlib.Decide.{dec_lt}
use lib.Dec.{leb}
use lib.ListN.{length, take, drop, get_or}
use borrow.Author.Tests.{eq-eqb, ne_eqb, lt-ltb, le-ltb, leb-true}
use Rattle.definition.specs.Lists.{ascii, all}
use Rattle.definition.specs.Limits.{file_name_bytes}
use Rattle.definition.specs.Archive.{File, files_of, laid_out, is_name_part, split, is_file_name}
use Rattle.laws.proofs.Lists.{and_true, all_get_d}
use Rattle.laws.proofs.Archive.{laid_out_says}
use Rattle.archive.specs.declared.Member.{Member}
use Rattle.archive.specs.Walk.{name_start, member_at, file_in}
use Rattle.archive.proofs.Walk.{member_file}
use Rattle.places.specs.Places.{file_told}

abbrev none : File
none = record { name = []; body = [] }

pub place_text : (fs : List File) (origin : ℕ) → origin ≡ 0 → file_told fs origin ≡ ascii "main text"
unfolding file_told
place_text fs origin e = rw (eq-eqb origin 0 e) refl

pub place_unknown : (fs : List File) (origin : ℕ) → length fs < origin → file_told fs origin ≡ ascii "unknown file"
unfolding file_told
place_unknown fs origin h = rw (ne_eqb origin 0 (λ e. omega arith), lt-ltb (length fs) origin h) refl

pub place_file : (fs : List File) (origin : ℕ) → (origin ≡ 0 → ⊥) → origin ≤ length fs → file_told fs origin ≡ (get_or fs (origin - 1) none).name
unfolding file_told
place_file fs origin z h = rw (ne_eqb origin 0 z, le-ltb (length fs) origin h) refl

module _ (s : List ℕ) (h : laid_out s ≡ true) (origin : ℕ) where
  abbrev fs : List File
  fs = files_of s

  -- a file's name, as the code takes it from the archive
  pub place_name : (origin ≡ 0 → ⊥) → origin ≤ length fs → (m : Member) → m ≡ member_at s (origin - 1) (name_start (origin - 1) s)
      → file_told fs origin ≡ take (m.body - m.start) (drop m.start s)
  place_name z k m e =
      place_file fs origin z k ∙ ap (λ (f : File). f.name) (member_file s h (origin - 1) (omega arith) none) ∙ ap (λ (x : Member). (file_in s x).name) (sym e)

  pub place_most : length (file_told fs origin) ≤ file_name_bytes
  unfolding is_file_name
  place_most = at (dec_lt 0 origin) (dec_lt (length fs) origin)
    where
      named : (origin ≡ 0 → ⊥) → origin ≤ length fs → length (get_or fs (origin - 1) none).name ≤ file_name_bytes
      named z k =
          let n = (get_or fs (origin - 1) none).name in
          let a = all_get_d (λ (f : File). is_file_name f.name) fs (origin - 1) none (laid_out_says s h).named (omega arith) in
          leb-true (length n) file_name_bytes (and_true (leb (length n) file_name_bytes) (all is_name_part (split n)) a).0

      at : Dec (0 < origin) → Dec (length fs < origin) → length (file_told fs origin) ≤ file_name_bytes
      at (no z) d = rw (place_text fs origin (omega arith)) (omega arith)
      at (yes z) (yes k) = rw (place_unknown fs origin k) (omega arith)
      at (yes z) (no k) = rw (place_file fs origin (λ e. omega arith) (omega arith)) (named (λ e. omega arith) (omega arith))
