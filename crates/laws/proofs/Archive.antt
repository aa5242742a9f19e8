-- Laws of the archive: its bytes and its files say the same, and what striking a file off does. Assumes nothing.
use Rattle.std.specs.Prelude.{if◌then◌else◌}
use mathlib.Core.Bool.{Bool, true, false, ◌&&◌}
use mathlib.Core.List.{List, [], ◌∷◌, ◌++◌, map, append_assoc}
use mathlib.Core.Option.{none}
use mathlib.Core.Path.{◌≡◌, refl, ap}
use Prim.Native.Nat.{ℕ, zero, suc, ◌+◌, ◌*◌, ◌/◌, ◌%◌, ◌≤◌, ◌<◌}
use native.Mathlib.Omega.{arith}
use lib.Dec.{eqb, leb}
use lib.ListN.{length, drop, get_or, length-append}
use lib.Seq.{take-append_seam, drop-append_seam, drop-append-add, drop_at}
use borrow.Author.Tests.{leb-true, le-leb}
use Rattle.definition.specs.Lists.{all, same, lower}
use Rattle.definition.specs.Limits.{archive_bytes, archive_files}
use Rattle.definition.specs.Bytes.{slash}
use Rattle.definition.specs.Archive.{File, lengths_of, bodies_of, archive_of, files_from, files_of, prefixed, split, is_file_name, rising, are_files, laid_out, removed, struck_off, body_of}
use Rattle.laws.proofs.Lists.{and_true, and_both, same_eq, same_refl, lower_asym, lower_trans, lower_differ, same_sym, all_get_d, all_map, all_without, length_without}

-- ---- The files of the bytes of files

pub halves : (n : ℕ) → n % 256 + 256 * (n / 256) ≡ n
halves n = omega arith

pub length_lengths : (fs : List File) → length (lengths_of fs) ≡ 4 * length fs
unfolding lengths_of
length_lengths [] = refl
length_lengths (f ∷ fs) = omega (arith, length_lengths fs)

files_from_lem : (fs : List File) (xs : List ℕ) → files_from (length fs) (lengths_of fs ++ xs) (bodies_of fs) ≡ fs
unfolding files_from lengths_of bodies_of
files_from_lem [] xs = refl
files_from_lem (f ∷ fs) xs =
    rw (
      append_assoc f.name f.body (bodies_of fs),
      halves (length f.name),
      halves (length f.body),
      take-append_seam f.name (f.body ++ bodies_of fs),
      drop-append_seam f.name (f.body ++ bodies_of fs),
      take-append_seam f.body (bodies_of fs),
      drop-append-add f.name (f.body ++ bodies_of fs) (length f.body),
      drop-append_seam f.body (bodies_of fs),
      files_from_lem fs xs,
    ) refl

-- after the number of files and their lengths
pub archive_bodies : (fs : List File) → drop (2 + 4 * length fs) (archive_of fs) ≡ bodies_of fs
unfolding archive_of
archive_bodies fs =
    drop_at (length fs % 256 ∷ length fs / 256 ∷ lengths_of fs) (bodies_of fs) (2 + 4 * length fs) (omega (arith, length_lengths fs))

pub files_archive : (fs : List File) → files_of (archive_of fs) ≡ fs
unfolding files_of archive_of
files_archive fs = rw (halves (length fs), archive_bodies fs) (files_from_lem fs (bodies_of fs))

-- ---- What the test of an archive says

pub record LaidOut (s : List ℕ) : Type 0 where
  pub short : length s ≤ archive_bytes
  pub exact : archive_of (files_of s) ≡ s
  pub few : length (files_of s) ≤ archive_files
  pub named : all (λ f. is_file_name f.name) (files_of s) ≡ true
  pub rises : rising (map (λ f. f.name) (files_of s)) ≡ true

pub laid_out_says : (s : List ℕ) → laid_out s ≡ true → LaidOut s
unfolding laid_out
laid_out_says s h =
    let a = and_true (leb (length s) archive_bytes && same (archive_of (files_of s)) s) (are_files (files_of s)) h in
    let b = and_true (leb (length s) archive_bytes) (same (archive_of (files_of s)) s) a.0 in
    let c = and_true (leb (length (files_of s)) archive_files && all (λ f. is_file_name f.name) (files_of s)) (rising (map (λ f. f.name) (files_of s))) a.1 in
    let d = and_true (leb (length (files_of s)) archive_files) (all (λ f. is_file_name f.name) (files_of s)) c.0 in
    record {
      short = leb-true (length s) archive_bytes b.0;
      exact = same_eq (archive_of (files_of s)) s b.1;
      few = leb-true (length (files_of s)) archive_files d.0;
      named = d.1;
      rises = c.1;
    }

pub says_laid_out : (s : List ℕ) → LaidOut s → laid_out s ≡ true
unfolding laid_out
says_laid_out s r =
    and_both (and_both (le-leb (length s) archive_bytes r.short) (rw r.exact (same_refl s)))
    (and_both (and_both (le-leb (length (files_of s)) archive_files r.few) r.named) r.rises)

pub laid_out_archive : (s : List ℕ) → laid_out s ≡ true → archive_of (files_of s) ≡ s
laid_out_archive s h = (laid_out_says s h).exact

pub files_struck : (j : ℕ) (s : List ℕ) → files_of (struck_off j s) ≡ removed j (files_of s)
unfolding struck_off
files_struck j s = files_archive (removed j (files_of s))

-- ---- Lengths

pub length_archive : (fs : List File) → length (archive_of fs) ≡ 2 + 4 * length fs + length (bodies_of fs)
unfolding archive_of
length_archive fs = simp length-append (omega (arith, length_lengths fs))

-- file j, or an empty one
abbrev pub file_at : ℕ → List File → File
file_at j fs = get_or fs j (record { name = []; body = [] })

length_bodies : (f : File) (fs : List File) → length (bodies_of (f ∷ fs)) ≡ length f.name + length f.body + length (bodies_of fs)
unfolding bodies_of
length_bodies f fs = simp length-append

bodies_removed : (j : ℕ) (fs : List File) → j < length fs
    → length (bodies_of (removed j fs)) + (length (file_at j fs).name + length (file_at j fs).body) ≡ length (bodies_of fs)
bodies_removed zero [] h = absurd (omega arith)
bodies_removed zero (f ∷ fs) h = omega (arith, length_bodies f fs)
bodies_removed (suc j) [] h = absurd (omega arith)
bodies_removed (suc j) (f ∷ fs) h =
    omega (arith, bodies_removed j fs (omega arith), length_bodies f fs, length_bodies f (removed j fs))

-- what goes is four bytes of lengths, the name and the body
pub length_struck : (j : ℕ) (s : List ℕ) → laid_out s ≡ true → j < length (files_of s)
    → length (struck_off j s) + (4 + length (file_at j (files_of s)).name + length (file_at j (files_of s)).body) ≡ length s
unfolding struck_off
length_struck j s h k =
    omega (arith, bodies_removed j (files_of s) k, length_without j (files_of s) k, length_archive (removed j (files_of s)), length_archive (files_of s), ap length (laid_out_archive s h))

pub struck_shorter : (j : ℕ) (s : List ℕ) → laid_out s ≡ true → j < length (files_of s) → length (struck_off j s) < length s
struck_shorter j s h k = omega (arith, length_struck j s h k)

-- ---- Names that rise

-- the first stands below all the others
pub rising_first : (n : List ℕ) (ns : List (List ℕ)) → rising (n ∷ ns) ≡ true → all (lower n) ns ≡ true
unfolding rising all
rising_first n [] h = refl
rising_first n (m ∷ ns) h =
    let a = and_true (lower n m) (rising (m ∷ ns)) h in
    and_both a.0 (all_above n m ns a.0 (rising_first m ns a.1))
  where
    all_above : (n m : List ℕ) (ns : List (List ℕ)) → lower n m ≡ true → all (lower m) ns ≡ true → all (lower n) ns ≡ true
    all_above n m [] h k = refl
    all_above n m (x ∷ ns) h k =
        let a = and_true (lower m x) (all (lower m) ns) k in
        and_both (lower_trans n m x h (lower_asym m x a.0)) (all_above n m ns h a.1)

pub rising_rest : (n : List ℕ) (ns : List (List ℕ)) → rising (n ∷ ns) ≡ true → rising ns ≡ true
unfolding rising
rising_rest n [] h = refl
rising_rest n (m ∷ ns) h = (and_true (lower n m) (rising (m ∷ ns)) h).1

pub rising_cons : (n : List ℕ) (ns : List (List ℕ)) → all (lower n) ns ≡ true → rising ns ≡ true → rising (n ∷ ns) ≡ true
unfolding rising all
rising_cons n [] h k = refl
rising_cons n (m ∷ ns) h k = and_both (and_true (lower n m) (all (lower n) ns) h).0 k

module _ (f : File) (fs : List File) (h : rising (map (λ g. g.name) (f ∷ fs)) ≡ true) where
  below_others : all (λ g. lower f.name g.name) fs ≡ true
  below_others = rw (all_map (lower f.name) (λ g. g.name) fs) at (rising_first f.name (map (λ g. g.name) fs) h)

  others_rise : rising (map (λ g. g.name) fs) ≡ true
  others_rise = rising_rest f.name (map (λ g. g.name) fs) h

pub removed_rising : (j : ℕ) (fs : List File) → rising (map (λ f. f.name) fs) ≡ true → rising (map (λ f. f.name) (removed j fs)) ≡ true
removed_rising zero [] h = h
removed_rising zero (f ∷ fs) h = others_rise f fs h
removed_rising (suc j) [] h = h
removed_rising (suc j) (f ∷ fs) h =
    rising_cons f.name (map (λ g. g.name) (removed j fs))
    (rw (all_map (lower f.name) (λ g. g.name) (removed j fs)) (all_without (λ g. lower f.name g.name) j fs (below_others f fs h)))
    (removed_rising j fs (others_rise f fs h))

-- no two files have the same name
pub names_differ : (fs : List File) → rising (map (λ f. f.name) fs) ≡ true → (i j : ℕ) → i < j → j < length fs
    → same (file_at i fs).name (file_at j fs).name ≡ false
names_differ [] h i j p q = absurd (omega arith)
names_differ (f ∷ fs) h i zero p q = absurd (omega arith)
names_differ (f ∷ fs) h zero (suc j) p q =
    lower_differ f.name (file_at j fs).name (all_get_d (λ g. lower f.name g.name) fs j (record { name = []; body = [] }) (below_others f fs h) (omega arith))
names_differ (f ∷ fs) h (suc i) (suc j) p q = names_differ fs (others_rise f fs h) i j (omega arith) (omega arith)

-- ---- An archive with a file struck off

pub struck_laid_out : (j : ℕ) (s : List ℕ) → laid_out s ≡ true → j < length (files_of s) → laid_out (struck_off j s) ≡ true
unfolding struck_off
struck_laid_out j s h k =
    let r = laid_out_says s h in
    let n = length_without j (files_of s) k in
    let l = struck_shorter j s h k in
    let few = r.few in
    says_laid_out (struck_off j s) (record {
      short = omega (arith, r.short);
      exact = ap archive_of (files_struck j s);
      few = rw (files_struck j s) (omega arith);
      named = rw (files_struck j s) (all_without (λ f. is_file_name f.name) j (files_of s) r.named);
      rises = rw (files_struck j s) (removed_rising j (files_of s) r.rises);
    })

-- ---- Finding a file when one is removed

absent : (n : List ℕ) (fs : List File) → all (λ g. lower n g.name) fs ≡ true → body_of fs n ≡ none
unfolding all body_of
absent n [] h = refl
absent n (f ∷ fs) h =
    let a = and_true (lower n f.name) (all (λ g. lower n g.name) fs) h in
    rw (same_sym n f.name (lower_differ n f.name a.0)) (absent n fs a.1)

pub removed_gone : (j : ℕ) (fs : List File) → rising (map (λ f. f.name) fs) ≡ true → j < length fs → body_of (removed j fs) (file_at j fs).name ≡ none
unfolding body_of
removed_gone zero [] h k = absurd (omega arith)
removed_gone zero (f ∷ fs) h k = absent f.name fs (below_others f fs h)
removed_gone (suc j) [] h k = absurd (omega arith)
removed_gone (suc j) (f ∷ fs) h k = rw (names_differ (f ∷ fs) h zero (suc j) (omega arith) k) (removed_gone j fs (others_rise f fs h) (omega arith))

pub removed_other : (j : ℕ) (fs : List File) → (n : List ℕ) → j < length fs → same (file_at j fs).name n ≡ false → body_of (removed j fs) n ≡ body_of fs n
unfolding body_of
removed_other zero [] n h k = refl
removed_other zero (f ∷ fs) n h k = rw k refl
removed_other (suc j) [] n h k = refl
removed_other (suc j) (f ∷ fs) n h k = rw (removed_other j fs n (omega arith) k) refl

-- ---- Names

-- a split has one part at least
pub split_some : (t : List ℕ) → (q : List ℕ) × (qs : List (List ℕ)) × (split t ≡ q ∷ qs)
unfolding split prefixed
split_some [] = ([], [], refl)
split_some (c ∷ t) = at (eqb c slash) (split t)
  where
    at : (b : Bool) (ps : List (List ℕ)) → (q : List ℕ) × (qs : List (List ℕ)) × ((if b then [] ∷ ps else prefixed c ps) ≡ q ∷ qs)
    at true ps = ([], ps, refl)
    at false [] = (c ∷ [], [], refl)
    at false (p ∷ ps) = (c ∷ p, ps, refl)
