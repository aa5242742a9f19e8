-- The walk over the files of an archive by their lengths. Assumes nothing.
use mathlib.Core.Bool.{Bool, true, false, ◌&&◌, and-false}
use mathlib.Core.List.{List, [], ◌∷◌, ◌++◌, append_assoc}
use mathlib.Core.Path.{◌≡◌, refl, sym, ap, ◌∙◌}
use Prim.Native.Nat.{ℕ, zero, suc, ◌+◌, ◌-◌, ◌≤◌, ◌<◌}
use native.Mathlib.Nat.{sub-zero, add-zero}
use native.Mathlib.Numerals.{add-one}
use native.Mathlib.Omega.{arith}
use native.Mathlib.Decide.{dec_lt}
use lib.Dec.{eqb, leb}
use lib.ListN.{length, take, drop, get_or, length-append, length-drop, drop_of_length-le}
use lib.Seq.{get_or-drop, drop-drop, drop-cons, take-add, length-take-le}
use borrow.Author.Tests.{leb-true, le-leb, lt-leb, eq-eqb, ne_eqb}
use Rattle.definition.specs.Lists.{is_empty}
use Rattle.definition.specs.Limits.{archive_files}
use Rattle.definition.specs.Archive.{File, bodies_of, number_at, files_from, files_of, laid_out}
use Rattle.laws.proofs.Lists.{and_true}
use Rattle.laws.proofs.Archive.{laid_out_says, laid_out_archive}
use Rattle.laws.proofs.Walked.{fits, fits_from, files_fit, number_from}
use Rattle.archive.specs.declared.Member.{Member}
use Rattle.archive.specs.Walk.{lengths_at, name_start, member_at, file_in}

-- ---- What is left of the walk

-- the files from file j on, whose names and bodies stand from `at` on
unfoldable pub files_left : List ℕ → ℕ → ℕ → ℕ → List File
files_left s count at j = files_from (count - j) (drop (lengths_at j) s) (drop at s)

-- are what follows `at` just those names and bodies?
unfoldable pub fits_left : List ℕ → ℕ → ℕ → ℕ → Bool
fits_left s count at j = fits_from (count - j) (drop (lengths_at j) s) (drop at s)

-- file j of `count` is next, and all their lengths stand in s
pub record Standing (s : List ℕ) (count at j : ℕ) : Type 0 where
  pub j_most : j ≤ count
  pub few : count < 65536
  pub rows_in : lengths_at count ≤ length s
  pub at_most : at ≤ length s

number_drop : (s : List ℕ) (a i : ℕ) → number_at (drop a s) i ≡ number_at s (a + i)
number_drop s a i = let e : a + (i + 1) ≡ a + i + 1 = omega arith in rw (get_or-drop a s i 0, get_or-drop a s (i + 1) 0, e) refl

-- one file on, by its two lengths
module _ (s : List ℕ) (r at j n m : ℕ) (en : number_at s (lengths_at j) ≡ n) (em : number_at s (lengths_at j + 2) ≡ m) where
  e0 : number_at (drop (lengths_at j) s) 0 ≡ n
  e0 = let z : lengths_at j + 0 ≡ lengths_at j = omega arith in number_drop s (lengths_at j) 0 ∙ ap (number_at s) z ∙ en

  e2 : number_at (drop (lengths_at j) s) 2 ≡ m
  e2 = number_drop s (lengths_at j) 2 ∙ em

  e4 : drop 4 (drop (lengths_at j) s) ≡ drop (lengths_at (j + 1)) s
  e4 = let z : lengths_at j + 4 ≡ lengths_at (j + 1) = omega arith in drop-drop 4 (lengths_at j) s ∙ ap (λ i. drop i s) z

  on : drop (n + m) (drop at s) ≡ drop (at + n + m) s
  on = let z : at + (n + m) ≡ at + n + m = omega arith in drop-drop (n + m) at s ∙ ap (λ i. drop i s) z

  files_row : files_from (suc r) (drop (lengths_at j) s) (drop at s)
      ≡ record { name = take (at + n - at) (drop at s); body = take (at + n + m - (at + n)) (drop (at + n) s) }
      ∷ files_from r (drop (lengths_at (j + 1)) s) (drop (at + n + m) s)
  unfolding files_from
  files_row =
      let z : at + n - at ≡ n = omega arith in
      let y : at + n + m - (at + n) ≡ m = omega arith in
      rw (e0, e2, e4, on, z, y, drop-drop n at s) refl

  fits_row : fits_from (suc r) (drop (lengths_at j) s) (drop at s) ≡ (leb (n + m) (length s - at) && fits_from r (drop (lengths_at (j + 1)) s) (drop (at + n + m) s))
  unfolding fits_from
  fits_row = rw (e0, e2, e4, on, length-drop at s) refl

module _ (s : List ℕ) (count at j : ℕ) (h : j < count) where
  down : count - j ≡ suc (count - (j + 1))
  down = omega arith

  abbrev here : Member
  here = member_at s j at

  files_here : files_left s count at j ≡ file_in s here ∷ files_left s count here.end (j + 1)
  unfolding files_left
  files_here = rw down (files_row s (count - (j + 1)) at j (number_at s (lengths_at j)) (number_at s (lengths_at j + 2)) refl refl)

  fits_here : fits_left s count at j ≡ (leb (number_at s (lengths_at j) + number_at s (lengths_at j + 2)) (length s - at) && fits_left s count here.end (j + 1))
  unfolding fits_left
  fits_here = rw down (fits_row s (count - (j + 1)) at j (number_at s (lengths_at j)) (number_at s (lengths_at j + 2)) refl refl)

  module _ (m : Member) (e : m ≡ member_at s j at) (k : at ≤ length s) where
    end_is : m.end ≡ at + (number_at s (lengths_at j) + number_at s (lengths_at j + 2))
    end_is = ap (λ x. x.end) e ∙ omega arith

    pub fits_over : length s < m.end → fits_left s count at j ≡ false
    fits_over l = rw (fits_here, lt-leb (number_at s (lengths_at j) + number_at s (lengths_at j + 2)) (length s - at) (omega (arith, end_is))) refl

    pub fits_on : m.end ≤ length s → fits_left s count at j ≡ fits_left s count m.end (j + 1)
    fits_on l =
        rw (fits_here, le-leb (number_at s (lengths_at j) + number_at s (lengths_at j + 2)) (length s - at) (omega (arith, end_is)))
        (ap (λ x. fits_left s count x.end (j + 1)) (sym e))

    fits_both : fits_left s count at j ≡ true → (m.end ≤ length s) × (fits_left s count m.end (j + 1) ≡ true)
    fits_both f =
        let b = and_true (leb (number_at s (lengths_at j) + number_at s (lengths_at j + 2)) (length s - at)) (fits_left s count here.end (j + 1)) (sym fits_here ∙ f) in
        (omega (arith, end_is, leb-true (number_at s (lengths_at j) + number_at s (lengths_at j + 2)) (length s - at) b.0), ap (λ x. fits_left s count x.end (j + 1)) e ∙ b.1)

module _ (s : List ℕ) (count at j : ℕ) (h : count ≤ j) where
  files_end : files_left s count at j ≡ []
  unfolding files_left files_from
  files_end = let e : count - j ≡ 0 = omega arith in rw e refl

  pub fits_end : at ≤ length s → fits_left s count at j ≡ eqb at (length s)
  unfolding fits_left fits_from is_empty
  fits_end k = let e : count - j ≡ 0 = omega arith in rw e (at_end (dec_lt at (length s)))
    where
      at_end : Dec (at < length s) → is_empty (drop at s) ≡ eqb at (length s)
      at_end (yes l) = rw (drop-cons s at 0 l, ne_eqb at (length s) (λ q. omega arith)) refl
      at_end (no l) =
          let e : at ≡ length s = omega arith in
          let o : length s ≤ at = omega arith in
          rw (drop_of_length-le s o, eq-eqb at (length s) e) refl

-- from the first file on
module _ (s : List ℕ) (count : ℕ) (ec : count ≡ number_at s 0) where
  pub fits_few : length s < lengths_at count → fits s ≡ false
  unfolding fits
  fits_few h = rw (← ec, lt-leb (lengths_at count) (length s) h, and-false (leb 2 (length s))) refl

  pub fits_first : 2 ≤ length s → lengths_at count ≤ length s → fits s ≡ fits_left s count (lengths_at count) 0
  unfolding fits fits_left
  fits_first h k = rw (← ec, le-leb 2 (length s) h, le-leb (lengths_at count) (length s) k, sub-zero count) refl

pub fits_none : (s : List ℕ) → length s < 2 → fits s ≡ false
unfolding fits
fits_none s h = rw (lt-leb 2 (length s) h) refl

-- what fits has room for its lengths
pub fits_room : (s : List ℕ) → fits s ≡ true → (2 ≤ length s) × (lengths_at (number_at s 0) ≤ length s)
unfolding fits
fits_room s h =
    let p = and_true (leb 2 (length s) && leb (lengths_at (number_at s 0)) (length s)) (fits_from (number_at s 0) (drop 2 s) (drop (lengths_at (number_at s 0)) s)) h in
    let q = and_true (leb 2 (length s)) (leb (lengths_at (number_at s 0)) (length s)) p.0 in
    (leb-true 2 (length s) q.0, leb-true (lengths_at (number_at s 0)) (length s) q.1)

pub laid_fits : (s : List ℕ) → laid_out s ≡ true → fits s ≡ true
laid_fits s h = ap fits (sym (laid_out_archive s h)) ∙ files_fit (files_of s)

pub length_files : (s : List ℕ) → length (files_of s) ≡ number_at s 0
unfolding files_of
length_files s = number_from (number_at s 0) (drop 2 s) (drop (lengths_at (number_at s 0)) s)

-- by the number that a judged archive answers
pub counted : (s : List ℕ) {count : ℕ} → (count ≡ length (files_of s)) × (count ≤ archive_files) → (count ≡ number_at s 0) × (count < 65536)
counted s e = (omega (arith, e, length_files s), omega (arith, e))

pub rows_room : (s : List ℕ) → laid_out s ≡ true → lengths_at (length (files_of s)) ≤ length s
rows_room s h = omega (arith, length_files s, fits_room s (laid_fits s h))

-- ---- The walk over an archive that fits

-- a part from a up to e, as the borrow checker gives it
pub part_size : (s : List ℕ) (a e : ℕ) → e ≤ length s → length (take (e - a) (drop a s)) ≡ e - a
part_size s a e h = length-take-le (e - a) (drop a s) (rw length-drop (omega arith))

pub bodies_append : (fs gs : List File) → bodies_of (fs ++ gs) ≡ bodies_of fs ++ bodies_of gs
unfolding bodies_of
bodies_append [] gs = refl
bodies_append (f ∷ fs) gs = rw (bodies_append fs gs) (sym (append_assoc (f.name ++ f.body) (bodies_of fs) (bodies_of gs)))

-- file j is next, and its name starts at `at`
pub record Walking (s : List ℕ) (count at j : ℕ) : Type 0 where
  pub standing : Standing s count at j
  pub many : length (files_of s) ≡ count
  pub fit : fits_left s count at j ≡ true
  pub left : drop j (files_of s) ≡ files_left s count at j
  pub place : at ≡ name_start j s

pub walking_first : (s : List ℕ) (count : ℕ) → (count ≡ number_at s 0) × (count < 65536) → fits s ≡ true → Walking s count (lengths_at count) 0
unfolding files_of files_left name_start bodies_of
walking_first s count ec h =
    let r = fits_room s h in
    record {
      standing = omega (arith, ec.0, ec.1, r.1);
      many = length_files s ∙ sym ec.0;
      fit = sym (fits_first s count ec.0 r.0 (rw ec.0 r.1)) ∙ h;
      left = rw (ec.0, sub-zero (number_at s 0)) refl;
      place = omega (arith, ec.0, length_files s);
    }

-- where a file stands
pub record Stands (s : List ℕ) (start : ℕ) (m : Member) : Type 0 where
  pub begins : m.start ≡ start
  pub name_in : start ≤ m.body
  pub body_in : m.body ≤ m.end
  pub end_in : m.end ≤ length s

module _ {s : List ℕ} {count at j : ℕ} (w : Walking s count at j) where
  pub walking_end : count ≤ j → drop j (files_of s) ≡ []
  walking_end h = w.left ∙ files_end s count at j h

  module _ (h : j < count) {m : Member} (e : m ≡ member_at s j at) where
    both : (m.end ≤ length s) × (fits_left s count m.end (j + 1) ≡ true)
    both = fits_both s count at j h m e w.standing.at_most w.fit

    pub walking_in : Stands s at m
    walking_in = record {
      begins = ap (λ x. x.start) e;
      name_in = omega (arith, ap (λ x. x.body) e);
      body_in = omega (arith, ap (λ x. x.body) e, ap (λ x. x.end) e);
      end_in = both.0;
    }

    turned : files_left s count at j ≡ file_in s m ∷ files_left s count m.end (j + 1)
    turned = files_here s count at j h ∙ ap (λ x. file_in s x ∷ files_left s count x.end (j + 1)) (sym e)

    left_next : drop (j + 1) (files_of s) ≡ files_left s count m.end (j + 1)
    left_next = sym (drop-drop 1 j (files_of s)) ∙ ap (drop 1) (w.left ∙ turned)

    -- the file is the next, and the others follow
    pub walking_turn : drop j (files_of s) ≡ file_in s m ∷ drop (j + 1) (files_of s)
    walking_turn = w.left ∙ turned ∙ ap (λ fs. file_in s m ∷ fs) (sym left_next)

    pub walking_sizes : (m.body ≡ at + length (file_in s m).name) × (m.end ≡ at + length (file_in s m).name + length (file_in s m).body)
    walking_sizes =
        let i = walking_in in
        let a = part_size s m.start m.body (omega arith) in
        let b = part_size s m.body m.end i.end_in in
        (omega arith, omega arith)

    place_next : m.end ≡ name_start (j + 1) s
    unfolding name_start bodies_of
    place_next =
        let f = file_in s m in
        let more : take (j + 1) (files_of s) ≡ take j (files_of s) ++ f ∷ [] = take-add j 1 (files_of s) ∙ ap (λ fs. take j (files_of s) ++ take 1 fs) walking_turn in
        omega (arith, w.place, walking_sizes, ap (λ fs. length (bodies_of fs)) more, ap length (bodies_append (take j (files_of s)) (f ∷ [])), length-append (bodies_of (take j (files_of s))) (bodies_of (f ∷ [])), length-append (f.name ++ f.body) [], length-append f.name f.body)

    pub walking_next : Walking s count m.end (j + 1)
    walking_next =
        let t = w.standing in
        record {
          standing = record { j_most = omega arith; few = t.few; rows_in = t.rows_in; at_most = both.0 };
          many = w.many;
          fit = both.1;
          left = left_next;
          place = place_next;
        }

-- the walk has come to file i
pub walked_to : {s : List ℕ} {count at j i : ℕ} {m : Member} → Walking s count at j → j ≡ i → m ≡ member_at s i at → m ≡ member_at s i (name_start i s)
walked_to {s} {count} {at} {j} {i} {m} w e em = em ∙ ap (member_at s i) (w.place ∙ ap (λ x. name_start x s) e)

-- and it comes to each
module _ (s : List ℕ) (h : laid_out s ≡ true) where
  abbrev count : ℕ
  count = length (files_of s)

  comes_to : (j : ℕ) → j ≤ count → (at : ℕ) × Walking s count at j
  comes_to zero k = (lengths_at count, walking_first s count (omega (arith, length_files s, (laid_out_says s h).few)) (laid_fits s h))
  comes_to (suc j) k =
      let w = comes_to j (omega arith) in
      ((member_at s j w.0).end, rw (add-one j) at (walking_next w.1 (omega arith) refl))

  module _ (j : ℕ) (k : j < count) where
    abbrev found : Member
    found = member_at s j (name_start j s)

    here_is : (at : ℕ) → Walking s count at j → found ≡ member_at s j at
    here_is at w = ap (member_at s j) (sym w.place)

    pub member_in : Stands s (name_start j s) found
    member_in =
        let w = comes_to j (omega arith) in
        rw w.1.place at (walking_in w.1 k refl)

    pub member_next : found.end ≡ name_start (j + 1) s
    member_next =
        let w = comes_to j (omega arith) in
        (walking_next w.1 k (here_is w.0 w.1)).place

    -- the file that stands there
    pub member_file : (d : File) → get_or (files_of s) j d ≡ file_in s found
    member_file d =
        let w = comes_to j (omega arith) in
        ap (λ (i : ℕ). get_or (files_of s) i d) (sym (add-zero j)) ∙ sym (get_or-drop j (files_of s) 0 d)
        ∙ ap (λ (fs : List File). get_or fs 0 d) (walking_turn w.1 k (here_is w.0 w.1))
