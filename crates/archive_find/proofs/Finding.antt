-- The search of an archive: a row's name and a path, the walk, and what a caller learns. Assumes nothing.
use Rattle.std.specs.Prelude.{Option, Some, None, if◌then◌else◌}
use mathlib.Core.Bool.{Bool, true, false}
use mathlib.Core.List.{List, [], ◌∷◌, ◌++◌, append_assoc}
use mathlib.Core.Option.{Option as Maybe, some, none}
use mathlib.Core.Path.{◌≡◌, refl, sym, ap, ◌∙◌}
use Prim.Native.Nat.{ℕ, suc, ◌+◌, ◌-◌, ◌≤◌, ◌<◌}
use native.Mathlib.Omega.{arith}
use lib.ListN.{length, take, drop, length-append, length-drop}
use lib.Seq.{drop_at, take_at, drop-drop, length-take-le}
use Rattle.definition.specs.Lists.{same}
use Rattle.definition.specs.Archive.{File, bodies_of, number_at, files_of, laid_out, body_of, file_number}
use Rattle.laws.proofs.Lists.{same_eq, same_lengths}
use Rattle.laws.proofs.Archive.{length_archive, archive_bodies, laid_out_archive}
use Rattle.archive.specs.declared.Member.{Member}
use Rattle.archive.specs.Walk.{lengths_at, member_at, file_in}
use Rattle.archive.proofs.Walk.{laid_fits, length_files, Walking, Stands, walking_first, walking_in, walking_turn, walking_next, walking_end, walking_sizes}
use Rattle.archive_find.specs.Finding.{member_of, find_from, find_in, sought_in}

-- ---- A row's name and a path

module _ (s path : List ℕ) (from n : ℕ) where
  pub row_length : from + n ≤ length s → (n ≡ length path → ⊥) → same (take n (drop from s)) path ≡ false
  row_length room h = same_lengths (take n (drop from s)) path (λ q. h (omega (arith, q, length-take-le n (drop from s) (rw length-drop (omega arith)))))

  pub row_same : n ≡ length path → {b : Bool} → same (take (length path) (drop from s)) path ≡ b → same (take n (drop from s)) path ≡ b
  row_same e f = rw e f

-- ---- The search

-- no file before file j has that name
pub record Searching (s path : List ℕ) (count at j : ℕ) : Type 0 where
  pub walk : Walking s count at j
  pub left : find_in s path ≡ find_from j at (drop j (files_of s)) path

pub searching_first : (s path : List ℕ) (count : ℕ) → laid_out s ≡ true → (count ≡ number_at s 0) × (count < 65536)
    → Searching s path count (lengths_at count) 0
unfolding find_in
searching_first s path count h ec = record {
  walk = walking_first s count ec (laid_fits s h);
  left = rw (length_files s, ec.0) refl;
}

module _ {s path : List ℕ} {count at j : ℕ} (l : Searching s path count at j) where
  pub searching_none : count ≤ j → None ≡ find_in s path
  unfolding find_from
  searching_none h = sym (l.left ∙ ap (λ fs. find_from j at fs path) (walking_end l.walk h))

  module _ (h : j < count) {m : Member} (e : m ≡ member_at s j at) where
    pub file_in_lem : Stands s at m
    file_in_lem = walking_in l.walk h e

    turn : find_in s path
        ≡ (if same (file_in s m).name path then Some (member_of j at (file_in s m)) else find_from (j + 1) (member_of j at (file_in s m)).end (drop (j + 1) (files_of s)) path)
    unfolding find_from
    turn = l.left ∙ ap (λ fs. find_from j at fs path) (walking_turn l.walk h e)

    pub searching_next : same (file_in s m).name path ≡ false → Searching s path count m.end (j + 1)
    searching_next f = record {
      walk = walking_next l.walk h e;
      left =
          turn ∙ ap (λ (b : Bool). if b then Some (member_of j at (file_in s m)) else find_from (j + 1) (member_of j at (file_in s m)).end (drop (j + 1) (files_of s)) path) f
          ∙ ap (λ x. find_from (j + 1) x (drop (j + 1) (files_of s)) path) (sym (walking_sizes l.walk h e).1);
    }

    pub searching_found : same (file_in s m).name path ≡ true → Some m ≡ find_in s path
    searching_found f =
        let z = walking_sizes l.walk h e in
        let p : m ≡ member_of j at (file_in s m) = (λ i. record { number = (e i).number; start = (e i).start; body = z.0 i; end = z.1 i }) in
        ap Some p
        ∙ sym (turn ∙ ap (λ (b : Bool). if b then Some (member_of j at (file_in s m)) else find_from (j + 1) (member_of j at (file_in s m)).end (drop (j + 1) (files_of s)) path) f)

-- ---- What a caller learns

-- the file of that name among some, and where it stands
pub record FoundAt (s : List ℕ) (fs : List File) (path : List ℕ) (m : Member) : Type 0 where
  pub body : body_of fs path ≡ some (file_in s m).body
  pub name : (file_in s m).name ≡ path
  pub inside : Stands s m.start m

abbrev pub Finds : List ℕ → List File → List ℕ → Option Member → Type 0
Finds s fs path (Some m) = FoundAt s fs path m
Finds s fs path None = body_of fs path ≡ none

-- what a file's name and body are, in bytes that go on with them
module _ (s : List ℕ) (j at : ℕ) (f : File) (fs : List File) (h : at ≤ length s) (e : drop at s ≡ bodies_of (f ∷ fs)) where
  cut : drop at s ≡ f.name ++ (f.body ++ bodies_of fs)
  unfolding bodies_of
  cut = e ∙ append_assoc f.name f.body (bodies_of fs)

  long : length s ≡ at + length f.name + length f.body + length (bodies_of fs)
  long = omega (arith, length-drop at s, ap length cut, length-append f.name (f.body ++ bodies_of fs), length-append f.body (bodies_of fs))

  after_name : drop (at + length f.name) s ≡ f.body ++ bodies_of fs
  after_name = sym (drop-drop (length f.name) at s) ∙ ap (drop (length f.name)) cut ∙ drop_at f.name (f.body ++ bodies_of fs) (length f.name) refl

  after_file : drop (member_of j at f).end s ≡ bodies_of fs
  after_file = sym (drop-drop (length f.body) (at + length f.name) s) ∙ ap (drop (length f.body)) after_name ∙ drop_at f.body (bodies_of fs) (length f.body) refl

  name_is : (file_in s (member_of j at f)).name ≡ f.name
  name_is = let z : at + length f.name - at ≡ length f.name = omega arith in rw (z, cut) (take_at f.name (f.body ++ bodies_of fs) (length f.name) refl)

  body_is : (file_in s (member_of j at f)).body ≡ f.body
  body_is =
      let z : at + length f.name + length f.body - (at + length f.name) ≡ length f.body = omega arith in
      rw (z, after_name) (take_at f.body (bodies_of fs) (length f.body) refl)

  stands : Stands s at (member_of j at f)
  stands = record { begins = refl; name_in = omega arith; body_in = omega arith; end_in = omega (arith, long) }

find_from_lem : (s : List ℕ) (j at : ℕ) (fs : List File) (path : List ℕ) → at ≤ length s → drop at s ≡ bodies_of fs → Finds s fs path (find_from j at fs path)
unfolding find_from body_of
find_from_lem s j at [] path h e = refl
find_from_lem s j at (f ∷ fs) path h e =
    pick (same f.name path) refl (find_from_lem s (j + 1) (member_of j at f).end fs path (stands s j at f fs h e).end_in (after_file s j at f fs h e))
  where
    onward : (r : Option Member) → same f.name path ≡ false → Finds s fs path r → Finds s (f ∷ fs) path r
    onward (Some m) q g = record { body = rw q g.body; name = g.name; inside = g.inside }
    onward None q g = rw q g

    pick : (b : Bool) → same f.name path ≡ b → Finds s fs path (find_from (j + 1) (member_of j at f).end fs path)
        → Finds s (f ∷ fs) path (if b then Some (member_of j at f) else find_from (j + 1) (member_of j at f).end fs path)
    pick true q g = record {
      body = rw q (ap some (sym (body_is s j at f fs h e)));
      name = name_is s j at f fs h e ∙ same_eq f.name path q;
      inside = stands s j at f fs h e;
    }
    pick false q g = onward (find_from (j + 1) (member_of j at f).end fs path) q g

pub find_finds : (s path : List ℕ) → laid_out s ≡ true → Finds s (files_of s) path (find_in s path)
unfolding find_in
find_finds s path h =
    let x = laid_out_archive s h in
    let k = lengths_at (length (files_of s)) in
    find_from_lem s 0 k (files_of s) path (omega (arith, length_archive (files_of s), ap length x)) (ap (drop k) (sym x) ∙ archive_bodies (files_of s))

-- there is no path that is looked for, or no file of that name
abbrev pub Absent : List File → Maybe (List ℕ) → Type 0
Absent fs none = Unit {0}
Absent fs (some path) = body_of fs path ≡ none

-- the file that an include finds, by the path that it looks for
abbrev pub FindsInclude : List ℕ → Maybe (List ℕ) → Option Member → Type 0
FindsInclude s o (Some m) = (path : List ℕ) × (o ≡ some path) × FoundAt s (files_of s) path m
FindsInclude s o None = Absent (files_of s) o

include_finds : (s : List ℕ) (o : Maybe (List ℕ)) → laid_out s ≡ true → FindsInclude s o (sought_in s o)
unfolding sought_in
include_finds s none h = tt
include_finds s (some path) h = at (find_in s path) (find_finds s path h)
  where
    at : (r : Option Member) → Finds s (files_of s) path r → FindsInclude s (some path) r
    at (Some m) f = (path, refl, f)
    at None f = f

module _ (s : List ℕ) (o : Maybe (List ℕ)) {r : Option Member} (h : laid_out s ≡ true) (f : r ≡ sought_in s o) where
  pub found_none : r ≡ None → Absent (files_of s) o
  found_none e = rw (sym f ∙ e) at (include_finds s o h)

  pub found_at : {m : Member} → r ≡ Some m → (path : List ℕ) × (o ≡ some path) × FoundAt s (files_of s) path m
  found_at e = rw (sym f ∙ e) at (include_finds s o h)

-- ---- An include's path, as `path_of` leaves it

pub sought_at : (s : List ℕ) {path : List ℕ} {o : Maybe (List ℕ)} {r : Option Member} → some path ≡ o → r ≡ find_in s path → r ≡ sought_in s o
unfolding sought_in
sought_at s e f = f ∙ ap (sought_in s) e

pub sought_none : (s : List ℕ) {o : Maybe (List ℕ)} → none ≡ o → None ≡ sought_in s o
unfolding sought_in
sought_none s e = ap (sought_in s) e

-- ---- The number of a file

unfoldable numbered : ℕ → Option Member → ℕ
numbered k (Some m) = m.number
numbered k None = k

number_from : (j at : ℕ) (fs : List File) (n : List ℕ) → numbered (j + length fs) (find_from j at fs n) ≡ j + file_number n fs
unfolding find_from file_number numbered
number_from j at [] n = refl
number_from j at (f ∷ fs) n = pick (same f.name n) (number_from (j + 1) (member_of j at f).end fs n)
  where
    pick : (b : Bool) → numbered (j + 1 + length fs) (find_from (j + 1) (member_of j at f).end fs n) ≡ j + 1 + file_number n fs
        → numbered (j + suc (length fs)) (if b then Some (member_of j at f) else find_from (j + 1) (member_of j at f).end fs n)
        ≡ j + (if b then 0 else suc (file_number n fs))
    pick true ih = omega arith
    pick false ih =
        let e : j + suc (length fs) ≡ j + 1 + length fs = omega arith in
        let g : j + 1 + file_number n fs ≡ j + suc (file_number n fs) = omega arith in
        ap (λ k. numbered k (find_from (j + 1) (member_of j at f).end fs n)) e ∙ ih ∙ g

module _ (s n : List ℕ) {r : Option Member} (e : r ≡ find_in s n) where
  number_is : numbered (length (files_of s)) r ≡ file_number n (files_of s)
  unfolding find_in
  number_is =
      let z : 0 + length (files_of s) ≡ length (files_of s) = omega arith in
      let y : 0 + file_number n (files_of s) ≡ file_number n (files_of s) = omega arith in
      ap (numbered (length (files_of s))) e ∙ ap (λ k. numbered k (find_from 0 (lengths_at (length (files_of s))) (files_of s) n)) (sym z)
      ∙ number_from 0 (lengths_at (length (files_of s))) (files_of s) n ∙ y

  pub number_found : {m : Member} → r ≡ Some m → m.number ≡ file_number n (files_of s)
  unfolding numbered
  number_found q = sym (ap (numbered (length (files_of s))) q) ∙ number_is

  pub number_off : r ≡ None → length (files_of s) ≡ file_number n (files_of s)
  unfolding numbered
  number_off q = sym (ap (numbered (length (files_of s))) q) ∙ number_is

-- of the file that an include finds
pub include_number : (s : List ℕ) {path : List ℕ} {o : Maybe (List ℕ)} {r : Option Member} {m : Member} → r ≡ sought_in s o → o ≡ some path → r ≡ Some m
    → m.number ≡ file_number path (files_of s)
unfolding sought_in
include_number s {path} f e q = number_found s path (f ∙ ap (sought_in s) e) q
