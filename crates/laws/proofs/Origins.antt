-- Where lines stand (document 02 (viii)): what a reading opens is on the archive, and so its place is a number that an image may have.
-- Assumes nothing.
use Rattle.std.specs.Prelude.{if◌then◌else◌}
use mathlib.Core.Bool.{Bool, true, false}
use mathlib.Core.List.{List, [], ◌∷◌, ◌++◌, map}
use mathlib.Core.Option.{Option, some, none}
use mathlib.Core.Path.{◌≡◌, refl, ap}
use Prim.Native.Nat.{ℕ, zero, suc, ◌≤◌, ◌<◌}
use native.Mathlib.Omega.{arith}
use lib.ListN.{length, drop, get_or}
use borrow.Author.Tests.{le-leb}
use Rattle.definition.specs.Lists.{all, same}
use Rattle.definition.specs.Limits.{archive_files, most_entries, body_bytes}
use Rattle.definition.specs.Archive.{File, laid_out, files_of, body_of, file_number, folder_of, path_of}
use Rattle.definition.specs.Text.{Entry, Line, skipped, include, entry, lines_of}
use Rattle.definition.specs.Including.{Chain, Event, opened, entered, events_of, opening, seeking, including, events, events_of_all, Entered, entries_of, origin_of}
use Rattle.definition.specs.Image.{Sourced, bare, store_of, image_contents, image_bodies, with_origins, is_origin, too_short}
use Rattle.definition.specs.Reading.{read_entries, plain, sourced}
use Rattle.definition.specs.Writing.{sources_of_image}
use Rattle.laws.proofs.Lists.{and_true, and_both}
use Rattle.laws.proofs.Archive.{laid_out_says}
use Rattle.laws.proofs.Reading.{bare_sourced}
use Rattle.laws.proofs.Image.{is_storable, Sources, image_origins, image_entries}

-- the file read last is the one where a line stands
pub origin_last : (fs : List File) (chain : Chain) (file : List ℕ) → origin_of fs (chain ++ file ∷ []) ≡ suc (file_number file fs)
unfolding origin_of
origin_last fs [] file = refl
origin_last fs (f ∷ []) file = refl
origin_last fs (f ∷ g ∷ chain) file = origin_last fs (g ∷ chain) file

-- a file that is there has a number
pub there_inside : (fs : List File) (file body : List ℕ) → body_of fs file ≡ some body → file_number file fs < length fs
unfolding body_of file_number
there_inside [] file body e = let z : ◌≡◌ {A = ℕ} 0 1 = cc in absurd (omega arith)
there_inside (f ∷ fs) file body e = at (same f.name file) (there_inside fs file body) e
  where
    at : (b : Bool) → (body_of fs file ≡ some body → file_number file fs < length fs)
        → (if b then some f.body else body_of fs file) ≡ some body → (if b then 0 else suc (file_number file fs)) < suc (length fs)
    at true later e = omega arith
    at false later e = omega (arith, later e)

small_origin : (n : ℕ) → n ≤ archive_files → is_origin n ≡ true
unfolding is_origin
small_origin n h = rw (le-leb n archive_files h) refl

module _ (fs : List File) (few : length fs ≤ archive_files) where
  -- does the line of an entry stand where an image may say?
  abbrev stands : Entered → Bool
  stands x = is_origin (origin_of fs x.chain)

  abbrev Known : List Event → Type 0
  Known es = all stands (entries_of es) ≡ true

  known_append : (xs ys : List Event) → Known xs → Known ys → Known (xs ++ ys)
  unfolding entries_of all
  known_append [] ys h k = k
  known_append (opened ch ∷ xs) ys h k = known_append xs ys h k
  known_append (entered ch e ∷ xs) ys h k =
      let a = and_true (is_origin (origin_of fs ch)) (all stands (entries_of xs)) h in
      and_both a.0 (known_append xs ys a.1 k)

  events_of_known : (inc : List ℕ → List Event) (ch : Chain) (ls : List Line) → ((n : List ℕ) → Known (inc n)) → is_origin (origin_of fs ch) ≡ true
      → Known (events_of inc ch ls)
  unfolding events_of entries_of all
  events_of_known inc ch [] f h = refl
  events_of_known inc ch (skipped ∷ ls) f h = events_of_known inc ch ls f h
  events_of_known inc ch (include n ∷ ls) f h = known_append (inc n) (events_of inc ch ls) (f n) (events_of_known inc ch ls f h)
  events_of_known inc ch (entry e ∷ ls) f h = and_both h (events_of_known inc ch ls f h)

  opening_known : (ch : Chain) (r : List ℕ → List Event) (o : Option (List ℕ)) → ((b : List ℕ) → o ≡ some b → Known (r b)) → Known (opening ch r o)
  unfolding opening entries_of all
  opening_known ch r none f = refl
  opening_known ch r (some b) f = f b refl

  seeking_known : (f : List ℕ → List Event) (o : Option (List ℕ)) → ((g : List ℕ) → Known (f g)) → Known (seeking f o)
  unfolding seeking entries_of all
  seeking_known f none h = refl
  seeking_known f (some g) h = h g

  including_known : (d : ℕ) (folder : List ℕ) (ch : Chain) (n : List ℕ) → Known (including d fs folder ch n)
  unfolding including entries_of all
  including_known zero folder ch n = refl
  including_known (suc d) folder ch n =
      seeking_known _ (path_of folder n)
      (λ g.
      let below = ch ++ g ∷ [] in
      opening_known below _ (body_of fs g)
      (λ b e.
      events_of_known (including d fs (folder_of g) below) below (lines_of b) (λ m. including_known d (folder_of g) below m)
      (rw (origin_last fs ch g) (small_origin (suc (file_number g fs)) (omega (arith, there_inside fs g b e, few))))))

  events_known : (d : ℕ) (t : List ℕ) → Known (events d fs t)
  unfolding events origin_of is_origin
  events_known d t = events_of_known (including d fs [] []) [] (lines_of t) (λ n. including_known d [] [] n) refl

  pub events_of_all_known : (d : ℕ) (ts : List (List ℕ)) → Known (events_of_all d fs ts)
  unfolding events_of_all entries_of all
  events_of_all_known d [] = refl
  events_of_all_known d (t ∷ ts) = known_append (events d fs t) (events_of_all d fs ts) (events_known d t) (events_of_all_known d ts)

sourced_known : (fs : List File) (xs : List Entered) → all (λ x. is_origin (origin_of fs x.chain)) xs ≡ true
    → all is_origin (map (λ x. x.origin) (sourced fs xs)) ≡ true
unfolding all
sourced_known fs [] h = refl
sourced_known fs (x ∷ xs) h =
    let a = and_true (is_origin (origin_of fs x.chain)) (all (λ x. is_origin (origin_of fs x.chain)) xs) h in
    and_both a.0 (sourced_known fs xs a.1)

-- ---- Read back from an image

pub bare_with : (es : List Entry) (origins : List ℕ) → bare (with_origins es origins) ≡ es
unfolding with_origins
bare_with [] origins = refl
bare_with (e ∷ es) origins = ap (λ (l : List Entry). e ∷ l) (bare_with es (drop 1 origins))

pub with_bare : (xs : List Sourced) → with_origins (bare xs) (map (λ x. x.origin) xs) ≡ xs
unfolding with_origins
with_bare [] = refl
with_bare (x ∷ xs) = ap (λ (l : List Sourced). x ∷ l) (with_bare xs)

pub with_at : (es : List Entry) (origins : List ℕ) (i : ℕ) (d : Sourced) → i < length es
    → get_or (with_origins es origins) i d ≡ record { entry = get_or es i d.entry; origin = get_or origins i 0 }
unfolding with_origins
with_at [] origins i d h = absurd (omega arith)
with_at (e ∷ es) origins zero d h = refl
with_at (e ∷ es) [] (suc i) d h = with_at es [] i d (omega arith)
with_at (e ∷ es) (o ∷ origins) (suc i) d h = with_at es origins i d (omega arith)

-- the image of some entries has their origins
pub image_sources : (xs : List Sourced) (es : List Entry) (contents bodies : List ℕ) → Sources xs es → all is_storable es ≡ true → length es ≤ most_entries
    → length (store_of es) ≤ body_bytes → too_short contents bodies ≡ false → sources_of_image (image_contents xs contents) (image_bodies es bodies) ≡ xs
image_sources xs es contents bodies from fit few small long =
    rw (image_entries xs es contents bodies from fit few small long, image_origins xs contents, ← from.entries) (with_bare xs)

-- ---- A reading

-- the entries of a reading, with their origins
pub read_sources : (depth : ℕ) (texts : List (List ℕ)) (archive : List ℕ) → laid_out archive ≡ true
    → Sources (sourced (files_of archive) (read_entries depth texts archive)) (plain (read_entries depth texts archive))
read_sources depth texts archive h = record {
  entries = bare_sourced (files_of archive) (read_entries depth texts archive);
  known =
      sourced_known (files_of archive) (read_entries depth texts archive)
      (events_of_all_known (files_of archive) (laid_out_says archive h).few depth texts);
}
