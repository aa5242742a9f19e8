-- Two images that hold reordered lists answer every query alike: the calls' contracts equate them with these. Assumes nothing.
use Rattle.std.specs.Prelude.{if◌then◌else◌}
use mathlib.Core.Bool.{Bool, true, false}
use mathlib.Core.List.{List}
use mathlib.Core.Option.{Option, some, none}
use mathlib.Core.Path.{◌≡◌, refl, sym, ap, ◌∙◌}
use Prim.Native.Nat.{ℕ}
use native.Mathlib.Omega.{arith}
use Rattle.definition.specs.Image.{Row, rows_in, is_image}
use Rattle.definition.specs.Query.{Query, positions, malformed, past_limit, Bounds, query_within}
use Rattle.definition.specs.Ranking.{Best, no_entry, best, best_of}
use Rattle.definition.specs.Lookup.{Reply, given, no_value, refused, Place, place_of, lookup, get_bytes_by, get_bytes_within, bytes_at, answer_in}
use Rattle.definition.specs.Value.{is_utf8, i64_of, to_bool, replied, read_as, number_of, bytes_or, as_string, as_bool, as_number, get_string_by, get_string_within, get_bool_by, get_value_by, shown_by}
use Rattle.definition.specs.Writing.{entries_of_image}
use Rattle.definition.specs.Orders.{Reordered, in_bytes, AnswerAlike, ImagesAlike}
use Rattle.laws.proofs.Lookup.{answer_entries}
use Rattle.orders.proofs.Winning.{same_answers}

-- ---- A reading of the value's bytes, from a reply by bytes

module _ {A : Type 0} where
  read : (List ℕ → Option A) → Reply (List ℕ) → Reply A
  read f (given v) = replied (f v)
  read f no_value = no_value
  read f (refused k) = refused k

  read_bytes : (bodies : List ℕ) (f : List ℕ → Option A) (r : Reply Place) → read_as (λ p. f (bytes_at bodies p)) r ≡ read f (in_bytes bodies r)
  unfolding read_as read replied
  read_bytes bodies f (given p) = refl
  read_bytes bodies f no_value = refl
  read_bytes bodies f (refused k) = refl

well_formed : List ℕ → Option (List ℕ)
well_formed v = if is_utf8 v then some v else none

string_bytes : (bodies : List ℕ) (r : Reply Place)
    → in_bytes bodies (read_as (λ p. if is_utf8 (bytes_at bodies p) then some p else none) r) ≡ read well_formed (in_bytes bodies r)
unfolding read_as read replied well_formed
string_bytes bodies (given p) = at (is_utf8 (bytes_at bodies p))
  where
    at : (b : Bool) → in_bytes bodies (replied (if b then some p else none)) ≡ replied (if b then some (bytes_at bodies p) else none)
    at true = refl
    at false = refl
string_bytes bodies no_value = refl
string_bytes bodies (refused k) = refl

or : List ℕ → Reply (List ℕ) → List ℕ
or default (given v) = v
or default no_value = default
or default (refused k) = default

or_bytes : (bodies default : List ℕ) (r : Reply Place) → bytes_or bodies default r ≡ or default (in_bytes bodies r)
unfolding read_as replied bytes_or or
or_bytes bodies default (given p) = refl
or_bytes bodies default no_value = refl
or_bytes bodies default (refused k) = refl

-- ---- Two images

module _ (contents bodies contents' bodies' : List ℕ) where
  -- of two places: both give their bytes, or neither has any
  places_alike : (rows rows' : List Row) (b b' : Best) → answer_in bodies (place_of rows b) ≡ answer_in bodies' (place_of rows' b')
      → in_bytes bodies (place_of rows b) ≡ in_bytes bodies' (place_of rows' b')
  unfolding answer_in place_of read_as replied
  places_alike rows rows' no_entry no_entry e = refl
  places_alike rows rows' no_entry (best j s) e = let z : ◌≡◌ {A = ℕ} 0 1 = cc in absurd (omega arith)
  places_alike rows rows' (best i r) no_entry e = let z : ◌≡◌ {A = ℕ} 0 1 = cc in absurd (omega arith)
  places_alike rows rows' (best i r) (best j s) e = ap replied e

  lookups_alike : (q : Query) → answer_in bodies (lookup (rows_in contents) bodies q) ≡ answer_in bodies' (lookup (rows_in contents') bodies' q)
      → in_bytes bodies (lookup (rows_in contents) bodies q) ≡ in_bytes bodies' (lookup (rows_in contents') bodies' q)
  unfolding lookup read_as
  lookups_alike (positions qs) e = places_alike (rows_in contents) (rows_in contents') (best_of _ qs) (best_of _ qs) e
  lookups_alike malformed e = refl
  lookups_alike (past_limit k) e = refl

  module _ (h : is_image contents bodies ≡ true) (h' : is_image contents' bodies' ≡ true)
      (r : Reordered (entries_of_image contents bodies) (entries_of_image contents' bodies')) (most : Bounds) (name class : List ℕ) where
    answers : answer_in bodies (get_bytes_within most contents bodies name class) ≡ answer_in bodies' (get_bytes_within most contents' bodies' name class)
    answers =
        answer_entries most contents bodies name class h
        ∙ same_answers (entries_of_image contents bodies) (entries_of_image contents' bodies') r (query_within most name class)
        ∙ sym (answer_entries most contents' bodies' name class h')

    by_bytes : in_bytes bodies (get_bytes_within most contents bodies name class) ≡ in_bytes bodies' (get_bytes_within most contents' bodies' name class)
    unfolding get_bytes_by
    by_bytes = rw (h, h') (lookups_alike (query_within most name class) (rw (h, h') at answers))

    by_string : in_bytes bodies (get_string_within most contents bodies name class) ≡ in_bytes bodies' (get_string_within most contents' bodies' name class)
    unfolding get_string_by as_string
    by_string = string_bytes bodies _ ∙ ap (read well_formed) by_bytes ∙ sym (string_bytes bodies' _)

    alike : AnswerAlike most contents bodies contents' bodies' name class
    unfolding get_bool_by get_value_by shown_by as_bool as_number
    alike = record {
      bytes = by_bytes;
      string = by_string;
      bool = read_bytes bodies to_bool _ ∙ ap (read to_bool) by_string ∙ sym (read_bytes bodies' to_bool _);
      value =
          read_bytes bodies (λ v. some (number_of (i64_of v))) _
          ∙ ap (read (λ v. some (number_of (i64_of v)))) by_string
          ∙ sym (read_bytes bodies' (λ v. some (number_of (i64_of v))) _);
      show = λ default. or_bytes bodies default _ ∙ ap (or default) by_bytes ∙ sym (or_bytes bodies' default _);
    }

pub images_alike : ImagesAlike
images_alike contents bodies contents' bodies' h h' r most name class = alike contents bodies contents' bodies' h h' r most name class
