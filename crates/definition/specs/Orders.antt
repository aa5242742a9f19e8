-- Packs in any order (document 02 (vii)): lists of the same entries in another order, and what is claimed of them.
use Rattle.std.specs.Prelude.{Bool, true, false, ◌&&◌, List, [], ◌∷◌, ◌++◌, map, ◌↔◌, ◌⊎◌, ◌≡◌, ℕ, suc, ◌<◌, eqb, ltb, length, drop, get_or, if◌then◌else◌}
use Rattle.std.proofs.Math.Option.{Option, some, none}
use Rattle.definition.specs.Lists.{all, filter, same}
use Rattle.definition.specs.Bytes.{newline, hash, not_newline}
use Rattle.definition.specs.Text.{Binding, tight, loose, Component, wildcard, name, Part, Entry, include_of}
use Rattle.definition.specs.Including.{Entered}
use Rattle.definition.specs.Image.{too_short, is_image}
use Rattle.definition.specs.Reading.{accepted, plain, read_entries, reading}
use Rattle.definition.specs.Writing.{entries_of_image}
use Rattle.definition.specs.Query.{Position, Query, positions, malformed, past_limit, Bounds}
use Rattle.definition.specs.Matching.{Aligned, Beats}
use Rattle.definition.specs.Lookup.{keys_of, answer_of, Reply, Place, get_bytes_within, bytes_at}
use Rattle.definition.specs.Value.{read_as, get_string_within, get_bool_within, get_value_within, shown_within}
use Rattle.definition.specs.Walking.{first_of}
use Rattle.definition.specs.ThirdTerm.{entry_number, is_accepted}

-- ---- Lists in another order

-- one list is the other rearranged: `place` says where each element of xs stands in ys, `back` where each of ys stands in xs, and the two
-- undo each other. (d is what `get_or` gives past a list's end.)
pub record Rearranged {A : Type 0} (d : A) (xs ys : List A) : Type 0 where
  pub place : ℕ → ℕ
  pub back : ℕ → ℕ
  pub inside : (i : ℕ) → i < length xs → place i < length ys
  pub inside_back : (j : ℕ) → j < length ys → back j < length xs
  pub undone : (i : ℕ) → i < length xs → back (place i) ≡ i
  pub undone_back : (j : ℕ) → j < length ys → place (back j) ≡ j
  pub element : (i : ℕ) → i < length xs → get_or ys (place i) d ≡ get_or xs i d

abbrev pub blank : Entry
blank = record { parts = []; value = [] }

-- the same entries, those of equal key in the same order among themselves: of two entries with equal key the earlier stays the earlier
pub record Reordered (xs ys : List Entry) : Type 0 where
  pub rearranged : Rearranged blank xs ys
  pub in_order : (i j : ℕ) → i < j → j < length xs → get_or (keys_of xs) i [] ≡ get_or (keys_of xs) j []
      → rearranged.place i < rearranged.place j

-- ---- The same, computed: for every key, the values under it in their order. The crate `orders` shows that the two agree

unfoldable pub same_binding : Binding → Binding → Bool
same_binding tight tight = true
same_binding tight loose = false
same_binding loose tight = false
same_binding loose loose = true

unfoldable pub same_component : Component → Component → Bool
same_component wildcard wildcard = true
same_component wildcard (name n) = false
same_component (name n) wildcard = false
same_component (name n) (name m) = same n m

unfoldable pub same_key : List Part → List Part → Bool
same_key [] [] = true
same_key [] (q ∷ qs) = false
same_key (p ∷ ps) [] = false
same_key (p ∷ ps) (q ∷ qs) =
    same_binding p.binding q.binding && same_component p.component q.component && same_key ps qs

unfoldable pub values_under : List Part → List Entry → List (List ℕ)
values_under key es = map (λ e. e.value) (filter (λ e. same_key key e.parts) es)

abbrev pub SameUnderEachKey : List Entry → List Entry → Type 0
SameUnderEachKey xs ys = (key : List Part) → values_under key xs ≡ values_under key ys

-- ---- Packs: a main text of include lines alone

-- the name that an include line has, if it is one; its newline is not part of the line
unfoldable pub name_included : List ℕ → Option (List ℕ)
name_included [] = none
name_included (c ∷ t) = if eqb c hash && all not_newline t then include_of t else none

unfoldable pub is_there : Option (List ℕ) → Bool
is_there none = false
is_there (some n) = true

abbrev pub are_includes : List (List ℕ) → Bool
are_includes lines = all (λ l. is_there (name_included l)) lines

-- each line ended by a newline
unfoldable pub text_of_lines : List (List ℕ) → List ℕ
text_of_lines [] = []
text_of_lines (l ∷ ls) = l ++ newline ∷ text_of_lines ls

-- the file that the main text includes and that an entry came through: the outermost of its chain
abbrev pub outermost : Entered → List ℕ
outermost x = get_or x.chain 0 []

-- a key comes through one file alone of those that the main text includes; what those include in turn counts
abbrev pub OneFile : List Part → List Entered → Type 0
OneFile key xs =
    (i j : ℕ) → i < length xs → j < length xs
    → (entry_number xs i).entry.parts ≡ key
    → (entry_number xs j).entry.parts ≡ key
    → outermost (entry_number xs i) ≡ outermost (entry_number xs j)

-- no key comes through two different files that the main text includes
abbrev pub OneFileEach : List Entered → Type 0
OneFileEach xs = (key : List Part) → OneFile key xs

-- ---- Where packs meet: entries of two lists with equal keys

-- the numbers of the entries with that key, lowest first, where the first entry has number j
unfoldable pub numbers_with : ℕ → List Part → List Entry → List ℕ
numbers_with j key [] = []
numbers_with j key (e ∷ es) = if same_key key e.parts then j ∷ numbers_with (suc j) key es else numbers_with (suc j) key es

-- an entry of each list, by their numbers
pub record Pair : Type 0 where
  pub first : ℕ
  pub second : ℕ

abbrev pub pair : ℕ → ℕ → Pair
pair i j = record { first = i; second = j }

-- the pairs of entries with equal keys: by the first, then by the second; the first entry of xs has number i
unfoldable pub pairs_from : ℕ → List Entry → List Entry → List Pair
pairs_from i [] ys = []
pairs_from i (x ∷ xs) ys = map (pair i) (numbers_with 0 x.parts ys) ++ pairs_from (suc i) xs ys

-- the first entry of ys with the key of entry i of xs, from number `next` on
unfoldable pub next_with_key : List Entry → ℕ → List Entry → ℕ → Option ℕ
next_with_key xs i ys next = if ltb i (length xs) then first_of (numbers_with next (get_or (keys_of xs) i []) (drop next ys)) else none

-- ---- What is claimed

-- for one query, equal rows come only from equal keys
abbrev pub EqualRows : Type 0
EqualRows =
    (qs : List Position) (row : List ℕ) (key other : List Part)
    → Aligned key qs row
    → Aligned other qs row
    → key ≡ other

-- the two definitions agree
abbrev pub OrdersAgree : Type 0
OrdersAgree = (xs ys : List Entry) → Reordered xs ys ↔ SameUnderEachKey xs ys

-- the entry that beats the rest in one list beats the rest in the other, at its new place
abbrev pub WinnerStays : Type 0
WinnerStays =
    (xs ys : List Entry) (r : Reordered xs ys) (qs : List Position) (i : ℕ)
    → Beats (keys_of xs) qs i
    → Beats (keys_of ys) qs (r.rearranged.place i)

-- the same value, or none, to every query; no limit is needed here, as what is past one gets none from any list
abbrev pub SameAnswers : Type 0
SameAnswers = (xs ys : List Entry) → Reordered xs ys → (q : Query) → answer_of xs q ≡ answer_of ys q

-- where no pair of entries has equal keys, either list may stand first
abbrev pub EitherFirst : Type 0
EitherFirst = (xs ys : List Entry) → pairs_from 0 xs ys ≡ [] → Reordered (xs ++ ys) (ys ++ xs)

-- the last of some values
unfoldable pub last_of : List (List ℕ) → Option (List ℕ)
last_of [] = none
last_of (v ∷ []) = some v
last_of (v ∷ u ∷ vs) = last_of (u ∷ vs)

-- entry i beats the rest; of a malformed query nothing aligns
abbrev pub BeatsIn : List Entry → Query → ℕ → Type 0
BeatsIn es (positions qs) i = Beats (keys_of es) qs i
BeatsIn es malformed i = ⊥
BeatsIn es (past_limit k) i = ⊥

-- the entry that beats the rest has that key
pub record Wins (key : List Part) (es : List Entry) (q : Query) : Type 0 where
  pub winner : ℕ
  pub beats : BeatsIn es q winner
  pub has_it : get_or (keys_of es) winner [] ≡ key

-- a key decides a query in both lists: in each the entry that beats the rest has it, and so each gives the last value under it
pub record Decides (key : List Part) (xs ys : List Entry) (q : Query) : Type 0 where
  pub first_wins : Wins key xs q
  pub second_wins : Wins key ys q
  pub first : answer_of xs q ≡ last_of (values_under key xs)
  pub second : answer_of ys q ≡ last_of (values_under key ys)

-- one list is the other rearranged, in whatever order: the same value, or none, or one key decides in both
abbrev pub OneKeyDecides : Type 0
OneKeyDecides =
    (xs ys : List Entry)
    → Rearranged blank xs ys
    → (q : Query)
    → (answer_of xs q ≡ answer_of ys q) ⊎ ((key : List Part) × Decides key xs ys q)

-- a reply by the value's bytes, not by their place
abbrev pub in_bytes : List ℕ → Reply Place → Reply (List ℕ)
in_bytes bodies r = read_as (λ p. some (bytes_at bodies p)) r

-- what two images answer to a name and a class at bounds on a query, the shell's or the window's or any others, refusals included
pub record AnswerAlike (most : Bounds) (contents bodies contents' bodies' name class : List ℕ) : Type 0 where
  pub bytes : in_bytes bodies (get_bytes_within most contents bodies name class)
      ≡ in_bytes bodies' (get_bytes_within most contents' bodies' name class)
  pub string : in_bytes bodies (get_string_within most contents bodies name class)
      ≡ in_bytes bodies' (get_string_within most contents' bodies' name class)
  pub bool : get_bool_within most contents bodies name class ≡ get_bool_within most contents' bodies' name class
  pub value : get_value_within most contents bodies name class ≡ get_value_within most contents' bodies' name class
  pub show : (default : List ℕ)
      → shown_within most contents bodies name class default ≡ shown_within most contents' bodies' name class default

-- two images that hold such lists answer every query alike; where the lines stand (document 02 (viii)) is left out, as in `SameEntries`
abbrev pub ImagesAlike : Type 0
ImagesAlike =
    (contents bodies contents' bodies' : List ℕ)
    → is_image contents bodies ≡ true
    → is_image contents' bodies' ≡ true
    → Reordered (entries_of_image contents bodies) (entries_of_image contents' bodies')
    → (most : Bounds) (name class : List ℕ)
    → AnswerAlike most contents bodies contents' bodies' name class

-- two main texts of include lines alone, one the other's lines rearranged, where no key comes through two different files that the main
-- text includes: at one depth, with one archive and buffers that are long enough, one is accepted exactly when the other is, with as many
-- entries and opens, and then both images answer every query alike
abbrev pub PacksInAnyOrder : Type 0
PacksInAnyOrder =
    (depth : ℕ) (lines lines' : List (List ℕ)) (archive contents bodies contents' bodies' : List ℕ)
    → are_includes lines ≡ true
    → Rearranged [] lines lines'
    → OneFileEach (read_entries depth (text_of_lines lines ∷ []) archive)
    → too_short contents bodies ≡ false
    → too_short contents' bodies' ≡ false
    → let o = reading depth (text_of_lines lines ∷ []) archive contents bodies in
    let o' = reading depth (text_of_lines lines' ∷ []) archive contents' bodies' in
    ((n m : ℕ) → (o.answer ≡ accepted n m) ↔ (o'.answer ≡ accepted n m))
    × (is_accepted o.answer ≡ true → (most : Bounds) (name class : List ℕ)
    → AnswerAlike most o.contents o.bodies o'.contents o'.bodies name class)

-- and where some keys come through two files: at one depth, only a query that such a key decides can get another answer. If each key that
-- decides it comes through one file alone, both texts give it the same value, or none
abbrev pub OnlyWherePacksMeet : Type 0
OnlyWherePacksMeet =
    (depth : ℕ) (lines lines' : List (List ℕ)) (archive : List ℕ)
    → are_includes lines ≡ true
    → Rearranged [] lines lines'
    → let xs = read_entries depth (text_of_lines lines ∷ []) archive in
    let ys = read_entries depth (text_of_lines lines' ∷ []) archive in
    (q : Query)
    → ((key : List Part) → Decides key (plain xs) (plain ys) q → OneFile key xs)
    → answer_of (plain xs) q ≡ answer_of (plain ys) q
