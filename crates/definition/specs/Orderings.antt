-- Document 02 (vii) by evaluating the definition: orders of entries and of packs, a sentence each.
use Rattle.std.specs.Prelude.{true, false, List, [], ◌∷◌, map, ◌≡◌, refl, ℕ, zero, suc, ◌<◌, length, get_or}
use Rattle.std.proofs.Math.Option.{Option, some, none}
use Rattle.std.proofs.Common.{ap, arith}
use Prim.Native.String.{String}
use Rattle.definition.specs.Lists.{ascii}
use Rattle.definition.specs.Limits.{default_depth}
use Rattle.definition.specs.Archive.{File, archive_of}
use Rattle.definition.specs.Text.{tight, loose, name, Part, Entry}
use Rattle.definition.specs.Reading.{plain, read_entries}
use Rattle.definition.specs.Query.{query_of}
use Rattle.definition.specs.Ranking.{rank_of}
use Rattle.definition.specs.Lookup.{keys_of, answer_of, given, no_value, refused}
use Rattle.definition.specs.Adding.{entries_added}
use Rattle.definition.specs.Orders.{blank, Reordered, same_binding, same_component, same_key, values_under, numbers_with, Pair, pair, pairs_from, next_with_key, last_of, name_included, is_there, are_includes, text_of_lines, outermost, OneFileEach, in_bytes}
use Rattle.definition.specs.Evaluation.{definition, file, answer}

-- ---- Equal rows

-- the highest row of a line's key, for the name `a.b` and the class `A.B`
row_of : String → List (Option (List ℕ))
row_of t =
    map (λ (e : Entry). rank_of e.parts
    (record { instance = some (ascii "a"); class = some (ascii "A") } ∷ record { instance = some (ascii "b"); class = some (ascii "B") } ∷ []))
    (entries_added (ascii t))

rows :
    -- keys that differ only in a binding have different rows, however the part matches
    (row_of "a.b:" ≡ some (6 ∷ 6 ∷ []) ∷ [])
    × (row_of "*a.b:" ≡ some (5 ∷ 6 ∷ []) ∷ [])
    × (row_of "A.b:" ≡ some (4 ∷ 6 ∷ []) ∷ [])
    × (row_of "*A.b:" ≡ some (3 ∷ 6 ∷ []) ∷ [])
    × (row_of "?.b:" ≡ some (2 ∷ 6 ∷ []) ∷ [])
    × (row_of "*?.b:" ≡ some (1 ∷ 6 ∷ []) ∷ [])
    × (row_of "*b:" ≡ some (0 ∷ 5 ∷ []) ∷ [])
    -- nothing aligns, so there is no row
    × (row_of "a:\nc.b:\n.b:" ≡ none ∷ none ∷ none ∷ [])
unfolding definition row_of
rows = (refl, refl, refl, refl, refl, refl, refl, refl)

-- ---- The order of entries

orders :
    -- three keys in any order
    (answer "a.b:1\n*b:2\na*b:3" "a.b" "" ≡ some (ascii "1"))
    × (answer "*b:2\na*b:3\na.b:1" "a.b" "" ≡ some (ascii "1"))
    × (answer "a*b:3\na.b:1\n*b:2" "a.b" "" ≡ some (ascii "1"))
    -- two bindings, by name, by class and by `?`
    × (answer "a:1\n*a:2" "a" "A" ≡ some (ascii "1"))
    × (answer "*a:2\na:1" "a" "A" ≡ some (ascii "1"))
    × (answer "A:1\n*A:2" "a" "A" ≡ some (ascii "1"))
    × (answer "*A:2\nA:1" "a" "A" ≡ some (ascii "1"))
    × (answer "?.a:1\n*?.a:2" "a.a" "" ≡ some (ascii "1"))
    × (answer "*?.a:2\n?.a:1" "a.a" "" ≡ some (ascii "1"))
    -- a name, loose, above a class, tight
    × (answer "*a:0\nB:1" "a" "B" ≡ some (ascii "0"))
    × (answer "B:1\n*a:0" "a" "B" ≡ some (ascii "0"))
    -- an entry of another key between two of equal key
    × (answer "a:1\na:2\n*a:3" "a" "" ≡ some (ascii "2"))
    × (answer "a:1\n*a:3\na:2" "a" "" ≡ some (ascii "2"))
    × (answer "*a:3\na:1\na:2" "a" "" ≡ some (ascii "2"))
    -- of equal key in another order: the answer differs
    × (answer "a:2\na:1\n*a:3" "a" "" ≡ some (ascii "1"))
    -- none, and malformed
    × (answer "a:1\n*b:2" "c" "" ≡ none)
    × (answer "*b:2\na:1" "c" "" ≡ none)
    × (answer "a:1\n*b:2" ".a" "" ≡ none)
unfolding definition answer
orders = (refl, refl, refl, refl, refl, refl, refl, refl, refl, refl, refl, refl, refl, refl, refl, refl, refl, refl)

-- the values under the key of a line's first entry
values_of : String → String → List (List (List ℕ))
values_of k t = map (λ (e : Entry). values_under e.parts (entries_added (ascii t))) (entries_added (ascii k))

values :
    -- in their order, and none of another key
    (values_of "a.b:" "a.b:1\n*b:2\na.b:3\na*b:4\n?.b:5\na:6\na.b.b:7" ≡ (ascii "1" ∷ ascii "3" ∷ []) ∷ [])
    × (values_of "a*b:" "a.b:1\n*b:2\na.b:3\na*b:4\n?.b:5\na:6\na.b.b:7" ≡ (ascii "4" ∷ []) ∷ [])
    × (values_of "?.b:" "a.b:1\n*b:2\na.b:3\na*b:4\n?.b:5\na:6\na.b.b:7" ≡ (ascii "5" ∷ []) ∷ [])
    × (values_of "b:" "a.b:1\n*b:2" ≡ [] ∷ [])
    -- an equal entry counts as often as it stands there
    × (values_of "a:" "a:1\na:1\nb:2\na:1" ≡ (ascii "1" ∷ ascii "1" ∷ ascii "1" ∷ []) ∷ [])
unfolding definition same_binding same_component same_key values_under values_of
values = (refl, refl, refl, refl, refl)

-- where two lists meet
met : String → String → List Pair
met t u = pairs_from 0 (entries_added (ascii t)) (entries_added (ascii u))

-- the first entry of the second with the key of entry i of the first, from a number on
shared : String → ℕ → String → ℕ → Option ℕ
shared t i u next = next_with_key (entries_added (ascii t)) i (entries_added (ascii u)) next

pairs :
    -- by the first, then by the second
    (met "a:1\nb:2\na:3" "c:\na:4\n*a:5\na:6" ≡ pair 0 1 ∷ pair 0 3 ∷ pair 2 1 ∷ pair 2 3 ∷ [])
    × (met "a:1\n*b:2" "b:1\n*a:2" ≡ [])
    × (met "" "a:1" ≡ [])
    × (met "a:1" "" ≡ [])
    -- a step
    × (shared "a:1\nb:2\na:3" 2 "c:\na:4\n*a:5\na:6" 0 ≡ some 1)
    × (shared "a:1\nb:2\na:3" 2 "c:\na:4\n*a:5\na:6" 1 ≡ some 1)
    × (shared "a:1\nb:2\na:3" 2 "c:\na:4\n*a:5\na:6" 2 ≡ some 3)
    × (shared "a:1\nb:2\na:3" 2 "c:\na:4\n*a:5\na:6" 4 ≡ none)
    × (shared "a:1\nb:2\na:3" 1 "c:\na:4\n*a:5\na:6" 0 ≡ none)
    × (shared "a:1\nb:2\na:3" 3 "c:\na:4\n*a:5\na:6" 0 ≡ none)
    × (shared "a:1" 0 "a:4" 65535 ≡ none)
    -- the last of some values
    × (last_of [] ≡ none)
    × (last_of (ascii "1" ∷ []) ≡ some (ascii "1"))
    × (last_of (ascii "1" ∷ ascii "2" ∷ ascii "3" ∷ []) ≡ some (ascii "3"))
    -- the key `.a` is in both lists: either order gives the last value under it in the list that stands last; and where another key wins,
    -- both give the same
    × (answer "a:1\nb:2\na:3\nc:\na:4\n*a:5\na:6" "a" "" ≡ some (ascii "6"))
    × (answer "c:\na:4\n*a:5\na:6\na:1\nb:2\na:3" "a" "" ≡ some (ascii "3"))
    × (answer "a:1\nb:2\na:3\nc:\na:4\n*a:5\na:6" "x.a" "" ≡ some (ascii "5"))
    × (answer "c:\na:4\n*a:5\na:6\na:1\nb:2\na:3" "x.a" "" ≡ some (ascii "5"))
unfolding definition same_binding same_component same_key numbers_with pairs_from next_with_key last_of met shared answer
pairs = (refl, refl, refl, refl, refl, refl, refl, refl, refl, refl, refl, refl, refl, refl, refl, refl, refl, refl)

-- ---- One list is the other rearranged, and of two entries with equal key the earlier stays the earlier

-- the entry `.a`, and the entry `*a`
abbrev bound : String → Entry
bound v = record { parts = record { binding = tight; component = name (ascii "a") } ∷ []; value = ascii v }

abbrev free : String → Entry
free v = record { parts = record { binding = loose; component = name (ascii "a") } ∷ []; value = ascii v }

-- the byte of a value of one byte
byte_of : Entry → ℕ
byte_of e = get_or e.value 0 0

-- two entries of equal key are not reordered if they change places
not_reordered : Reordered (bound "1" ∷ bound "2" ∷ []) (bound "2" ∷ bound "1" ∷ []) → ⊥
unfolding byte_of
not_reordered r =
    let first = r.in_order 0 1 (omega arith) (omega arith) refl in
    let last = r.rearranged.inside 1 (omega arith) in
    let stays : r.rearranged.place 0 ≡ 0 = omega arith in
    let e = r.rearranged.element 0 (omega arith) in
    let z : ◌≡◌ {A = ℕ} 50 49 = ap byte_of (rw stays at e) in
    omega arith

-- nor is a list with an entry left out
not_fewer : Reordered (bound "1" ∷ bound "1" ∷ []) (bound "1" ∷ []) → ⊥
not_fewer r =
    omega (
      arith,
      r.in_order 0 1 (omega arith) (omega arith) refl,
      r.rearranged.inside 1 (omega arith),
    )

-- the first two change places
exchanged : ℕ → ℕ
exchanged zero = 1
exchanged (suc zero) = 0
exchanged (suc (suc i)) = suc (suc i)

exchanged_inside : (i : ℕ) → i < 3 → exchanged i < 3
unfolding exchanged
exchanged_inside zero h = omega arith
exchanged_inside (suc zero) h = omega arith
exchanged_inside (suc (suc i)) h = h

exchanged_twice : (i : ℕ) → i < 3 → exchanged (exchanged i) ≡ i
unfolding exchanged
exchanged_twice zero h = refl
exchanged_twice (suc zero) h = refl
exchanged_twice (suc (suc i)) h = refl

abbrev before : List Entry
before = bound "1" ∷ free "2" ∷ bound "3" ∷ []

abbrev after : List Entry
after = free "2" ∷ bound "1" ∷ bound "3" ∷ []

exchanged_element : (i : ℕ) → i < 3 → get_or after (exchanged i) blank ≡ get_or before i blank
unfolding exchanged
exchanged_element zero h = refl
exchanged_element (suc zero) h = refl
exchanged_element (suc (suc zero)) h = refl
exchanged_element (suc (suc (suc i))) h = absurd (omega arith)

is_loose : List Part → ℕ
is_loose [] = 0
is_loose (p ∷ ps) = elim p.binding [ tight ↦ 0 | loose ↦ 1 ]

exchanged_order : (i j : ℕ) → i < j → j < 3 → get_or (keys_of before) i [] ≡ get_or (keys_of before) j [] → exchanged i < exchanged j
unfolding exchanged is_loose
exchanged_order i zero h k e = absurd (omega arith)
exchanged_order zero (suc zero) h k e = let z : ◌≡◌ {A = ℕ} 0 1 = ap is_loose e in absurd (omega arith)
exchanged_order (suc i) (suc zero) h k e = absurd (omega arith)
exchanged_order zero (suc (suc j)) h k e = omega arith
exchanged_order (suc zero) (suc (suc j)) h k e = omega arith
exchanged_order (suc (suc i)) (suc (suc j)) h k e = h

-- an entry of another key goes before; those of equal key keep their order
one_reordered : Reordered before after
one_reordered = record {
  rearranged = record {
    place = exchanged;
    back = exchanged;
    inside = exchanged_inside;
    inside_back = exchanged_inside;
    undone = exchanged_twice;
    undone_back = exchanged_twice;
    element = exchanged_element;
  };
  in_order = exchanged_order;
}

-- ---- Packs

-- what a query for `a` gets from a main text and packs, at a depth and where none is given, and the file of the main text that each entry
-- came through
packed_at : ℕ → List File → String → Option (List ℕ)
packed_at depth fs t = answer_of (plain (read_entries depth (ascii t ∷ []) (archive_of fs))) (query_of (ascii "a") [])

packed : List File → String → Option (List ℕ)
packed fs t = packed_at default_depth fs t

through : List File → String → List (List ℕ)
through fs t = map outermost (read_entries default_depth (ascii t ∷ []) (archive_of fs))

-- c is included by p, before an entry of p's own, and by q
three : List File
three = file "c" "a:2" ∷ file "p" "#include \"c\"\na:1" ∷ file "q" "#include \"c\"" ∷ []

-- p has two entries of one key, and q an entry of another
two : List File
two = file "p" "a:1\na:2" ∷ file "q" "*a:3" ∷ []

packs :
    -- the key `.a` comes through p and through q: the order of the packs changes the answer
    (packed three "#include \"p\"\n#include \"q\"\n" ≡ some (ascii "2"))
    × (packed three "#include \"q\"\n#include \"p\"\n" ≡ some (ascii "1"))
    × (through three "#include \"p\"\n#include \"q\"\n" ≡ ascii "p" ∷ ascii "p" ∷ ascii "q" ∷ [])
    -- no key comes through two: it does not, however often a file is included, and by whatever name
    × (packed two "#include \"p\"\n#include \"q\"\n" ≡ some (ascii "2"))
    × (packed two "#include \"q\"\n#include \"p\"\n" ≡ some (ascii "2"))
    × (packed two "#include \"p\"\n#include \"q\"\n#include \"./p\"\n" ≡ some (ascii "2"))
    × (packed two "#include \"./p\"\n#include \"p\"\n#include \"q\"\n" ≡ some (ascii "2"))
    × (through two "#include \"p\"\n#include \"q\"\n#include \"./p\"\n" ≡ ascii "p" ∷ ascii "p" ∷ ascii "q" ∷ ascii "p" ∷ ascii "p" ∷ [])
    -- a line that finds no file adds nothing, wherever it stands
    × (packed two "#include \"r\"\n#include \"p\"\n#include \"..\"\n" ≡ some (ascii "2"))
    -- at depth 1 c is not read, and no key comes through two
    × (packed_at 1 three "#include \"p\"\n#include \"q\"\n" ≡ some (ascii "1"))
    × (packed_at 1 three "#include \"q\"\n#include \"p\"\n" ≡ some (ascii "1"))
unfolding definition packed_at packed through three two
packs = (refl, refl, refl, refl, refl, refl, refl, refl, refl, refl, refl)

-- of the first, the key of entries 1 and 2 comes through p and through q
not_one_each : OneFileEach (read_entries default_depth (ascii "#include \"p\"\n#include \"q\"\n" ∷ []) (archive_of three)) → ⊥
unfolding definition three
not_one_each one =
    let z : ◌≡◌ {A = ℕ} 112 113 = ap (λ (f : List ℕ). get_or f 0 0) (one _ 1 2 (omega arith) (omega arith) refl refl) in
    omega arith

lines :
    -- an include line: what follows the name is ignored, and the newline is not part of it
    (name_included (ascii "#include \"p\"") ≡ some (ascii "p"))
    × (name_included (ascii "#  include  \"a/b\" and more") ≡ some (ascii "a/b"))
    × (name_included (ascii "#include \"\"") ≡ some [])
    × (name_included (ascii "#include \"p\"\n") ≡ none)
    × (name_included (ascii "#include \"p") ≡ none)
    × (name_included (ascii "#include p") ≡ none)
    × (name_included (ascii "a:1") ≡ none)
    × (name_included [] ≡ none)
    × (are_includes (ascii "#include \"p\"" ∷ ascii "#include \"q\"" ∷ []) ≡ true)
    × (are_includes (ascii "#include \"p\"" ∷ ascii "! q" ∷ []) ≡ false)
    × (are_includes [] ≡ true)
    -- each line ended by a newline
    × (text_of_lines (ascii "#include \"p\"" ∷ ascii "#include \"q\"" ∷ []) ≡ ascii "#include \"p\"\n#include \"q\"\n")
    × (text_of_lines [] ≡ [])
    -- a reply by bytes
    × (in_bytes (ascii ".a1") (given (record { start = 2; length = 1 })) ≡ given (ascii "1"))
    × (in_bytes (ascii ".a1") (given (record { start = 2; length = 0 })) ≡ given [])
    × (in_bytes (ascii ".a1") no_value ≡ no_value)
    × (in_bytes (ascii ".a1") (refused 9) ≡ refused 9)
unfolding definition name_included is_there text_of_lines
lines = (refl, refl, refl, refl, refl, refl, refl, refl, refl, refl, refl, refl, refl, refl, refl, refl, refl)
