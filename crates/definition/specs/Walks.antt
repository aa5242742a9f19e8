-- Document 02 (v) by evaluating the definition: walks over lists of entries, and additions, a sentence each. The crate `bounds` has the calls with
-- whole buffers.
use Rattle.std.specs.Prelude.{List, [], ◌∷◌, ◌++◌, map, ◌≡◌, refl, ℕ, replicate}
use Prim.Native.String.{String}
use Rattle.definition.specs.Lists.{ascii}
use Rattle.definition.specs.Text.{Entry}
use Rattle.definition.specs.Image.{key_of}
use Rattle.definition.specs.Query.{past_limit, query_of}
use Rattle.definition.specs.Lookup.{Reply, given, no_value, refused}
use Rattle.definition.specs.Walking.{walk, begun, stepped, walk_step, after_step}
use Rattle.definition.specs.Adding.{Addition, addition, entries_added, over, added_one, listed_after, numbers_from, numbers_of}
use Rattle.definition.specs.Evaluation.{definition, Written, line}

-- ---- Walks

-- entries 0, 1, 3 and 4 align with the name `a.b`
some_entries : List Entry
some_entries = entries_added (ascii "a.b:0\n*b:1\nc:2\na*b:3\n?.b:4\nb.a:5")

-- what is listed of a name
listing : String → List ℕ
listing n = numbers_of (query_of (ascii n) []) some_entries

-- a step for a name, from a next number and a count
step_from : String → ℕ → ℕ → Reply ℕ
step_from n next count = stepped (walk next count) some_entries (query_of (ascii n) [])

walks :
    -- lowest number first, each once
    (listing "a.b" ≡ 0 ∷ 1 ∷ 3 ∷ 4 ∷ [])
    × (listing "b.a" ≡ 5 ∷ [])
    × (listing "c.c" ≡ [])
    × (listing "" ≡ [])
    × (numbers_from 7 (query_of (ascii "a.b") []) some_entries ≡ 7 ∷ 8 ∷ 10 ∷ 11 ∷ [])
    -- a malformed query lists nothing
    × (listing ".a" ≡ [])
    × (step_from ".a" 0 6 ≡ no_value)
    × (stepped (walk 0 6) some_entries (past_limit 9) ≡ refused 9)
    -- the next number is 0 at first, and the count is that of the start
    × (begun 6 (query_of (ascii "a.b") []) ≡ given (walk 0 6))
    × (begun 6 (query_of (ascii ".a") []) ≡ given (walk 0 6))
    × (begun 6 (past_limit 10) ≡ refused 10)
    -- after a step the next is one more; at the end, and where it is refused, the state stays
    × (after_step (walk 2 6) (given 3) ≡ walk 4 6)
    × (after_step (walk 5 6) no_value ≡ walk 5 6)
    × (after_step (walk 2 6) (refused 8) ≡ walk 2 6)
    × (listed_after (0 ∷ 1 ∷ []) (given 3) ≡ 0 ∷ 1 ∷ 3 ∷ [])
    × (listed_after (0 ∷ 1 ∷ []) no_value ≡ 0 ∷ 1 ∷ [])
unfolding definition some_entries listing step_from
walks = (refl, refl, refl, refl, refl, refl, refl, refl, refl, refl, refl, refl, refl, refl, refl, refl)

-- a step from any state
steps :
    -- the least number that aligns, not below the next
    (step_from "a.b" 0 6 ≡ given 0)
    × (step_from "a.b" 1 6 ≡ given 1)
    × (step_from "a.b" 2 6 ≡ given 3)
    × (step_from "a.b" 4 6 ≡ given 4)
    × (step_from "a.b" 5 6 ≡ no_value)
    -- below that count
    × (step_from "a.b" 2 4 ≡ given 3)
    × (step_from "a.b" 2 3 ≡ no_value)
    × (step_from "a.b" 0 0 ≡ no_value)
    × (step_from "a.b" 5 4 ≡ no_value)
    -- and below the number of entries
    × (step_from "b.a" 0 65535 ≡ given 5)
    × (step_from "b.a" 6 65535 ≡ no_value)
    × (step_from "a.b" 65535 65535 ≡ no_value)
    × (step_from "a.b" 65535 6 ≡ no_value)
unfolding definition some_entries step_from
steps = (refl, refl, refl, refl, refl, refl, refl, refl, refl, refl, refl, refl, refl)

-- an image of one entry, with the row of another behind its own: it is below that count, and not below the image's
image : List ℕ
image = 1 ∷ 2 ∷ 0 ∷ 2 ∷ 0 ∷ 0 ∷ 0 ∷ 2 ∷ 0 ∷ 0 ∷ replicate 2040 7

bytes : List ℕ
bytes = ascii ".a" ++ replicate 32766 7

image_steps :
    (walk_step image bytes (ascii "a") [] (walk 0 2) ≡ given 0)
    × (walk_step image bytes (ascii "a") [] (walk 1 2) ≡ no_value)
unfolding definition image bytes
image_steps = (refl, refl)

-- ---- Additions

-- the entries of an added text, as the image writes them
entries_of_text : String → List Written
entries_of_text t = map (λ (e : Entry). record { key = key_of e.parts; value = e.value }) (entries_added (ascii t))

texts :
    -- one entry, among comments and includes, none of which finds a file
    (entries_of_text "a.b:x" ≡ line ".a.b" "x" ∷ [])
    × (entries_of_text "! a comment\n\n#include \"pack\"\n*b : y\\nz\n#include \"./pack\"\nno resource\n" ≡ line "*b" "y\nz" ∷ [])
    -- none
    × (entries_of_text "" ≡ [])
    × (entries_of_text "! a:b\n#include \"pack\"\na.?:b" ≡ [])
    -- two
    × (entries_of_text "a:1\na:1" ≡ line ".a" "1" ∷ line ".a" "1" ∷ [])
    -- in the place of what stands there
    × (over 0 (1 ∷ 2 ∷ []) (7 ∷ 8 ∷ 9 ∷ []) ≡ 1 ∷ 2 ∷ 9 ∷ [])
    × (over 1 (1 ∷ []) (7 ∷ 8 ∷ 9 ∷ []) ≡ 7 ∷ 1 ∷ 9 ∷ [])
    × (over 1 (1 ∷ 2 ∷ []) (7 ∷ 8 ∷ 9 ∷ []) ≡ 7 ∷ 1 ∷ 2 ∷ [])
    × (over 2 [] (7 ∷ 8 ∷ 9 ∷ []) ≡ 7 ∷ 8 ∷ 9 ∷ [])
unfolding definition entries_of_text
texts = (refl, refl, refl, refl, refl, refl, refl, refl, refl)

-- the front of an image of the entry `.a`, whose value is `x`; sevens stand behind it
contents : List ℕ
contents = 1 ∷ 3 ∷ 0 ∷ 2 ∷ 1 ∷ 5 ∷ 7 ∷ 7 ∷ 7 ∷ 7 ∷ 7 ∷ []

bodies : List ℕ
bodies = ascii ".ax" ++ 7 ∷ 7 ∷ 7 ∷ 7 ∷ []

-- a text added to it, after 8 and 2
added : String → Addition
added t = added_one (entries_added (ascii t)) contents bodies

-- what it answers with other numbers in the first two words
answer_at : ℕ → ℕ → String → Reply ℕ
answer_at count used t = (added_one (entries_added (ascii t)) (count ∷ used ∷ []) []).answer

additions :
    -- the number, the row, the bytes and the first two words, and nothing else
    (added "*b: yz" ≡ addition (given 1) (2 ∷ 7 ∷ 0 ∷ 2 ∷ 1 ∷ 5 ∷ 3 ∷ 2 ∷ 2 ∷ 65535 ∷ 7 ∷ []) (ascii ".ax*byz"))
    × (added "b:" ≡ addition (given 1) (2 ∷ 5 ∷ 0 ∷ 2 ∷ 1 ∷ 5 ∷ 3 ∷ 2 ∷ 0 ∷ 65535 ∷ 7 ∷ []) (ascii ".ax.b" ++ 7 ∷ 7 ∷ []))
    × (added "#include \"b\"\n!\na:" ≡ addition (given 1) (2 ∷ 5 ∷ 0 ∷ 2 ∷ 1 ∷ 5 ∷ 3 ∷ 2 ∷ 0 ∷ 65535 ∷ 7 ∷ []) (ascii ".ax.a" ++ 7 ∷ 7 ∷ []))
    -- 12: no entry, or more than one
    × (added "" ≡ addition (refused 12) contents bodies)
    × (added "! a:b\n#include \"a\"" ≡ addition (refused 12) contents bodies)
    × (added "a:\nb:" ≡ addition (refused 12) contents bodies)
    -- before 5
    × (added "a.a.a.a.a.a.a.a.a.a.a.a.a.a.a.a.a:\nb:" ≡ addition (refused 12) contents bodies)
    × (added "b:\na.a.a.a.a.a.a.a.a.a.a.a.a.a.a.a.a:" ≡ addition (refused 12) contents bodies)
    × (added "a.a.a.a.a.a.a.a.a.a.a.a.a.a.a.a.a:" ≡ addition (refused 5) contents bodies)
    × (answer_at 1 3 "a.a.a.a.a.a.a.a.a.a.a.a.a.a.a.a:" ≡ given 1)
    -- 5 before 6, and 6 before 7, with the image's entries and bytes
    × (answer_at 512 3 "a.a.a.a.a.a.a.a.a.a.a.a.a.a.a.a.a:" ≡ refused 5)
    × (answer_at 512 32768 "a:" ≡ refused 6)
    × (answer_at 511 32767 "a:" ≡ refused 7)
    × (answer_at 511 32766 "a:" ≡ given 511)
    × (answer_at 511 32766 "a:x" ≡ refused 7)
    × (answer_at 0 0 "a:" ≡ given 0)
unfolding definition contents bodies added answer_at
additions = (refl, refl, refl, refl, refl, refl, refl, refl, refl, refl, refl, refl, refl, refl, refl, refl)
