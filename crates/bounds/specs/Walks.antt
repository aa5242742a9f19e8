-- Walks and additions (document 02 (v)), refusals among them, in whole buffers, by evaluating the definition.
use Rattle.std.specs.Prelude.{List, [], ◌∷◌, ◌++◌, ◌≡◌, refl, ℕ, replicate, drop}
use Rattle.definition.specs.Lists.{ascii}
use Rattle.definition.specs.Image.{count_of}
use Rattle.definition.specs.Lookup.{given, no_value, refused}
use Rattle.definition.specs.Walking.{walk, walk_start, walk_step}
use Rattle.definition.specs.Adding.{addition, adding, Turn, step, add, History, beginning, played}
use Rattle.definition.specs.Evaluation.{definition}
use Rattle.bounds.specs.Lookups.{copies, contents, bodies, rows_alike, words_alike, bytes_alike, name}

-- an image of an entry `.a`, with sevens behind it in both buffers
rows : List ℕ
rows = 1 ∷ 3 ∷ 0 ∷ 2 ∷ 1 ∷ 0 ∷ contents

bytes : List ℕ
bytes = ascii ".ax" ++ bodies

-- 8, 9, malformed, 10
walks :
    (walk_start rows bytes (ascii "a") [] ≡ given (walk 0 1))
    × (walk_start contents bytes (ascii "a") [] ≡ refused 8)
    × (walk_start contents bytes (replicate 1025 97) [] ≡ refused 8)
    × (walk_start rows bytes (replicate 1025 97) [] ≡ refused 9)
    × (walk_start rows bytes (name 33) [] ≡ refused 10)
    × (walk_start rows bytes (name 33) (ascii ".a") ≡ given (walk 0 1))
    × (walk_step rows bytes (ascii "a") [] (walk 0 1) ≡ given 0)
    × (walk_step rows bytes (ascii "a") [] (walk 1 1) ≡ no_value)
    × (walk_step rows bytes (ascii "a") [] (walk 65535 65535) ≡ no_value)
    × (walk_step contents bytes (ascii "a") [] (walk 0 1) ≡ refused 8)
    × (walk_step contents bytes (replicate 1025 97) [] (walk 0 1) ≡ refused 8)
    × (walk_step rows bytes [] (replicate 1025 46) (walk 0 1) ≡ refused 9)
    × (walk_step rows bytes (name 33) [] (walk 0 1) ≡ refused 10)
    × (walk_step rows bytes (name 33) (ascii ".a") (walk 0 1) ≡ no_value)
    -- at the end a refusal comes first too
    × (walk_step rows bytes (name 33) [] (walk 1 1) ≡ refused 10)
unfolding definition copies contents bodies name rows bytes
walks = (refl, refl, refl, refl, refl, refl, refl, refl, refl, refl, refl, refl, refl, refl, refl)

-- an image with just as many bytes left as a key `.b` needs
full : List ℕ
full = 1 ∷ 32766 ∷ 0 ∷ 2 ∷ 32764 ∷ 64 ∷ contents

full_bytes : List ℕ
full_bytes = ascii ".a" ++ replicate 32766 7

additions :
    -- the row, the bytes and the first two words
    (adding rows bytes (ascii "*b: yz\n") ≡ addition (given 1) (2 ∷ 7 ∷ 0 ∷ 2 ∷ 1 ∷ 0 ∷ 3 ∷ 2 ∷ 2 ∷ 65535 ∷ drop 4 contents) (ascii ".ax*byz" ++ drop 4 bodies))
    × (adding full full_bytes (ascii "b:") ≡ addition (given 1) (2 ∷ 32768 ∷ 0 ∷ 2 ∷ 32764 ∷ 64 ∷ 32766 ∷ 2 ∷ 0 ∷ 65535 ∷ drop 4 contents) (ascii ".a" ++ replicate 32764 7 ++ ascii ".b"))
    -- 8, then 2, then 12, then 5 to 7
    × (adding contents bytes (replicate 32769 10) ≡ addition (refused 8) contents bytes)
    × (adding rows bytes (replicate 32769 10) ≡ addition (refused 2) rows bytes)
    × (adding rows bytes (33 ∷ replicate 32767 97) ≡ addition (refused 12) rows bytes)
    × (adding rows bytes (ascii "b:\nc:") ≡ addition (refused 12) rows bytes)
    × (adding rows bytes (name 16 ++ ascii "a:\nb:") ≡ addition (refused 12) rows bytes)
    × (adding rows bytes (name 16 ++ ascii "a:") ≡ addition (refused 5) rows bytes)
    × (adding full full_bytes (name 16 ++ ascii "a:") ≡ addition (refused 5) full full_bytes)
    × (adding full full_bytes (ascii "b:x") ≡ addition (refused 7) full full_bytes)
unfolding definition copies contents bodies name rows bytes full full_bytes
additions = (refl, refl, refl, refl, refl, refl, refl, refl, refl, refl)

-- an image of 512 entries has no room for another
most_added : adding (words_alike 512) (bytes_alike 512) (ascii "b:") ≡ addition (refused 6) (words_alike 512) (bytes_alike 512)
unfolding definition copies contents bodies rows_alike words_alike bytes_alike
most_added = refl

-- ---- A walk with additions under way

-- a walk for `a` from an image of `.a`, `.b` and `*a`, and the turns taken
walked : List Turn → History
walked ts =
    played (ascii "a") [] ts
    (beginning (3 ∷ 6 ∷ 0 ∷ 2 ∷ 0 ∷ 0 ∷ 2 ∷ 2 ∷ 0 ∷ 1 ∷ 4 ∷ 2 ∷ 0 ∷ 65535 ∷ contents) (ascii ".a.b*a" ++ bodies) (walk 0 3))

-- what a walk begun after these lists
listed_then : List Turn → List ℕ
listed_then ts =
    let h = walked ts in
    (played (ascii "a") [] (step ∷ step ∷ step ∷ step ∷ [])
    (beginning h.contents h.bodies (walk 0 (count_of h.contents)))).listed

-- two lines added, and one refused
additions_between : List Turn
additions_between = add (ascii "a: x") ∷ step ∷ add (ascii "a:\na:") ∷ add (ascii "c:") ∷ step ∷ step ∷ []

histories :
    ((walked (step ∷ [])).listed ≡ 0 ∷ [])
    × ((walked (step ∷ step ∷ [])).listed ≡ 0 ∷ 2 ∷ [])
    × ((walked (step ∷ step ∷ [])).walk ≡ walk 3 3)
    -- at the end the state stays
    × ((walked (step ∷ step ∷ step ∷ [])).listed ≡ 0 ∷ 2 ∷ [])
    × ((walked (step ∷ step ∷ step ∷ [])).walk ≡ walk 3 3)
    -- an added line first shows in a walk begun after it
    × ((walked additions_between).listed ≡ 0 ∷ 2 ∷ [])
    × (count_of (walked additions_between).contents ≡ 5)
    × (listed_then additions_between ≡ 0 ∷ 2 ∷ 3 ∷ [])
unfolding definition contents bodies walked listed_then additions_between
histories = (refl, refl, refl, refl, refl, refl, refl, refl)
