-- From which file an entry is (document 02 (viii)), and old images carried over, in whole buffers, by evaluating the definition.
use Rattle.std.specs.Prelude.{List, [], ◌∷◌, ◌++◌, ◌≡◌, refl, ℕ, replicate}
use Rattle.definition.specs.Lists.{ascii}
use Rattle.definition.specs.Limits.{default_depth}
use Rattle.definition.specs.Archive.{archive_of}
use Rattle.definition.specs.Reading.{Outcome, outcome, accepted, refused, reading}
use Rattle.definition.specs.Writing.{filled, written, refused as refusedFill, writing}
use Rattle.definition.specs.Lookup.{given, refused as refusedReply, Place, get_bytes}
use Rattle.definition.specs.Migration.{migrating}
use Rattle.definition.specs.Evaluation.{definition, file}
use Rattle.bounds.specs.Lookups.{contents, bodies}

-- a main text with a file that includes another: lines of all three, and of the main text again
read : Outcome
read =
    reading default_depth (ascii "a:\n#include \"q\"\nb:" ∷ ascii "e:" ∷ [])
    (archive_of (file "p" "c:" ∷ file "q" "#include \"p\"\nd:" ∷ [])) contents bodies

-- four words a row, the fourth the place of the file where the line stands
reads :
    read
    ≡ outcome (accepted 5 2)
    (5 ∷ 10 ∷ 0 ∷ 2 ∷ 0 ∷ 0 ∷ 2 ∷ 2 ∷ 0 ∷ 1 ∷ 4 ∷ 2 ∷ 0 ∷ 2 ∷ 6 ∷ 2 ∷ 0 ∷ 0 ∷ 8 ∷ 2 ∷ 0 ∷ 0 ∷ replicate 2028 0 ++ 7 ∷ 7 ∷ [])
    (ascii ".a.c.d.b.e" ++ replicate 32758 0 ++ 7 ∷ 7 ∷ [])
unfolding definition contents bodies read
reads = refl

-- an image of the entry `.a` whose value is `x`, with that origin
with_origin : ℕ → List ℕ
with_origin origin = 1 ∷ 3 ∷ 0 ∷ 2 ∷ 1 ∷ origin ∷ contents

found : Place
found = record { start = 2; length = 1 }

-- 0 to 64 or 65,535 in a row below the count, whatever archive there was; behind it anything
judged :
    (get_bytes (with_origin 0) (ascii ".ax" ++ bodies) (ascii "a") [] ≡ given found)
    × (get_bytes (with_origin 64) (ascii ".ax" ++ bodies) (ascii "a") [] ≡ given found)
    × (get_bytes (with_origin 65) (ascii ".ax" ++ bodies) (ascii "a") [] ≡ refusedReply 8)
    × (get_bytes (with_origin 65534) (ascii ".ax" ++ bodies) (ascii "a") [] ≡ refusedReply 8)
    × (get_bytes (with_origin 65535) (ascii ".ax" ++ bodies) (ascii "a") [] ≡ given found)
    -- an old image of 1,538 words
    × (get_bytes (1 ∷ 3 ∷ 0 ∷ 2 ∷ 1 ∷ replicate 1533 0) (ascii ".ax" ++ bodies) (ascii "a") [] ≡ refusedReply 8)
    × (get_bytes (replicate 2049 0) bodies [] [] ≡ refusedReply 8)
unfolding definition contents bodies with_origin found
judged = (refl, refl, refl, refl, refl, refl, refl)

-- a database written out is the same text, wherever its lines stand
writes :
    (writing (with_origin 64) (ascii ".ax" ++ bodies) (replicate 6 7) ≡ filled (written 6) (ascii ".a: x\n"))
    × (writing (with_origin 65535) (ascii ".ax" ++ bodies) (replicate 6 7) ≡ filled (written 6) (ascii ".a: x\n"))
    × (writing (with_origin 65) (ascii ".ax" ++ bodies) (replicate 6 7) ≡ filled (refusedFill 8) (replicate 6 7))
unfolding definition contents bodies with_origin
writes = (refl, refl, refl)

-- an old image of `.a` and `*b`, just as long as one is, with sevens behind its rows and its bytes
old : List ℕ
old = 2 ∷ 6 ∷ 0 ∷ 2 ∷ 1 ∷ 3 ∷ 2 ∷ 1 ∷ replicate 1530 7

old_bytes : List ℕ
old_bytes = ascii ".ax*by" ++ replicate 32762 7

migrations :
    -- the old entries, 65,535 in every row, zeroed past them as by a reading
    (migrating old old_bytes contents bodies
    ≡ outcome (accepted 2 0) (2 ∷ 6 ∷ 0 ∷ 2 ∷ 1 ∷ 65535 ∷ 3 ∷ 2 ∷ 1 ∷ 65535 ∷ replicate 2040 0 ++ 7 ∷ 7 ∷ []) (ascii ".ax*by" ++ replicate 32762 0 ++ 7 ∷ 7 ∷ []))
    × (migrating (0 ∷ 0 ∷ replicate 1536 7) bodies contents bodies
    ≡ outcome (accepted 0 0) (replicate 2050 0 ++ 7 ∷ 7 ∷ []) (replicate 32768 0 ++ 7 ∷ 7 ∷ []))
    -- 8 by the old judging: too short, a word or a byte; a start that is off; a new image is no old one
    × (migrating (replicate 1537 0) old_bytes contents bodies ≡ outcome (refused 8) contents bodies)
    × (migrating old (replicate 32767 0) contents bodies ≡ outcome (refused 8) contents bodies)
    × (migrating (1 ∷ 3 ∷ 1 ∷ 2 ∷ 1 ∷ replicate 1533 0) old_bytes contents bodies ≡ outcome (refused 8) contents bodies)
    × (migrating (2 ∷ 6 ∷ 0 ∷ 2 ∷ 1 ∷ 65535 ∷ 3 ∷ 2 ∷ 1 ∷ 65535 ∷ replicate 2040 0) old_bytes contents bodies ≡ outcome (refused 8) contents bodies)
    -- then 1
    × (migrating (replicate 1537 0) old_bytes [] [] ≡ outcome (refused 8) [] [])
    × (migrating old old_bytes (replicate 2049 7) bodies ≡ outcome (refused 1) (replicate 2049 7) bodies)
    × (migrating old old_bytes contents (replicate 32767 7) ≡ outcome (refused 1) contents (replicate 32767 7))
unfolding definition contents bodies old old_bytes
migrations = (refl, refl, refl, refl, refl, refl, refl, refl, refl)
