-- Document 02 (ix) by evaluating the definition: packs that come and go, watched answers, refusals and reports, a sentence each. The crate `bounds`
-- has histories and calls with whole buffers.
use Rattle.std.specs.Prelude.{Bool, true, false, ◌≡◌, refl, ℕ, length, replicate}
use mathlib.Core.List.{List, [], ◌∷◌, ◌++◌, map, flatten}
use Rattle.std.proofs.Math.Option.{Option, some, none}
use Prim.Native.String.{String}
use Rattle.definition.specs.Lists.{ascii}
use Rattle.definition.specs.Limits.{unknown_file, board_words, board_bytes}
use Rattle.definition.specs.Text.{Entry}
use Rattle.definition.specs.Image.{all_from, contents_of, store_of, image_contents, image_bodies}
use Rattle.definition.specs.Lookup.{Reply, given, no_value, refused}
use Rattle.definition.specs.Adding.{entries_added}
use Rattle.definition.specs.Board.{Arrival, Pack, kept, Watched, Board, empty, Call, watch, arrive, leave, reply_to, changed, after_calls, joined, Found, watched_answer, watched_answers, answer_bytes, bits_of, report, lent, done, board_make}
use Rattle.definition.specs.Evaluation.{definition}

-- a pack by its number and its text; its buffers end with what is used
pack : ℕ → String → Arrival
pack n t = record { number = n; contents = contents_of (all_from unknown_file (entries_added (ascii t))); bodies = store_of (entries_added (ascii t)) }

asks : String → String → Call
asks n c = watch (record { name = ascii n; class = ascii c })

found : ℕ → ℕ → ℕ → Reply Found
found n start size = given (record { pack = n; place = record { start = start; length = size } })

-- accepted calls, one after another
after : List Call → Board → Board
after [] b = b
after (c ∷ cs) b = after cs (changed c b)

-- three packs, the second of which has the better line for `a.b`
packed : Board
packed = after (asks "a.b" "" ∷ arrive (pack 7 "a*b:old\n*c:x") ∷ arrive (pack 9 "c:\na.b:new") ∷ arrive (pack 2 "a*b:last") ∷ []) empty

answer_after : List Call → ℕ → Reply Found
answer_after cs q = watched_answer (after cs packed) q

answers :
    -- pack number, place in that pack's bodies, and length
    (answer_after [] 0 ≡ found 9 6 3)
    × (answer_bytes packed 0 ≡ some (ascii "new"))
    -- of equals the later arrival wins, and one that left and came again is last
    × (answer_after (leave 9 ∷ []) 0 ≡ found 2 4 4)
    × (answer_after (leave 9 ∷ leave 2 ∷ []) 0 ≡ found 7 4 3)
    × (answer_after (leave 9 ∷ leave 7 ∷ arrive (pack 7 "a*b:old") ∷ []) 0 ≡ found 7 4 3)
    -- none, also for a malformed query and for a number with no query
    × (answer_after (leave 9 ∷ leave 2 ∷ leave 7 ∷ []) 0 ≡ no_value)
    × (answer_after (asks ".a" "" ∷ []) 1 ≡ no_value)
    × (answer_after [] 1 ≡ no_value)
    -- all of them, in their order
    × (watched_answers (after (asks ".a" "" ∷ asks "c" "" ∷ []) packed) ≡ found 9 6 3 ∷ no_value ∷ found 9 2 0 ∷ [])
    -- an empty value is not none
    × (answer_bytes (after (asks "c" "" ∷ []) packed) 1 ≡ some [])
    -- two equal queries get two numbers
    × (reply_to (asks "a.b" "") packed ≡ given 1)
    × (answer_after (asks "a.b" "" ∷ []) 1 ≡ found 9 6 3)
    -- the others keep their order
    × (map (λ p. p.number) (after (leave 9 ∷ arrive (pack 4 "") ∷ []) packed).packs ≡ 7 ∷ 2 ∷ 4 ∷ [])
    -- of an image rows, and the bytes that are used
    × (kept (record { number = 6; contents = 1 ∷ 3 ∷ 0 ∷ 2 ∷ 1 ∷ 0 ∷ 8 ∷ []; bodies = ascii ".axyz" }) ≡ kept (pack 6 "a:x"))
unfolding definition pack asks found after packed answer_after
answers = (refl, refl, refl, refl, refl, refl, refl, refl, refl, refl, refl, refl, refl, refl)

-- ---- Turned away

-- so many packs and queries, with no entries
holding : ℕ → ℕ → Board
holding p q = record {
  packs = replicate p (record { number = 5; rows = []; store = [] });
  queries = replicate q (record { name = []; class = [] });
}

-- an image of no entries
no_entries : ℕ → Arrival
no_entries n = record { number = n; contents = image_contents [] []; bodies = image_bodies [] [] }

turned_away :
    -- 8 for an arriving image, before 13
    (reply_to (arrive (record { number = 0; contents = []; bodies = [] })) (holding 16 0) ≡ refused 8)
    -- 13, a seventeenth pack, before 14
    × (reply_to (arrive (no_entries 0)) (holding 16 0) ≡ refused 13)
    × (reply_to (arrive (no_entries 5)) (holding 16 0) ≡ refused 13)
    × (reply_to (arrive (no_entries 1)) (holding 15 32) ≡ given 0)
    -- 14, a number zero, already present on arrival or absent on leaving
    × (reply_to (arrive (no_entries 0)) (holding 0 0) ≡ refused 14)
    × (reply_to (arrive (no_entries 5)) (holding 1 0) ≡ refused 14)
    × (reply_to (leave 0) (holding 1 0) ≡ refused 14)
    × (reply_to (leave 4) (holding 1 0) ≡ refused 14)
    × (reply_to (leave 5) (holding 1 0) ≡ given 0)
    -- 13, a thirty-third query, before 9 and 10
    × (reply_to (watch (record { name = replicate 1025 97; class = [] })) (holding 0 32) ≡ refused 13)
    × (reply_to (watch (record { name = replicate 1025 97; class = [] })) (holding 16 31) ≡ refused 9)
    × (reply_to (watch (record { name = []; class = flatten (replicate 33 (ascii "a.")) })) (holding 0 31) ≡ refused 10)
    -- a malformed one is kept
    × (reply_to (watch (record { name = ascii ".a"; class = [] })) (holding 0 31) ≡ given 31)
    × (reply_to (watch (record { name = ascii ".a"; class = [] })) (holding 0 32) ≡ refused 13)
    -- each leaves the board unchanged
    × (after_calls (leave 3 ∷ arrive (pack 4 "") ∷ watch (record { name = replicate 1025 97; class = [] }) ∷ []) packed ≡ packed)
unfolding definition pack no_entries asks after packed holding flatten
turned_away = (refl, refl, refl, refl, refl, refl, refl, refl, refl, refl, refl, refl, refl, refl, refl)

-- a board's words and bytes; short in one of them is short
shorts :
    (board_words ≡ 32882)
    × (board_bytes ≡ 589824)
    × (board_make (lent (replicate 32882 0) []) ≡ done (refused 1) (lent (replicate 32882 0) []))
    × (board_make (lent [] (replicate 589824 0)) ≡ done (refused 1) (lent [] (replicate 589824 0)))
unfolding definition
shorts = (refl, refl, refl, refl)

-- ---- No bound on the joined list, and reports

-- 300 entries `.b`, each with the same bytes
many : ℕ → Pack
many n = record { number = n; rows = replicate 300 (record { start = 0; key_length = 2; value_length = 1 }); store = ascii ".bx" }

-- 600 entries of two packs, and two of a third, which arrived between them
crowded : Board
crowded = record {
  packs = many 1 ∷ kept (pack 3 "c:y\nb:z") ∷ many 2 ∷ [];
  queries = record { name = ascii "b"; class = [] } ∷ record { name = ascii "c"; class = [] } ∷ record { name = ascii "d"; class = [] } ∷ [];
}

reports :
    (length (joined crowded.packs) ≡ 602)
    × (watched_answer crowded 0 ≡ found 2 2 1)
    × (watched_answer crowded 1 ≡ found 3 2 1)
    -- bit q for query q, just where its bytes change, or go
    × (report 1 crowded ≡ given 0)
    × (report 2 crowded ≡ given 1)
    × (report 3 crowded ≡ given 2)
    -- the very same bytes of another pack
    × (report 2 (record { packs = many 1 ∷ many 2 ∷ []; queries = crowded.queries }) ≡ given 0)
    -- turned away as leaving is
    × (report 4 crowded ≡ refused 14)
    × (report 0 crowded ≡ refused 14)
    × (report 9 (after (asks "c" "" ∷ []) packed) ≡ given 3)
    × (report 7 (after (asks "c" "" ∷ []) packed) ≡ given 0)
    × (bits_of (true ∷ false ∷ true ∷ true ∷ []) ≡ 13)
unfolding definition pack asks after packed found many crowded
reports = (refl, refl, refl, refl, refl, refl, refl, refl, refl, refl, refl, refl)
