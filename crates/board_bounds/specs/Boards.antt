-- Packs that come and go (document 02 (ix)), refusals among them, in buffers as long as they are lent, by evaluating the definition. A board's bytes
-- are many: of what its calls write, the first two slots are looked at.
use Rattle.std.specs.Prelude.{true, false, List, [], ◌∷◌, ◌++◌, ◌||◌, map, ◌≡◌, refl, ℕ, ◌+◌, ◌-◌, length, replicate, drop}
use Rattle.std.proofs.Common.{ltb}
use Rattle.std.proofs.Math.ListN.{length-replicate}
use Rattle.std.proofs.lemmas.List.{drop-replicate}
use Rattle.definition.specs.Limits.{board_words, board_bytes}
use Rattle.definition.specs.Adding.{over}
use Prim.Native.String.{String}
use Rattle.definition.specs.Lists.{ascii}
use Rattle.definition.specs.Lookup.{Reply, given, no_value, refused}
use Rattle.definition.specs.Board.{Arrival, Call, watch, arrive, leave, reply_to, history, Found, watched_answer, report, lent, Lent, are_slots, have_room, is_board, done, board_make, writing, board_call, board_answer, board_answers, board_report}
use Rattle.definition.specs.Evaluation.{definition}
use Rattle.bounds.specs.Lookups.{contents, bodies}

-- ---- Made: 32,882 words and 589,824 bytes, and two more of each, which stay

-- what a making in buffers of m words and n bytes comes to, without going through them one by one
making :
    (m n : ℕ) → (ltb m board_words || ltb n board_bytes) ≡ false → drop {A = ℕ} 2 (replicate m 7) ≡ replicate (m - 2) 7
    → board_make (lent (replicate m 7) (replicate n 7)) ≡ done (given 0) (lent (0 ∷ 0 ∷ replicate (m - 2) 7) (replicate n 7))
unfolding board_make over
making m n e d = rw (length-replicate {A = ℕ} m 7, length-replicate {A = ℕ} n 7, e, d) refl

first_making : board_make (lent (replicate 32884 7) (replicate 589826 7)) ≡ done (given 0) (lent (0 ∷ 0 ∷ replicate 32882 7) (replicate 589826 7))
first_making = making 32884 589826 refl (drop-replicate 2 32884 7)

makings :
    (board_make (lent (replicate 32884 7) (replicate 589826 7)) ≡ done (given 0) (lent (0 ∷ 0 ∷ replicate 32882 7) (replicate 589826 7)))
    × (board_make (lent (replicate 32881 7) []) ≡ done (refused 1) (lent (replicate 32881 7) []))
    -- every call tests this
    × (board_call (leave 0) (lent (replicate 32881 7) []) ≡ done (refused 1) (lent (replicate 32881 7) []))
    × (board_answer (lent (replicate 32881 7) []) 0 ≡ refused 1)
    × (board_answers (lent (replicate 32881 7) []) ≡ refused 1)
    × (board_report (lent (replicate 32881 7) []) 1 ≡ refused 1)
unfolding definition
makings = (first_making, refl, refl, refl, refl, refl)

-- ---- A history, calls that are turned away among them

-- a pack of one entry `.a`, whose line stands in the first file of its archive
pack : ℕ → String → Arrival
pack n v = record {
  number = n;
  contents = 1 ∷ (2 + length (ascii v)) ∷ 0 ∷ 2 ∷ length (ascii v) ∷ 1 ∷ contents;
  bodies = ascii ".a" ++ ascii v ++ bodies;
}

-- what is no image
no_image : Arrival
no_image = record { number = 5; contents = contents; bodies = bodies }

asks : String → Call
asks n = watch (record { name = ascii n; class = [] })

found : ℕ → ℕ → Reply Found
found n size = given (record { pack = n; place = record { start = 2; length = size } })

-- the first of two packs leaves, and comes again
left : List Call
left = asks "a" ∷ arrive (pack 7 "old") ∷ arrive (pack 7 "no") ∷ arrive no_image ∷ arrive (pack 9 "newer") ∷ leave 8 ∷ leave 7 ∷ []

again : List Call
again = left ++ arrive (pack 0 "no") ∷ arrive (pack 7 "old") ∷ []

histories :
    (map (λ p. p.number) (history left).packs ≡ 9 ∷ [])
    × (watched_answer (history left) 0 ≡ found 9 5)
    × (map (λ p. p.number) (history again).packs ≡ 9 ∷ 7 ∷ [])
    × (watched_answer (history again) 0 ≡ found 7 3)
    × (watched_answer (history again) 1 ≡ no_value)
    × (report 7 (history again) ≡ given 1)
    × (report 9 (history again) ≡ given 0)
    × (report 8 (history again) ≡ refused 14)
    × (reply_to (arrive no_image) (history again) ≡ refused 8)
    × (reply_to (arrive (pack 9 "no")) (history again) ≡ refused 14)
unfolding definition contents bodies pack no_image asks found left again
histories = (refl, refl, refl, refl, refl, refl, refl, refl, refl, refl)

-- ---- What the accepted ones of these calls write, and nothing else

accepted : List Call → Lent → Lent
accepted [] l = l
accepted (c ∷ cs) l = accepted cs (writing c l)

-- the words and bytes of two slots, with no packs and no queries
front : Lent
front = lent (0 ∷ 0 ∷ replicate 4166 7) (replicate 131072 7)

-- the slots behind one that leaves move up, and behind what is used of an image a slot stays as it was
writings :
    accepted (asks "a" ∷ arrive (pack 9 "newer") ∷ arrive (pack 7 "old") ∷ leave 9 ∷ arrive (pack 9 "x") ∷ []) front
    ≡ lent
    (2 ∷ 1 ∷ 1 ∷ 0 ∷ replicate 62 7 ++ 7 ∷ 1 ∷ 5 ∷ 0 ∷ 2 ∷ 3 ∷ 1 ∷ replicate 2044 7 ++ 9 ∷ 1 ∷ 3 ∷ 0 ∷ 2 ∷ 1 ∷ 1 ∷ replicate 2044 7)
    (97 ∷ replicate 65535 7 ++ ascii ".aold" ++ replicate 32763 7 ++ ascii ".axld" ++ replicate 32763 7)
unfolding definition contents bodies pack asks accepted front
writings = refl

-- ---- What is no board

no_entries : ℕ → Arrival
no_entries n = record { number = n; contents = 0 ∷ 0 ∷ contents; bodies = bodies }

no_boards :
    -- packs have numbers of their own, none of them zero, and images
    (are_slots (no_entries 5 ∷ no_entries 6 ∷ []) ≡ true)
    × (are_slots (no_entries 5 ∷ no_entries 5 ∷ []) ≡ false)
    × (are_slots (no_entries 5 ∷ no_entries 0 ∷ []) ≡ false)
    × (are_slots (no_entries 6 ∷ no_image ∷ []) ≡ false)
    -- a name and a class have room
    × (have_room (lent (0 ∷ 1 ∷ 1024 ∷ 1024 ∷ []) []) 0 ≡ true)
    × (have_room (lent (0 ∷ 1 ∷ 1025 ∷ 0 ∷ []) []) 0 ≡ false)
    × (have_room (lent (0 ∷ 1 ∷ 0 ∷ 1025 ∷ []) []) 0 ≡ false)
unfolding definition contents bodies no_image no_entries
no_boards = (refl, refl, refl, refl, refl, refl, refl)

-- so many packs and queries
many : ℕ → ℕ → Lent
many p q = lent (p ∷ q ∷ replicate 32880 0) (replicate 589824 7)

-- a board's test, where its bytes are known by their number alone
no_packs : (b : List ℕ) → ltb (length b) board_bytes ≡ false → is_board (lent (0 ∷ 32 ∷ replicate 32880 0) b) ≡ true
unfolding definition
no_packs b e = rw e refl

packs_over : (b : List ℕ) → ltb (length b) board_bytes ≡ false → is_board (lent (17 ∷ 0 ∷ replicate 32880 0) b) ≡ false
unfolding definition
packs_over b e = rw e refl

many_bytes : (n : ℕ) → ltb n board_bytes ≡ false → ltb (length (replicate {A = ℕ} n 7)) board_bytes ≡ false
many_bytes n e = rw (length-replicate {A = ℕ} n 7) e

too_many :
    (is_board (many 0 32) ≡ true)
    × (is_board (many 17 0) ≡ false)
unfolding definition many
too_many = (no_packs (replicate 589824 7) (many_bytes 589824 refl), packs_over (replicate 589824 7) (many_bytes 589824 refl))
