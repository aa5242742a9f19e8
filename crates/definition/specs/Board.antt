-- Packs that come and go (document 02 (ix)): what a board keeps after a list of calls, its watched answers, how it is laid out in two lent
-- buffers, and what is claimed of the calls.
use Rattle.std.specs.Prelude.{Bool, true, false, ◌&&◌, ◌||◌, not, ◌↔◌, ◌⊎◌, ◌≡◌, ℕ, zero, suc, ◌+◌, ◌*◌, ◌-◌, ◌/◌, ◌%◌, eqb, leb, ltb, length, take, drop, get_or, if◌then◌else◌}
use mathlib.Core.List.{List, [], ◌∷◌, ◌++◌, map, flatten}
use Rattle.std.proofs.Math.Option.{Option, some, none}
use Rattle.std.proofs.Math.Seq.{slice}
use Rattle.definition.specs.Lists.{all, any, take_while, filter, same}
use Rattle.definition.specs.Limits.{row_words, body_bytes, query_bytes, most_packs, most_queries, slot_words, board_words, board_bytes}
use Rattle.definition.specs.Text.{Entry}
use Rattle.definition.specs.Image.{Row, count_of, used_of, rows_in, key_end, entry_at, is_image}
use Rattle.definition.specs.Writing.{entries_of_image}
use Rattle.definition.specs.Query.{Query, positions, malformed, past_limit, query_of}
use Rattle.definition.specs.Ranking.{Best, no_entry, best, best_of}
use Rattle.definition.specs.Lookup.{keys_of, answer_of, Reply, given, no_value, refused, Place, bytes_at}
use Rattle.definition.specs.Walking.{refusal_in}
use Rattle.definition.specs.Adding.{over}
use Rattle.definition.specs.ThirdTerm.{Through, NoneThroughBeats, SameBytesWithout}

-- ---- What a board keeps

-- a pack as it arrives: a number and an image
pub record Arrival : Type 0 where
  pub number : ℕ
  pub contents : List ℕ
  pub bodies : List ℕ

-- and as it is kept: of the image the rows, and the bytes of keys and values
pub record Pack : Type 0 where
  pub number : ℕ
  pub rows : List Row
  pub store : List ℕ

abbrev pub kept : Arrival → Pack
kept a = record { number = a.number; rows = rows_in a.contents; store = take (used_of a.contents) a.bodies }

pub record Watched : Type 0 where
  pub name : List ℕ
  pub class : List ℕ

-- packs in order of arrival, and watched queries, numbered from 0
pub record Board : Type 0 where
  pub packs : List Pack
  pub queries : List Watched

abbrev pub empty : Board
empty = record { packs = []; queries = [] }

-- ---- The calls

pub data Call : Type 0 where
  watch : Watched → Call
  arrive : Arrival → Call
  leave : ℕ → Call

abbrev pub has_number : ℕ → Pack → Bool
has_number n p = eqb n p.number

abbrev pub is_present : ℕ → Board → Bool
is_present n b = any (has_number n) b.packs

-- a query is checked as in a lookup; a malformed one is kept
unfoldable pub checked : ℕ → Query → Reply ℕ
checked n (positions qs) = given n
checked n malformed = given n
checked n (past_limit k) = refused k

-- the query's number, 0 for a pack that arrived or left, or the number that turns the call away: 8 for an arriving image; 13, a seventeenth pack
-- or a thirty-third query, before 9 and 10; then 14, a number zero, already present on arrival or absent on leaving
unfoldable pub reply_to : Call → Board → Reply ℕ
reply_to (watch w) b =
    if leb most_queries (length b.queries) then refused 13 else
    checked (length b.queries) (query_of w.name w.class)
reply_to (arrive a) b =
    if not (is_image a.contents a.bodies) then refused 8 else
    if leb most_packs (length b.packs) then refused 13 else
    if eqb a.number 0 || is_present a.number b then refused 14 else
    given 0
reply_to (leave n) b = if eqb n 0 || not (is_present n b) then refused 14 else given 0

-- a pack arrives last or leaves; the rest keep their order
unfoldable pub changed : Call → Board → Board
changed (watch w) b = record { packs = b.packs; queries = b.queries ++ w ∷ [] }
changed (arrive a) b = record { packs = b.packs ++ kept a ∷ []; queries = b.queries }
changed (leave n) b = record { packs = filter (λ p. not (has_number n p)) b.packs; queries = b.queries }

-- a call that is turned away leaves the board unchanged
unfoldable pub if_given : {A : Type 0} → Reply ℕ → A → A → A
if_given (given n) new old = new
if_given no_value new old = old
if_given (refused k) new old = old

abbrev pub turned : Call → Board → Board
turned c b = if_given (reply_to c b) (changed c b) b

-- after a list of calls from an empty board
unfoldable pub after_calls : List Call → Board → Board
after_calls [] b = b
after_calls (c ∷ cs) b = after_calls cs (turned c b)

abbrev pub history : List Call → Board
history cs = after_calls cs empty

-- ---- Watched answers

-- an entry of a pack, with the pack's number and the place of its value in the pack's bodies
pub record Brought : Type 0 where
  pub pack : ℕ
  pub place : Place
  pub entry : Entry

unfoldable pub brought_by : Pack → List Brought
brought_by p =
    map
    (λ r. record { pack = p.number; place = record { start = key_end r; length = r.value_length }; entry = entry_at p.store r })
    p.rows

-- the joined entries of the packs present, as many as they are
unfoldable pub joined : List Pack → List Brought
joined ps = flatten (map brought_by ps)

abbrev pub nothing_brought : Brought
nothing_brought = record { pack = 0; place = record { start = 0; length = 0 }; entry = record { parts = []; value = [] } }

-- pack number, and place and length of the value
pub record Found : Type 0 where
  pub pack : ℕ
  pub place : Place

unfoldable pub found_at : List Brought → Best → Reply Found
found_at xs no_entry = no_value
found_at xs (best i row) = let x = get_or xs i nothing_brought in given (record { pack = x.pack; place = x.place })

-- by the old matching rules
unfoldable pub found_in : List Brought → Query → Reply Found
found_in xs (positions qs) = found_at xs (best_of (keys_of (map (λ x. x.entry) xs)) qs)
found_in xs malformed = no_value
found_in xs (past_limit k) = no_value

-- a number with no query gets none, as a malformed query does
unfoldable pub query_number : List Watched → ℕ → Query
query_number [] q = malformed
query_number (w ∷ ws) zero = query_of w.name w.class
query_number (w ∷ ws) (suc q) = query_number ws q

abbrev pub watched_answer : Board → ℕ → Reply Found
watched_answer b q = found_in (joined b.packs) (query_number b.queries q)

-- n of them, from number i on
unfoldable pub each : {A : Type 0} → (ℕ → A) → ℕ → ℕ → List A
each f i zero = []
each f i (suc n) = f i ∷ each f (suc i) n

-- all of them, in the order of their numbers
abbrev pub watched_answers : Board → List (Reply Found)
watched_answers b = each (watched_answer b) 0 (length b.queries)

-- the answer's bytes, or none: those at that place in the pack of that number
unfoldable pub store_number : ℕ → List Pack → List ℕ
store_number n [] = []
store_number n (p ∷ ps) = if has_number n p then p.store else store_number n ps

unfoldable pub bytes_found : List Pack → Reply Found → Option (List ℕ)
bytes_found ps (given f) = some (bytes_at (store_number f.pack ps) f.place)
bytes_found ps no_value = none
bytes_found ps (refused k) = none

abbrev pub answer_bytes : Board → ℕ → Option (List ℕ)
answer_bytes b q = bytes_found b.packs (watched_answer b q)

-- ---- The installer's report

unfoldable pub same_answer : Option (List ℕ) → Option (List ℕ) → Bool
same_answer none none = true
same_answer none (some v) = false
same_answer (some v) none = false
same_answer (some v) (some w) = same v w

-- does the answer of query q change in its bytes, or between bytes and none, if the pack leaves?
unfoldable pub changes : ℕ → Board → ℕ → Bool
changes n b q = not (same_answer (answer_bytes b q) (answer_bytes (changed (leave n) b) q))

-- bit q for query q
unfoldable pub bits_of : List Bool → ℕ
bits_of [] = 0
bits_of (b ∷ bs) = (if b then 1 else 0) + 2 * bits_of bs

-- turned away as leaving is
unfoldable pub reported : ℕ → Board → Reply ℕ → Reply ℕ
reported n b (given k) = given (bits_of (each (changes n b) 0 (length b.queries)))
reported n b no_value = no_value
reported n b (refused k) = refused k

abbrev pub report : ℕ → Board → Reply ℕ
report n b = reported n b (reply_to (leave n) b)

-- ---- A board in two lent buffers

pub record Lent : Type 0 where
  pub words : List ℕ
  pub bytes : List ℕ

abbrev pub lent : List ℕ → List ℕ → Lent
lent ws bs = record { words = ws; bytes = bs }

-- words: how many packs, how many queries, per query the lengths of name and class, per pack its slot: the number, then the contents.
-- Bytes: per query name and class, then per pack the bodies. Queries and packs have each as much room as the largest needs
abbrev pub pack_count : Lent → ℕ
pack_count l = get_or l.words 0 0

abbrev pub query_count : Lent → ℕ
query_count l = get_or l.words 1 0

unfoldable pub lengths_start : ℕ → ℕ
lengths_start q = 2 + 2 * q

unfoldable pub slot_start : ℕ → ℕ
slot_start i = 2 + 2 * most_queries + slot_words * i

unfoldable pub text_start : ℕ → ℕ
text_start q = 2 * query_bytes * q

unfoldable pub body_start : ℕ → ℕ
body_start i = 2 * query_bytes * most_queries + body_bytes * i

-- slot i, and query q
unfoldable pub slot_at : Lent → ℕ → Arrival
slot_at l i = record {
  number = get_or l.words (slot_start i) 0;
  contents = slice (slot_start i + 1) (slot_start (suc i)) l.words;
  bodies = slice (body_start i) (body_start (suc i)) l.bytes;
}

abbrev pub name_length : Lent → ℕ → ℕ
name_length l q = get_or l.words (lengths_start q) 0

abbrev pub class_length : Lent → ℕ → ℕ
class_length l q = get_or l.words (lengths_start q + 1) 0

unfoldable pub query_at : Lent → ℕ → Watched
query_at l q =
    let classStart = text_start q + name_length l q in
    record { name = slice (text_start q) classStart l.bytes; class = slice classStart (classStart + class_length l q) l.bytes }

abbrev pub slots_in : Lent → List Arrival
slots_in l = each (slot_at l) 0 (pack_count l)

-- what they hold
abbrev pub board_in : Lent → Board
board_in l = record { packs = map kept (slots_in l); queries = each (query_at l) 0 (query_count l) }

-- number 1's test
abbrev pub short_board : Lent → Bool
short_board l = ltb (length l.words) board_words || ltb (length l.bytes) board_bytes

-- a pack's number is not zero and no other's, and its slot holds an image
unfoldable pub are_slots : List Arrival → Bool
are_slots [] = true
are_slots (a ∷ others) =
    not (eqb a.number 0) && not (any (λ o. eqb a.number o.number) others) && is_image a.contents a.bodies && are_slots others

-- a query's texts have room
unfoldable pub have_room : Lent → ℕ → Bool
have_room l q = leb (name_length l q) query_bytes && leb (class_length l q) query_bytes

-- number 8's
unfoldable pub is_board : Lent → Bool
is_board l =
    not (short_board l) && leb (pack_count l) most_packs && leb (query_count l) most_queries && are_slots (slots_in l)
    && all (have_room l) (each (λ q. q) 0 (query_count l))

-- a call's answer, and both buffers afterwards
pub record Done : Type 0 where
  pub answer : Reply ℕ
  pub board : Lent

abbrev pub done : Reply ℕ → Lent → Done
done a l = record { answer = a; board = l }

-- 1; an empty board
unfoldable pub board_make : Lent → Done
board_make l = if short_board l then done (refused 1) l else done (given 0) (lent (over 0 (0 ∷ 0 ∷ []) l.words) l.bytes)

-- what an accepted call writes, and nothing else: a query or a pack behind those that are there; the slots behind one that leaves move up
unfoldable pub writing : Call → Lent → Lent
writing (watch w) l =
    let q = query_count l in
    lent
    (over 1 ((q + 1) ∷ []) (over (lengths_start q) (length w.name ∷ length w.class ∷ []) l.words))
    (over (text_start q) (w.name ++ w.class) l.bytes)
writing (arrive a) l =
    let i = pack_count l in
    lent
    (over 0 ((i + 1) ∷ []) (over (slot_start i) (a.number ∷ take (2 + row_words * count_of a.contents) a.contents) l.words))
    (over (body_start i) (take (used_of a.contents) a.bodies) l.bytes)
writing (leave n) l =
    let i = length (take_while (λ a. not (eqb n a.number)) (slots_in l)) in
    lent
    (over 0 ((pack_count l - 1) ∷ []) (over (slot_start i) (slice (slot_start (suc i)) (slot_start (pack_count l)) l.words) l.words))
    (over (body_start i) (slice (body_start (suc i)) (body_start (pack_count l)) l.bytes) l.bytes)

-- 1, 8, then as the board's own calls; each leaves the board unchanged
unfoldable pub board_call : Call → Lent → Done
board_call c l =
    if short_board l then done (refused 1) l else
    if not (is_board l) then done (refused 8) l else
    (let a = reply_to c (board_in l) in done a (if_given a (writing c l) l))

unfoldable pub board_answer : Lent → ℕ → Reply Found
board_answer l q = if short_board l then refused 1 else if not (is_board l) then refused 8 else watched_answer (board_in l) q

unfoldable pub board_answers : Lent → Reply (List (Reply Found))
board_answers l = if short_board l then refused 1 else if not (is_board l) then refused 8 else given (watched_answers (board_in l))

unfoldable pub board_report : Lent → ℕ → Reply ℕ
board_report l n = if short_board l then refused 1 else if not (is_board l) then refused 8 else report n (board_in l)

-- one call after another
unfoldable pub after_all : List Call → Lent → Lent
after_all [] l = l
after_all (c ∷ cs) l = after_all cs (board_call c l).board

-- ---- What is claimed

-- what is kept of an image gives its entries
abbrev pub KeepsEntries : Type 0
KeepsEntries =
    (a : Arrival) → is_image a.contents a.bodies ≡ true
    → map (λ (x : Brought). x.entry) (brought_by (kept a)) ≡ entries_of_image a.contents a.bodies

-- and the places are those of their values in the bodies that were lent
abbrev pub PlacesLent : Type 0
PlacesLent =
    (a : Arrival) → map (λ (x : Brought). bytes_at a.bodies x.place) (brought_by (kept a)) ≡ map (λ (e : Entry). e.value) (entries_of_image a.contents a.bodies)

-- after every list of calls from an empty board, in buffers that are long enough, whatever they held before
module _ (l : Lent) (cs : List Call) where
  abbrev pub reached : Lent
  reached = after_all cs (board_make l).board

  pub record Follows : Type 0 where
    -- no call leaves bytes that are no board
    pub is_laid_out : is_board reached ≡ true
    -- the buffers keep what the history does
    pub keeps : board_in reached ≡ history cs
    -- each watched answer, each refusal and each report is that of the history
    pub answers : (q : ℕ) → board_answer reached q ≡ watched_answer (history cs) q
    pub all_answers : board_answers reached ≡ given (watched_answers (history cs))
    pub replies : (c : Call) → (board_call c reached).answer ≡ reply_to c (history cs)
    pub reports : (n : ℕ) → board_report reached n ≡ report n (history cs)
    -- the bytes at the place that is answered, in the pack of that number, are the value that a lookup finds in the joined entries, or none
    pub values : (q : ℕ)
        → answer_bytes (history cs) q
        ≡ answer_of (map (λ x. x.entry) (joined (history cs).packs)) (query_number (history cs).queries q)

abbrev pub FollowsHistory : Type 0
FollowsHistory = (l : Lent) (cs : List Call) → short_board l ≡ false → Follows l cs

-- no call leaves bytes that are no board, from any that are one
abbrev pub LeavesBoards : Type 0
LeavesBoards = (l : Lent) (c : Call) → is_board l ≡ true → is_board (board_call c l).board ≡ true

-- a board's own words and bytes, and what a call leaves of them, with what is lent beyond
abbrev pub own : Lent → Lent
own l = lent (take board_words l.words) (take board_bytes l.bytes)

abbrev pub with_beyond : Lent → Done → Done
with_beyond l d = done d.answer (lent (d.board.words ++ drop board_words l.words) (d.board.bytes ++ drop board_bytes l.bytes))

-- what is lent beyond is neither read nor written, by the making too
pub record LeavesBeyond (l : Lent) : Type 0 where
  pub making : board_make l ≡ with_beyond l (board_make (own l))
  pub calls : (c : Call) → board_call c l ≡ with_beyond l (board_call c (own l))
  pub answers : (q : ℕ) → board_answer l q ≡ board_answer (own l) q
  pub all_answers : board_answers l ≡ board_answers (own l)
  pub reports : (n : ℕ) → board_report l n ≡ board_report (own l) n

abbrev pub NothingBeyond : Type 0
NothingBeyond = (l : Lent) → LeavesBeyond l

-- one of all the answers
unfoldable pub answer_among : Reply (List (Reply Found)) → ℕ → Reply Found
answer_among (given rs) q = get_or rs q no_value
answer_among no_value q = no_value
answer_among (refused k) q = refused k

-- all the answers are those that are asked for one by one, refusals included
abbrev pub AnswersAgree : Type 0
AnswersAgree = (l : Lent) (q : ℕ) → answer_among (board_answers l) q ≡ board_answer l q

-- the entries of a pack
abbrev pub through_pack : ℕ → Through Brought
through_pack n = record { entry = λ x. x.entry; came = λ x. eqb n x.pack; absent = nothing_brought }

-- an answer's bytes, or none, in lent buffers
abbrev pub bytes_answered : Lent → ℕ → Option (List ℕ)
bytes_answered l q = bytes_found (board_in l).packs (board_answer l q)

-- a pack that leaves changes an answer's bytes (or none) just where the striking_off rule says of its entries
abbrev pub LeavingStrikesOff : Type 0
LeavingStrikesOff =
    (l : Lent) (n k q : ℕ)
    → (board_call (leave n) l).answer ≡ given k
    → let xs = joined (board_in l).packs in
    let query = query_number (board_in l).queries q in
    (bytes_answered l q ≡ bytes_answered (board_call (leave n) l).board q)
    ↔ (NoneThroughBeats (through_pack n) xs query ⊎ SameBytesWithout (through_pack n) xs query)

unfoldable pub has_bit : ℕ → ℕ → Bool
has_bit zero m = eqb (m % 2) 1
has_bit (suc q) m = has_bit q (m / 2)

-- the report is turned away as leaving is; else it has the bit of a query just where leaving would change the answer's bytes (or none)
abbrev pub ReportTells : Type 0
ReportTells =
    (l : Lent) (n : ℕ)
    → let leaving = board_call (leave n) l in
    (refusal_in (board_report l n) ≡ refusal_in leaving.answer)
    × ((m q : ℕ)
    → board_report l n ≡ given m
    → (has_bit q m ≡ true) ↔ (bytes_answered l q ≡ bytes_answered leaving.board q → ⊥))
