-- An addition (document 02 (v)): a text that makes one entry, put behind those of an image; and a walk with additions under way.
use Rattle.std.specs.Prelude.{true, not, List, [], ◌∷◌, ◌++◌, ◌≡◌, ℕ, suc, ◌+◌, ◌*◌, ◌≤◌, length, take, drop, if◌then◌else◌}
use Rattle.definition.specs.Limits.{default_depth, row_words, unknown_file}
use Rattle.definition.specs.Archive.{archive_of}
use Rattle.definition.specs.Text.{Entry}
use Rattle.definition.specs.Including.{entered}
use Rattle.definition.specs.Image.{key_of, all_from, rows_of, count_of, used_of, is_image}
use Rattle.definition.specs.Reading.{Verdict, within, past, size_of, judge, read_entries, plain, too_long}
use Rattle.definition.specs.Writing.{entries_of_image}
use Rattle.definition.specs.Query.{Query, positions, malformed, past_limit, query_of}
use Rattle.definition.specs.Lookup.{Reply, given, no_value, refused}
use Rattle.definition.specs.Walking.{Walk, walk, aligned_from, walk_start, walk_step, after_step}

-- ---- The call

-- the added entry's number, and both buffers afterwards
pub record Addition : Type 0 where
  pub answer : Reply ℕ
  pub contents : List ℕ
  pub bodies : List ℕ

abbrev pub addition : Reply ℕ → List ℕ → List ℕ → Addition
addition a c b = record { answer = a; contents = c; bodies = b }

-- the entries of an added text, which is read with an empty archive, so that no depth makes a difference
unfoldable pub entries_added : List ℕ → List Entry
entries_added text = plain (read_entries default_depth (text ∷ []) (archive_of []))

-- xs in the place of what stands from n on
unfoldable pub over : ℕ → List ℕ → List ℕ → List ℕ
over n xs lent = take n lent ++ xs ++ drop (n + length xs) lent

-- an entry behind those of an image: its row, its bytes and the first two words, nothing else. It came from no file that is known
unfoldable pub appended : Entry → List ℕ → List ℕ → Addition
appended e contents bodies =
    addition (given (count_of contents))
    (over 0 ((count_of contents + 1) ∷ (used_of contents + size_of e) ∷ [])
    (over (2 + row_words * count_of contents) (rows_of (used_of contents) (all_from unknown_file (e ∷ []))) contents))
    (over (used_of contents) (key_of e.parts ++ e.value) bodies)

unfoldable pub judged : Verdict → Entry → List ℕ → List ℕ → Addition
judged (within s) e contents bodies = appended e contents bodies
judged (past k) e contents bodies = addition (refused k) contents bodies

-- 12 for a text that makes no entry or more than one; then 5 to 7, with the image's entries and bytes as the totals so far
unfoldable pub added_one : List Entry → List ℕ → List ℕ → Addition
added_one [] contents bodies = addition (refused 12) contents bodies
added_one (e ∷ []) contents bodies =
    judged (judge (record { opens = 0; entries = count_of contents; used = used_of contents }) (entered [] e ∷ [])) e contents bodies
added_one (e ∷ f ∷ es) contents bodies = addition (refused 12) contents bodies

-- 8, 2, 12, 5 to 7; all of these leave the image unchanged
unfoldable pub adding : List ℕ → List ℕ → List ℕ → Addition
adding contents bodies text =
    if not (is_image contents bodies) then addition (refused 8) contents bodies else
    if too_long text then addition (refused 2) contents bodies else
    added_one (entries_added text) contents bodies

-- ---- A walk with additions under way

-- what is done: a step of the walk, or an addition
pub data Turn : Type 0 where
  step : Turn
  add : List ℕ → Turn

-- the image, the walk, and the numbers that it has listed
pub record History : Type 0 where
  pub contents : List ℕ
  pub bodies : List ℕ
  pub walk : Walk
  pub listed : List ℕ

-- a walk that begins: nothing is listed yet
abbrev pub beginning : List ℕ → List ℕ → Walk → History
beginning contents bodies w = record { contents = contents; bodies = bodies; walk = w; listed = [] }

-- a number that a step listed, behind those before it
unfoldable pub listed_after : List ℕ → Reply ℕ → List ℕ
listed_after is (given i) = is ++ i ∷ []
listed_after is no_value = is
listed_after is (refused k) = is

module _ (name class : List ℕ) where
  unfoldable pub turned : Turn → History → History
  turned step h =
      let r = walk_step h.contents h.bodies name class h.walk in
      record { contents = h.contents; bodies = h.bodies; walk = after_step h.walk r; listed = listed_after h.listed r }
  turned (add text) h =
      let a = adding h.contents h.bodies text in
      record { contents = a.contents; bodies = a.bodies; walk = h.walk; listed = h.listed }

  -- one turn after another
  unfoldable pub played : List Turn → History → History
  played [] h = h
  played (t ∷ ts) h = played ts (turned t h)

unfoldable pub steps_in : List Turn → ℕ
steps_in [] = 0
steps_in (step ∷ ts) = suc (steps_in ts)
steps_in (add text ∷ ts) = steps_in ts

-- the numbers of those entries that align, lowest first, where the first entry has number i; none for a malformed query
unfoldable pub numbers_from : ℕ → Query → List Entry → List ℕ
numbers_from i (positions qs) es = aligned_from i qs es
numbers_from i malformed es = []
numbers_from i (past_limit k) es = []

abbrev pub numbers_of : Query → List Entry → List ℕ
numbers_of q es = numbers_from 0 q es

-- ---- What is claimed

-- after an accepted addition the image holds the old entries and then the new one, as the definition of reading gives it
abbrev pub AdditionHolds : Type 0
AdditionHolds =
    (contents bodies text : List ℕ) (i : ℕ)
    → (adding contents bodies text).answer ≡ given i
    → let a = adding contents bodies text in
    (length (entries_added text) ≡ 1)
    × (i ≡ length (entries_of_image contents bodies))
    × (is_image a.contents a.bodies ≡ true)
    × (entries_of_image a.contents a.bodies ≡ entries_of_image contents bodies ++ entries_added text)

-- a walk with one query throughout, and any additions between its steps, from any image: what it has listed so far is a beginning of the
-- numbers of those entries below its start's count that align, rising; with steps enough it is all of them, and the next step is the end
abbrev pub WalkLists : Type 0
WalkLists =
    (contents bodies name class : List ℕ) (w : Walk)
    → walk_start contents bodies name class ≡ given w
    → (turns : List Turn)
    → let h = played name class turns (beginning contents bodies w) in
    let all = numbers_of (query_of name class) (entries_of_image contents bodies) in
    (h.listed ≡ take (steps_in turns) all)
    × (length all ≤ steps_in turns → walk_step h.contents h.bodies name class h.walk ≡ no_value)

-- an added entry first shows in a walk begun after it: that walk lists what one begun before lists, and then the new number if it aligns
abbrev pub AddedShows : Type 0
AddedShows =
    (contents bodies text name class : List ℕ) (i : ℕ) (w : Walk)
    → (adding contents bodies text).answer ≡ given i
    → let a = adding contents bodies text in
    walk_start a.contents a.bodies name class ≡ given w
    → (turns : List Turn)
    → let q = query_of name class in
    (played name class turns (beginning a.contents a.bodies w)).listed
    ≡ take (steps_in turns) (numbers_of q (entries_of_image contents bodies) ++ numbers_from i q (entries_added text))
