-- What the buyer's third term says, in its words; the crate `laws` proves it of the definition.
use Rattle.std.specs.Prelude.{Bool, true, false, not, List, [], map, ◌↔◌, ◌⊎◌, ◌≡◌, ℕ, ◌<◌, length, get_or}
use Rattle.std.proofs.Math.Option.{Option}
use Rattle.definition.specs.Lists.{any, filter, same}
use Rattle.definition.specs.Archive.{files_of, struck_off}
use Rattle.definition.specs.Text.{Entry}
use Rattle.definition.specs.Including.{Entered}
use Rattle.definition.specs.Image.{too_short}
use Rattle.definition.specs.Reading.{Answer, accepted, refused as refusedReading, Outcome, reading, read_entries, plain}
use Rattle.definition.specs.Query.{Query, positions, malformed, past_limit, Bounds, query_within}
use Rattle.definition.specs.Matching.{Beats}
use Rattle.definition.specs.Lookup.{keys_of, answer_of, Reply, refused, Place, get_bytes_within, answer_in}

-- ---- The striking_off rule, of any list of entries and of those that came through something: a file here, a pack of a board in Board.antt

-- of what stands in such a list: its entry, whether that came through the something, and what stands for a number with none
pub record Through (A : Type 0) : Type 0 where
  pub entry : A → Entry
  pub came : A → Bool
  pub absent : A

module _ {A : Type 0} (t : Through A) where
  abbrev pub entries : List A → List Entry
  entries xs = map t.entry xs

  -- the entries once all that came through it are left out
  abbrev pub left_out : List A → List A
  left_out xs = filter (λ x. not (t.came x)) xs

  -- entry i beats the rest; of a malformed query nothing aligns
  abbrev pub BeatsRest : List A → Query → ℕ → Type 0
  BeatsRest xs (positions qs) i = Beats (keys_of (entries xs)) qs i
  BeatsRest xs malformed i = ⊥
  BeatsRest xs (past_limit k) i = ⊥

  abbrev pub numbered : List A → ℕ → A
  numbered xs i = get_or xs i t.absent

  module _ (xs : List A) (q : Query) where
    -- no entry that came through it beats the rest
    abbrev pub NoneThroughBeats : Type 0
    NoneThroughBeats = (i : ℕ) → BeatsRest xs q i → t.came (numbered xs i) ≡ false

    -- or one does, some entry beats the rest once all that came through it are left out, and both carry the very same bytes
    pub record SameBytesWithout : Type 0 where
      pub winner : ℕ
      pub beats : BeatsRest xs q winner
      pub through : t.came (numbered xs winner) ≡ true
      pub other : ℕ
      pub beats_left : BeatsRest (left_out xs) q other
      pub same_bytes : (t.entry (numbered xs winner)).value ≡ (t.entry (numbered (left_out xs) other)).value

    -- the two answers, bytes or none, are equal exactly when one of the two holds
    abbrev pub EqualJustWhen : Type 0
    EqualJustWhen = (answer_of (entries xs) q ≡ answer_of (entries (left_out xs)) q) ↔ (NoneThroughBeats ⊎ SameBytesWithout)

abbrev pub StrikingOff : Type 1
StrikingOff = (A : Type 0) (t : Through A) (xs : List A) (q : Query) → EqualJustWhen t xs q

-- ---- The term

-- an entry came through a file if that file is on its chain of includes
unfoldable pub came_through : List ℕ → Entered → Bool
came_through file x = any (same file) x.chain

abbrev pub entry_number : List Entered → ℕ → Entered
entry_number xs i = get_or xs i (record { chain = []; entry = record { parts = []; value = [] } })

-- of the entries of a reading, those that came through that file
abbrev pub through_file : List ℕ → Through Entered
through_file file = record { entry = λ x. x.entry; came = came_through file; absent = entry_number [] 0 }

abbrev pub is_accepted : Answer → Bool
is_accepted (accepted entries opens) = true
is_accepted (refusedReading k) = false

-- the depth of both readings (document 02 (x)), their texts (a main text is the list of one, and a start-up's are in StartUp.antt), an archive,
-- the number of a file on it, a query's bounds, name and class, and the buffers lent to each reading
pub record Case : Type 0 where
  pub depth : ℕ
  pub texts : List (List ℕ)
  pub archive : List ℕ
  pub file : ℕ
  pub bounds : Bounds
  pub name : List ℕ
  pub class : List ℕ
  pub contents : List ℕ
  pub bodies : List ℕ
  pub contents' : List ℕ
  pub bodies' : List ℕ

module _ (c : Case) where
  abbrev pub query : Query
  query = query_within c.bounds c.name c.class

  abbrev pub file_name : List ℕ
  file_name = (get_or (files_of c.archive) c.file (record { name = []; body = [] })).name

  -- with the file on the archive, and with it struck off
  abbrev pub with_file : Outcome
  with_file = reading c.depth c.texts c.archive c.contents c.bodies

  abbrev pub without_file : Outcome
  without_file = reading c.depth c.texts (struck_off c.file c.archive) c.contents' c.bodies'

  pub record Given : Type 0 where
    pub file_on_it : c.file < length (files_of c.archive)
    pub within_limits : (k : ℕ) → query ≡ past_limit k → ⊥
    pub long_enough : too_short c.contents c.bodies ≡ false
    pub long_enough' : too_short c.contents' c.bodies' ≡ false
    pub is_read : is_accepted with_file.answer ≡ true

  -- the query looked up in what each reading left, and the answer: bytes or none
  abbrev pub lookup : Outcome → Reply Place
  lookup o = get_bytes_within c.bounds o.contents o.bodies c.name c.class

  abbrev pub looked_up : Outcome → Option (List ℕ)
  looked_up o = answer_in o.bodies (lookup o)

  -- the answer that the definition gives for the texts and an archive
  abbrev pub defined : List ℕ → Option (List ℕ)
  defined archive = answer_of (plain (read_entries c.depth c.texts archive)) query

  pub record ThirdTerm : Type 0 where
    pub is_read_too : is_accepted without_file.answer ≡ true
    -- neither lookup is refused, and each answers as the definition does
    pub first_answers : (k : ℕ) → lookup with_file ≡ refused k → ⊥
    pub second_answers : (k : ℕ) → lookup without_file ≡ refused k → ⊥
    pub first_answer : looked_up with_file ≡ defined c.archive
    pub second_answer : looked_up without_file ≡ defined (struck_off c.file c.archive)
    -- they are equal exactly when no entry that came through that file beats the rest; or one does, some entry beats the rest once all that came
    -- through that file are left out, and both carry the very same bytes
    pub equal_just_when : (looked_up with_file ≡ looked_up without_file)
        ↔ (NoneThroughBeats (through_file file_name) (read_entries c.depth c.texts c.archive) query
        ⊎ SameBytesWithout (through_file file_name) (read_entries c.depth c.texts c.archive) query)
