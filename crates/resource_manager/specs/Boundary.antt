-- What the calls for C give and leave, by the codes of their answers.
use Rattle.std.specs.Prelude.{Bool, not, List, ◌≡◌, ℕ, ◌≤◌, eqb, length}
use Rattle.definition.specs.Reading.{Outcome}
use Rattle.definition.specs.ThirdTerm.{Case, with_file, without_file, lookup, Given, ThirdTerm}
use Rattle.definition.specs.Writing.{Filled}
use Rattle.definition.specs.Adding.{Addition}
use Rattle.definition.specs.Board.{Done}
use Rattle.compare.specs.Comparing.{Left, both_read, comparing}
use Rattle.codes.specs.Codes.{read_code, place_code, Numbers, numbers, comparison_numbers, write_code, add_code}
use Rattle.board_codes.specs.Codes.{call_code}

-- a flag is no if it is 0, else yes
abbrev pub yes : ℕ → Bool
yes n = not (eqb n 0)

-- ---- Readings

-- a call's number and the two buffers afterwards
pub record Crossing : Type 0 where
  pub code : ℕ
  pub contents : List ℕ
  pub bodies : List ℕ

abbrev pub crossing : ℕ → List ℕ → List ℕ → Crossing
crossing n c b = record { code = n; contents = c; bodies = b }

abbrev pub crossed : Outcome → Crossing
crossed o = crossing (read_code o.answer) o.contents o.bodies

-- ---- Writings

-- a call's number and the buffer afterwards
pub record Filling : Type 0 where
  pub code : ℕ
  pub buffer : List ℕ

abbrev pub filling : ℕ → List ℕ → Filling
filling n t = record { code = n; buffer = t }

abbrev pub fill_code : Filled → Filling
fill_code f = filling (write_code f.answer) f.buffer

-- ---- Additions

abbrev pub add_crossed : Addition → Crossing
add_crossed a = crossing (add_code a.answer) a.contents a.bodies

-- ---- A board: its words and bytes stand where an image's contents and bodies do

abbrev pub board_crossed : Done → Crossing
board_crossed d = crossing (call_code d.answer) d.board.words d.board.bytes

-- ---- The comparing call

-- a call's numbers, and each lent buffer afterwards
pub record Compares : Type 0 where
  pub numbers : Numbers
  pub struck : List ℕ
  pub contents : List ℕ
  pub bodies : List ℕ
  pub contents' : List ℕ
  pub bodies' : List ℕ

abbrev pub compares : Numbers → List ℕ → List ℕ → List ℕ → List ℕ → List ℕ → Compares
compares n s c b c' b' = record { numbers = n; struck = s; contents = c; bodies = b; contents' = c'; bodies' = b' }

abbrev pub carried : Left → ℕ → ℕ → Compares
carried l w o = compares (comparison_numbers l.answer w o) l.struck l.contents l.bodies l.contents' l.bodies'

module _ (c : Case) (struck : List ℕ) (with_it without : ℕ) where
  -- the third term, of a call that gives and leaves these: both readings and both lookups are made, 0 with the numbers of both
  -- lookups, and they are as the term says
  pub record CarriesTerm (after : Compares) : Type 0 where
    pub made : after ≡ carried (both_read c struck) with_it without
    pub both : after.numbers ≡ numbers 0 (place_code (lookup c (with_file c))) (place_code (lookup c (without_file c)))
    pub term : ThirdTerm c

  -- what the call promises: its number and all that is lent, of any arguments; and the term, with nothing given beyond the term's own
  -- words and room for the archive
  pub record Crosses (after : Compares) : Type 0 where
    pub equals : after ≡ carried (comparing c struck) with_it without
    pub third_term : Given c → length c.archive ≤ length struck → CarriesTerm after
