-- The comparing call: a query looked up in what is read with a file on the archive (document 01's shelf), and with it struck off.
use Rattle.std.specs.Prelude.{List, ◌≡◌, ℕ, ◌≤◌, ltb, length, if◌then◌else◌, Option, Result}
use Rattle.std.proofs.Math.Seq.{paste}
use Rattle.definition.specs.Archive.{files_of, struck_off}
use Rattle.definition.specs.Image.{too_short}
use Rattle.definition.specs.Reading.{Answer, accepted, refused}
use Rattle.definition.specs.Query.{shell}
use Rattle.definition.specs.ThirdTerm.{Case, with_file, without_file, lookup, Given, ThirdTerm}
use Rattle.refusal.specs.declared.Refusal.{Refusal}
use Rattle.comparison.specs.declared.Both.{Both}
use Rattle.comparison.specs.Answering.{Comparison, both, no_file, refused_by, answering, compared}

-- the answer, and each lent buffer afterwards
pub record Left : Type 0 where
  pub answer : Comparison
  pub struck : List ℕ
  pub contents : List ℕ
  pub bodies : List ℕ
  pub contents' : List ℕ
  pub bodies' : List ℕ

module _ (c : Case) (struck : List ℕ) where
  -- 1 for less room than the archive takes, or for short buffers of the second reading; nothing has changed
  abbrev pub no_room : Left
  no_room = record { answer = refused_by 1; struck = struck; contents = c.contents; bodies = c.bodies; contents' = c.contents'; bodies' = c.bodies' }

  -- the first reading is done, or refused: by 1 for its own buffers, or by 2 to 7 or 15
  abbrev pub only_first : Comparison → Left
  only_first a = record { answer = a; struck = struck; contents = (with_file c).contents; bodies = (with_file c).bodies; contents' = c.contents'; bodies' = c.bodies' }

  abbrev pub both_read : Left
  both_read = record {
    answer = answering (lookup c (with_file c)) (lookup c (without_file c)) (without_file c).answer;
    struck = paste struck 0 (struck_off c.file c.archive) (length (struck_off c.file c.archive));
    contents = (with_file c).contents;
    bodies = (with_file c).bodies;
    contents' = (without_file c).contents;
    bodies' = (without_file c).bodies;
  }

  unfoldable pub after_first : Answer → Left
  after_first (accepted entries opens) = if ltb c.file (length (files_of c.archive)) then both_read else only_first no_file
  after_first (refused k) = only_first (refused_by k)

  unfoldable pub comparing : Left
  comparing =
      if ltb (length struck) (length c.archive) then no_room else
      if too_short c.contents' c.bodies' then no_room else
      after_first (with_file c).answer

  -- the third term, of a call that leaves these: both readings and both lookups are made, the answer is both lookups' and the
  -- second reading's, and they are as the term says
  pub record Term (after : Left) : Type 0 where
    pub made : after ≡ both_read
    pub answers : after.answer ≡ both (lookup c (with_file c)) (lookup c (without_file c)) (without_file c).answer
    pub term : ThirdTerm c

  -- what the call promises: its answer and every buffer, of any arguments, refusals included; and the term, with nothing given
  -- beyond the term's own words and room for the archive
  pub record Promise (after : Left) : Type 0 where
    pub equals : after ≡ comparing
    pub third_term : Given c → length c.archive ≤ length struck → Term after

abbrev pub leaving : Result (Option Both) Refusal → List ℕ → List ℕ → List ℕ → List ℕ → List ℕ → Left
leaving r s c b c' b' = record { answer = compared r; struck = s; contents = c; bodies = b; contents' = c'; bodies' = b' }

abbrev pub asked : ℕ → List (List ℕ) → List ℕ → ℕ → List ℕ → List ℕ → List ℕ → List ℕ → List ℕ → List ℕ → Case
asked depth texts archive file name class contents bodies contents' bodies' = record {
  depth = depth;
  texts = texts;
  archive = archive;
  file = file;
  bounds = shell;
  name = name;
  class = class;
  contents = contents;
  bodies = bodies;
  contents' = contents';
  bodies' = bodies';
}
