-- What the call for all watched answers gives and leaves, by what the call for one does.
use Rattle.std.specs.Prelude.{List, ℕ, ◌*◌, length, get_or}
use Rattle.definition.specs.Limits.{most_queries}
use Rattle.definition.specs.Lookup.{Reply, given, no_value, refused}
use Rattle.definition.specs.Board.{Found, each}
use Rattle.codes.specs.Codes.{from16, none_code}
use Rattle.board_codes.specs.Codes.{Answering, answer_numbers}

-- the numbers of answer q; one with no query gets none
abbrev pub numbers_at : List (Reply Found) → List ℕ → ℕ → Answering
numbers_at rs packs q = answer_numbers (get_or rs q no_value) (get_or packs q 0)

-- 32 of each, with these pack numbers lent
abbrev pub answers_of : List (Reply Found) → List ℕ → List ℕ
answers_of rs packs = each (λ q. (numbers_at rs packs q).code) 0 most_queries

abbrev pub packs_of : List (Reply Found) → List ℕ → List ℕ
packs_of rs packs = each (λ q. (numbers_at rs packs q).pack) 0 most_queries

-- a call's number, and both lent arrays afterwards
pub record AllAnswered : Type 0 where
  pub code : ℕ
  pub answers : List ℕ
  pub packs : List ℕ

abbrev pub all_answered : ℕ → List ℕ → List ℕ → AllAnswered
all_answered n answers packs = record { code = n; answers = answers; packs = packs }

-- the number of watched queries from bit 16 on, or that of the refusal, which leaves both arrays as they were
abbrev pub all_numbers : Reply (List (Reply Found)) → List ℕ → List ℕ → AllAnswered
all_numbers (given rs) answers packs = all_answered (from16 * length rs) (answers_of rs packs) (packs_of rs packs)
all_numbers no_value answers packs = all_answered none_code answers packs
all_numbers (refused k) answers packs = all_answered k answers packs
