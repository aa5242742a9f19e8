-- The answers of a board's calls as numbers of 64 bits: a status in the low 16 bits, and what goes with 0 above it.
use Rattle.std.specs.Prelude.{ℕ, ◌+◌, ◌*◌, ◌≤◌, ◌<◌, Option, IfSome, Result, IfOk}
use Rattle.definition.specs.Limits.{body_bytes, most_queries}
use Rattle.definition.specs.Lookup.{Reply, given, no_value, refused}
use Rattle.definition.specs.Board.{Found}
use Rattle.codes.specs.Codes.{from16, from32, none_code}
use Rattle.refusal.specs.declared.Refusal.{Refusal}
use Rattle.board_answer.specs.declared.Found as answer

-- the number of a query from bit 16 on, 0 for a pack that arrived or left, or the number of the refusal
abbrev pub call_code : Reply ℕ → ℕ
call_code (given n) = from16 * n
call_code no_value = none_code
call_code (refused k) = k

-- the number of a query, so that its code fits
abbrev pub Numbered : Result ℕ Refusal → Type 0
Numbered r = IfOk r (λ n. n < most_queries)

-- ---- Watched answers

-- a call's number, and the lent pack number afterwards
pub record Answering : Type 0 where
  pub code : ℕ
  pub pack : ℕ

abbrev pub answering : ℕ → ℕ → Answering
answering n p = record { code = n; pack = p }

-- the place in bits 16 to 31 and the length from bit 32 on, 65535 for none, or the number of the refusal; only a value changes what is lent
abbrev pub answer_numbers : Reply Found → ℕ → Answering
answer_numbers (given f) lent = answering (from16 * f.place.start + from32 * f.place.length) f.pack
answer_numbers no_value lent = answering none_code lent
answer_numbers (refused k) lent = answering k lent

-- a place in a pack's bodies, so that its code fits
abbrev pub Placed : Result (Option answer.Found) Refusal → Type 0
Placed r = IfOk r (λ o. IfSome o (λ f. f.place.start + f.place.size ≤ body_bytes))

-- ---- The report

-- bit q of the upper 32 for query q, or the number of the refusal
abbrev pub report_code : Reply ℕ → ℕ
report_code (given bits) = from32 * bits
report_code no_value = none_code
report_code (refused k) = k
