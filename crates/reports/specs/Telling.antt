-- What getres writes for an answer, to which of its two outputs, and its status.
use Rattle.std.specs.Prelude.{Bool, true, false, List, ◌++◌, ◌≡◌, ℕ, ◌+◌, ◌*◌, if◌then◌else◌}
use Rattle.definition.specs.Lists.{ascii}
use Rattle.definition.specs.Limits.{body_bytes}
use Rattle.printing.specs.Putting.{Appends}
use Rattle.printing.specs.declared.Lines.{Lines}
use Rattle.refusals.specs.Refusals.{refusal_of}
use Rattle.showing.specs.Showing.{Shown, value, no_value, refused_by, line_of, same_shown}
use Rattle.reports.specs.declared.Report.{Report}
use Rattle.reports.specs.declared.Status.{Status}
use Rattle.reports.specs.declared.Status.TheVariants.{Yes, No, Trouble}

-- the bytes, the status, and whether they go to standard error
pub record Told : Type 0 where
  pub bytes : List ℕ
  pub status : ℕ
  pub wrong : Bool

abbrev pub output : ℕ → List ℕ → Told
output status bytes = record { bytes = bytes; status = status; wrong = false }

abbrev pub trouble : ℕ → List ℕ → Told
trouble status bytes = record { bytes = bytes; status = status; wrong = true }

-- ---- One answer

unfoldable pub refused : ℕ → Told
refused k = trouble 2 (ascii "getres: " ++ refusal_of k ++ ascii "\n")

unfoldable pub told : Shown → Told
told (value v) = output 0 (v ++ ascii "\n")
told no_value = trouble 1 (ascii "getres: no value\n")
told (refused_by k) = refused k

-- ---- Two answers

-- with a file and without it
unfoldable pub both_told : List ℕ → Shown → Shown → Told
both_told file a b =
    if same_shown a b
    then output 0 (line_of (ascii "with ") file a ++ line_of (ascii "without ") file b ++ ascii "equal\n")
    else output 1 (line_of (ascii "with ") file a ++ line_of (ascii "without ") file b ++ ascii "different\n")

unfoldable pub not_among : List ℕ → Told
not_among file = trouble 2 (ascii "getres: " ++ file ++ ascii ": not among the files\n")

-- ---- What a call leaves

-- the longest argument that is taken
abbrev pub argument_bytes : ℕ
argument_bytes = 4096

abbrev pub report_bytes : ℕ
report_bytes = 2 * (body_bytes + argument_bytes) + 64

-- the exit status, which is `as u8` in the code
abbrev pub status_number : Status → ℕ
status_number Yes = 0
status_number No = 1
status_number Trouble = 2

-- the bytes stand behind what was written, and all else is as it was
pub record Reports (t : Told) (w w' : Lines) (r : Report) : Type 0 where
  pub puts : Appends t.bytes w w'
  pub status : status_number r.status ≡ t.status
  pub wrong : r.wrong ≡ t.wrong
