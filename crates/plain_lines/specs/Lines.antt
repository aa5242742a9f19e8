-- Lines of the common form, one after another: how far the code goes, and what it leaves. proofs/Lines.antt shows that reading all of a
-- text comes to the same as reading the rest from there.
use Rattle.std.specs.Prelude.{Option, Some, None, Bool, ◌&&◌, List, ℕ, zero, suc, ◌+◌, ◌-◌, eqb, ltb, leb, length, drop, get_or, if◌then◌else◌}
use Rattle.definition.specs.Lists.{take_while}
use Rattle.definition.specs.Limits.{most_entries}
use Rattle.definition.specs.Bytes.{newline, exclamation, not_newline}
use Rattle.image.specs.Rows.{with_row}
use Rattle.plain_entries.specs.Entries.{plain_line, with_line}
use Rattle.plain_entries.specs.declared.EntryLine.{EntryLine}
use Rattle.plain_lines.specs.declared.Ahead.{Ahead}

-- how many bytes an empty line takes, or a comment up to its newline; 0 for any other line
unfoldable pub over_at : List ℕ → ℕ
over_at t =
    if eqb (get_or t 0 0) newline then 1 else
    if eqb (get_or t 0 0) exclamation then length (take_while not_newline t) else
    0

-- the same as an answer
unfoldable pub passed_at : List ℕ → Option ℕ
passed_at t = if eqb (over_at t) 0 then None else Some (over_at t)

-- how far lines are read, and the buffers after them
pub record Reached : Type 0 where
  pub ahead : Ahead
  pub words : List ℕ
  pub bytes : List ℕ

abbrev pub reached : Ahead → List ℕ → List ℕ → Reached
reached r c b = record { ahead = r; words = c; bytes = b }

abbrev pub to : ℕ → ℕ → ℕ → Ahead
to taken entries used = record { taken = taken; entries = entries; used = used }

-- u's first line is passed over, or the lines end
unfoldable pub over_on : (ℕ → ℕ → ℕ → List ℕ → List ℕ → Reached) → List ℕ → ℕ → ℕ → ℕ → List ℕ → List ℕ → Reached
over_on next u taken entries used c b =
    if eqb (over_at u) 0 then reached (to taken entries used) c b else
    next (taken + over_at u) entries used c b

-- the line at the front of u is stored with its origin, if it is one of the common form
unfoldable pub line_on : ℕ → (ℕ → ℕ → ℕ → List ℕ → List ℕ → Reached) → List ℕ → Option EntryLine → ℕ → ℕ → ℕ → List ℕ → List ℕ → Reached
line_on origin next u None taken entries used c b = over_on next u taken entries used c b
line_on origin next u (Some l) taken entries used c b =
    next (taken + l.taken) (entries + 1) (used + (l.key + l.value))
    (with_row c entries (record { start = used; key_length = l.key; value_length = l.value }) origin) (with_line u b used)

-- the lines of t from `taken` on, n at most, as long as there is an entry left
unfoldable pub lines_from : ℕ → ℕ → List ℕ → ℕ → ℕ → ℕ → List ℕ → List ℕ → Reached
lines_from origin zero t taken entries used c b = reached (to taken entries used) c b
lines_from origin (suc n) t taken entries used c b =
    if leb (length t) taken then reached (to taken entries used) c b else
    if leb most_entries entries then reached (to taken entries used) c b else
    line_on origin (lines_from origin n t) (drop taken t) (plain_line (drop taken t)) taken entries used c b

-- a text that ends with a newline, and surely has room among the bytes that are left
unfoldable pub readable : List ℕ → ℕ → Bool
readable t room = ltb 0 (length t) && (leb (length t) room && eqb (get_or t (length t - 1) 0) newline)

unfoldable pub plain_lines : ℕ → List ℕ → ℕ → ℕ → List ℕ → List ℕ → Reached
plain_lines origin t entries used c b =
    if readable t (length b - used) then lines_from origin (length t) t 0 entries used c b else
    reached (to 0 entries used) c b
