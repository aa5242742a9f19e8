-- A line of the common form: what the code answers of it, and what it stores. proofs/Entries.antt shows that the line is the definition's.
use Rattle.std.specs.Prelude.{Option, Some, None, List, ◌++◌, ℕ, ◌+◌, ◌-◌, ltb, length, drop, if◌then◌else◌}
use Rattle.std.proofs.Math.Seq.{paste}
use Rattle.definition.specs.Limits.{most_parts}
use Rattle.definition.specs.Text.{Entry, after_blanks}
use Rattle.definition.specs.Image.{key_of}
use Rattle.definition.specs.Reading.{size_of}
use Rattle.components.specs.Parts.{parts_of}
use Rattle.values.specs.Decoded.{decoded_at, rest_at}
use Rattle.plain_keys.specs.Keys.{plain_key}
use Rattle.plain_keys.specs.declared.Key.{Key}
use Rattle.plain_entries.specs.declared.EntryLine.{EntryLine}

-- the value of the line at the front of a text begins behind the key's `:`, which stands at `colon`, and blanks
abbrev pub value_text : List ℕ → ℕ → List ℕ
value_text t colon = after_blanks (drop (colon + 1) t)

abbrev pub entry_of : List ℕ → ℕ → Entry
entry_of t colon = record { parts = parts_of t; value = decoded_at (value_text t colon) }

-- the text after the line
abbrev pub after_entry : List ℕ → ℕ → List ℕ
after_entry t colon = drop 1 (rest_at (value_text t colon))

-- the line with a key; None without one, or with too many parts
unfoldable pub line_of : List ℕ → Option Key → Option EntryLine
line_of t None = None
line_of t (Some k) =
    if ltb most_parts k.count then None else
    Some (record {
      taken = length t - length (after_entry t k.end);
      key = length (key_of (entry_of t k.end).parts);
      value = length (entry_of t k.end).value;
    })

-- the store after it; where there is no line nothing changes
unfoldable pub stored_of : List ℕ → List ℕ → ℕ → Option Key → List ℕ
stored_of t store used None = store
stored_of t store used (Some k) =
    if ltb most_parts k.count then store else
    paste store used (key_of (entry_of t k.end).parts ++ (entry_of t k.end).value) (size_of (entry_of t k.end))

-- the line at the front of a text, if it is of the common form
abbrev pub plain_line : List ℕ → Option EntryLine
plain_line t = line_of t (plain_key t)

abbrev pub with_line : List ℕ → List ℕ → ℕ → List ℕ
with_line t store used = stored_of t store used (plain_key t)
