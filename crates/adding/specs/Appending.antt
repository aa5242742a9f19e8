-- An entry behind those of an image: what the code asks and answers.
use Rattle.std.specs.Prelude.{Bool, List, ◌≡◌, ℕ, ◌+◌, ◌≤◌, ◌<◌, leb, ltb, length, if◌then◌else◌, Option, Some, None, Result, Ok, Err}
use Rattle.definition.specs.Limits.{most_entries, most_parts, body_bytes, contents_words}
use Rattle.definition.specs.Image.{key_of, count_of, used_of}
use Rattle.definition.specs.Lookup.{Reply, given, refused}
use Rattle.components.specs.Parts.{parts_of, is_verbatim}
use Rattle.values.specs.Decoded.{decoded_at}
use Rattle.refusal.specs.declared.Refusal.{Refusal}
use Rattle.refusal.specs.declared.Refusal.TheVariants.{ManyParts, ManyEntries, FullBodies}
use Rattle.refusal.specs.Numbers.{number}

-- what refuses an entry, if it does not fit
unfoldable pub refusal_of : ℕ → ℕ → ℕ → ℕ → ℕ → Option Refusal
refusal_of count size len entries used =
    if ltb most_parts count then Some ManyParts else
    if leb most_entries entries then Some ManyEntries else
    if ltb body_bytes (used + (size + len)) then Some FullBodies else None

abbrev pub said : Result (Unit {0}) Refusal → Option Refusal
said (Ok o) = None
said (Err k) = Some k

-- an image has room for the entry of a line t, whose value's text is u
pub record Fitting (t u : List ℕ) (size : ℕ) (verbatim : Bool) (len entries used : ℕ) (contents bodies : List ℕ) : Type 0 where
  pub key : size ≡ length (key_of (parts_of t))
  pub some_key : 0 < size
  pub is_text : verbatim ≡ is_verbatim t
  pub value : len ≡ length (decoded_at u)
  pub count : entries ≡ count_of contents
  pub bytes : used ≡ used_of contents
  pub entry_room : entries < most_entries
  pub byte_room : used + (size + len) ≤ body_bytes
  pub contents_long : contents_words ≤ length contents
  pub bodies_long : body_bytes ≤ length bodies

-- the answer in the definition's words
abbrev pub replied : Result ℕ Refusal → Reply ℕ
replied (Ok i) = given i
replied (Err k) = refused (number k)
