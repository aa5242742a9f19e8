-- Writing a database out (document 02 (iv)): the text of a list of entries, the call that writes an image's, and what is claimed of it.
use Rattle.std.specs.Prelude.{Bool, true, false, not, ◌↔◌, ◌≡◌, ℕ, ◌≤◌, eqb, ltb, length, drop, if◌then◌else◌}
use mathlib.Core.List.{List, [], ◌∷◌, ◌++◌, flatten, map}
use Rattle.definition.specs.Lists.{ascii}
use Rattle.definition.specs.Limits.{row_words, written_bytes}
use Rattle.definition.specs.Bytes.{newline, backslash, is_blank}
use Rattle.definition.specs.Archive.{laid_out}
use Rattle.definition.specs.Text.{Entry}
use Rattle.definition.specs.Image.{key_of, Sourced, all_from, image_contents, image_bodies, too_short, rows_by, origins_in, entries_in, with_origins, is_image_by, is_image}
use Rattle.definition.specs.Reading.{Outcome, outcome, accepted, too_long, too_deep, reading}

-- ---- The text

-- a backslash is doubled and a newline is `\n`; all other bytes are plain, zero bytes too
unfoldable pub escaped : ℕ → List ℕ
escaped c =
    if eqb c backslash then ascii "\\\\" else
    if eqb c newline then ascii "\\n" else
    c ∷ []

unfoldable pub begins_blank : List ℕ → Bool
begins_blank [] = false
begins_blank (c ∷ v) = is_blank c

-- a space or tab that begins the value gets a backslash
unfoldable pub value_text : List ℕ → List ℕ
value_text v = (if begins_blank v then backslash ∷ [] else []) ++ flatten (map escaped v)

-- key, `: `, value, newline
unfoldable pub entry_text : Entry → List ℕ
entry_text e = key_of e.parts ++ ascii ": " ++ value_text e.value ++ newline ∷ []

unfoldable pub text_of : List Entry → List ℕ
text_of es = flatten (map entry_text es)

-- the entries that an image holds, with rows of that width: the origins are left behind (document 02 (viii))
abbrev pub entries_by : ℕ → List ℕ → List ℕ → List Entry
entries_by width contents bodies = entries_in (rows_by width contents) bodies

abbrev pub entries_of_image : List ℕ → List ℕ → List Entry
entries_of_image contents bodies = entries_by row_words contents bodies

-- the same with their origins
abbrev pub sources_of_image : List ℕ → List ℕ → List Sourced
sources_of_image contents bodies = with_origins (entries_of_image contents bodies) (origins_in contents)

-- two images hold the same entries, wherever their lines stand: the fourth words are not compared (document 02 (viii))
abbrev pub SameEntries : List ℕ → List ℕ → List ℕ → List ℕ → Type 0
SameEntries contents bodies contents' bodies' = entries_of_image contents bodies ≡ entries_of_image contents' bodies'

-- the text of an image's entries
abbrev pub image_text : List ℕ → List ℕ → List ℕ
image_text contents bodies = text_of (entries_of_image contents bodies)

-- ---- The call

pub data Extent : Type 0 where
  written : ℕ → Extent  -- the text's length
  refused : ℕ → Extent  -- a number of the table

-- a call's answer and the lent buffer afterwards
pub record Filled : Type 0 where
  pub answer : Extent
  pub buffer : List ℕ

abbrev pub filled : Extent → List ℕ → Filled
filled a buffer = record { answer = a; buffer = buffer }

-- a text at the front of a lent buffer, whose bytes past it stay; number k if the buffer is shorter than the text, and nothing changes
unfoldable pub put_into : ℕ → List ℕ → List ℕ → Filled
put_into k text buffer =
    if ltb (length buffer) (length text) then filled (refused k) buffer else
    filled (written (length text)) (text ++ drop (length text) buffer)

-- 8, 11, with rows of that width
unfoldable pub writing_by : ℕ → List ℕ → List ℕ → List ℕ → Filled
writing_by width contents bodies buffer =
    if not (is_image_by width contents bodies) then filled (refused 8) buffer else
    put_into 11 (text_of (entries_by width contents bodies)) buffer

abbrev pub writing : List ℕ → List ℕ → List ℕ → Filled
writing contents bodies buffer = writing_by row_words contents bodies buffer

-- ---- What is claimed

-- a reading of an image's text at any depth, if within limit 2, opens nothing and leaves an image of the same entries, zero elsewhere; their
-- lines stand in the main text
abbrev pub RoundTrip : Type 0
RoundTrip =
    (depth : ℕ) (contents bodies archive lentContents lentBodies : List ℕ)
    → is_image contents bodies ≡ true
    → too_long (image_text contents bodies) ≡ false
    → laid_out archive ≡ true
    → too_deep depth ≡ false
    → too_short lentContents lentBodies ≡ false
    → let es = entries_of_image contents bodies in
    let c = image_contents (all_from 0 es) lentContents in
    let b = image_bodies es lentBodies in
    (reading depth (image_text contents bodies ∷ []) archive lentContents lentBodies ≡ outcome (accepted (length es) 0) c b)
    × (is_image c b ≡ true)
    × SameEntries c b contents bodies

-- two images have the same text exactly when they hold the same entries
abbrev pub SameText : Type 0
SameText =
    (contents bodies contents' bodies' : List ℕ)
    → is_image contents bodies ≡ true
    → is_image contents' bodies' ≡ true
    → (image_text contents bodies ≡ image_text contents' bodies') ↔ SameEntries contents bodies contents' bodies'

-- no image's text is longer than `written_bytes`, and some image's is just that long
abbrev pub LongestText : Type 0
LongestText =
    ((contents bodies : List ℕ) → is_image contents bodies ≡ true → length (image_text contents bodies) ≤ written_bytes)
    × ((contents : List ℕ) × (bodies : List ℕ) × (is_image contents bodies ≡ true) × (length (image_text contents bodies) ≡ written_bytes))
