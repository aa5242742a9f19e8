-- A query asked of the texts of a reading and their files, and what getres tells of it.
use Rattle.std.specs.Prelude.{List, ◌≡◌, ℕ, Result, Option as Optional}
use Rattle.std.proofs.Math.Option.{Option, some, none}
use Rattle.definition.specs.Lists.{zeroes}
use Rattle.definition.specs.Limits.{contents_words, body_bytes}
use Rattle.definition.specs.Text.{Entry}
use Rattle.definition.specs.Query.{Query, positions, malformed, past_limit, query_of}
use Rattle.definition.specs.Reading.{Answer, accepted, refused, reading, plain, read_entries}
use Rattle.definition.specs.Lookup.{Reply, refused as refusedLookup, Place, get_bytes, answer_of}
use Rattle.refusal.specs.declared.Refusal.{Refusal}
use Rattle.lookup.specs.declared.Place.{Place as Found}
use Rattle.lookup.specs.Replies.{replied}
use Rattle.showing.specs.Showing.{Shown, value, no_value, refused_by}
use Rattle.reports.specs.Telling.{Told, told}

-- ---- Texts read, and the query looked up in them

-- what refuses the reading refuses the query
unfoldable pub after_reading : Answer → Reply Place → Reply Place
after_reading (accepted entries opens) r = r
after_reading (refused k) r = refusedLookup k

-- the answer, and both buffers, which are the reading's
pub record LooksUp (depth : ℕ) (texts : List (List ℕ)) (archive name class contents bodies contents' bodies' : List ℕ) (r : Result (Optional Found) Refusal) : Type 0 where
  pub answers : replied r ≡ after_reading (reading depth texts archive contents bodies).answer (get_bytes contents' bodies' name class)
  pub contents_left : contents' ≡ (reading depth texts archive contents bodies).contents
  pub bodies_left : bodies' ≡ (reading depth texts archive contents bodies).bodies

-- ---- What the definition answers

abbrev pub of_bytes : Option (List ℕ) → Shown
of_bytes (some v) = value v
of_bytes none = no_value

unfoldable pub of_query : List Entry → Query → Shown
of_query es (positions qs) = of_bytes (answer_of es (positions qs))
of_query es malformed = no_value
of_query es (past_limit k) = refused_by k

unfoldable pub of_reading : Answer → Shown → Shown
of_reading (accepted entries opens) shows = shows
of_reading (refused k) shows = refused_by k

-- of a depth, texts, an archive, a query's name and class, and the buffers lent to the reading
unfoldable pub answer_shown : ℕ → List (List ℕ) → List ℕ → List ℕ → List ℕ → List ℕ → List ℕ → Shown
answer_shown depth texts archive name class contents bodies =
    of_reading (reading depth texts archive contents bodies).answer (of_query (plain (read_entries depth texts archive)) (query_of name class))

-- ---- What is told

-- of a depth, texts, an archive, and a query's name and class
unfoldable pub answer_told : ℕ → List (List ℕ) → List ℕ → List ℕ → List ℕ → Told
answer_told depth texts archive name class = told (answer_shown depth texts archive name class (zeroes contents_words) (zeroes body_bytes))
