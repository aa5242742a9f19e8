-- What getres tells of the entries that align with a query, of the texts of a reading and their files.
use Rattle.std.specs.Prelude.{List, [], ◌∷◌, ℕ, ◌+◌, ◌*◌}
use Rattle.definition.specs.Lists.{ascii, zeroes}
use Rattle.definition.specs.Limits.{contents_words, body_bytes, most_entries}
use Rattle.definition.specs.Archive.{File, files_of}
use Rattle.definition.specs.Image.{Sourced, bare}
use Rattle.definition.specs.Query.{Query, positions, malformed, past_limit, query_of}
use Rattle.definition.specs.Reading.{Answer, accepted, refused, reading, sourced, read_entries}
use Rattle.definition.specs.Adding.{numbers_of}
use Rattle.reports.specs.Telling.{Told, output, trouble, refused as refusalTold}
use Rattle.walk_lines.specs.Lines.{lines_at}

-- no list is longer
abbrev pub listed_bytes : ℕ
listed_bytes = 4 * body_bytes + 122 * most_entries

-- a line for each number, lowest first
unfoldable pub numbers_told : List File → List ℕ → List Sourced → Told
numbers_told fs [] xs = trouble 1 (ascii "getres: no entry\n")
numbers_told fs (i ∷ is) xs = output 0 (lines_at fs xs (i ∷ is))

-- by the files of the archive
unfoldable pub query_told : List File → Query → List Sourced → Told
query_told fs (positions qs) xs = numbers_told fs (numbers_of (positions qs) (bare xs)) xs
query_told fs malformed xs = numbers_told fs (numbers_of malformed (bare xs)) xs
query_told fs (past_limit k) xs = refusalTold k

-- what refuses the reading refuses the query
unfoldable pub read_told : Answer → Told → Told
read_told (accepted n opens) t = t
read_told (refused k) t = refusalTold k

-- of a depth, texts, an archive, and a query's name and class
unfoldable pub list_told : ℕ → List (List ℕ) → List ℕ → List ℕ → List ℕ → Told
list_told depth texts archive name class =
    read_told (reading depth texts archive (zeroes contents_words) (zeroes body_bytes)).answer (query_told (files_of archive) (query_of name class) (sourced (files_of archive) (read_entries depth texts archive)))
