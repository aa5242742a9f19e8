-- What getres tells of the database that the texts of a reading and their files give, written out.
use Rattle.std.specs.Prelude.{List, ℕ}
use Rattle.definition.specs.Lists.{zeroes}
use Rattle.definition.specs.Limits.{contents_words, body_bytes}
use Rattle.definition.specs.Text.{Entry}
use Rattle.definition.specs.Reading.{Answer, accepted, refused, reading, plain, read_entries}
use Rattle.definition.specs.Writing.{text_of}
use Rattle.reports.specs.Telling.{Told, output, refused as refusalTold}

-- of an answer of the reading call, and the entries read
unfoldable pub entries_told : Answer → List Entry → Told
entries_told (accepted n opens) es = output 0 (text_of es)
entries_told (refused k) es = refusalTold k

-- of a depth, texts and an archive
unfoldable pub database_told : ℕ → List (List ℕ) → List ℕ → Told
database_told depth texts archive = entries_told (reading depth texts archive (zeroes contents_words) (zeroes body_bytes)).answer (plain (read_entries depth texts archive))
