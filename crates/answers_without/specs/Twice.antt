-- What getres tells of the comparing call.
use Rattle.std.specs.Prelude.{List, ℕ}
use Rattle.definition.specs.Lists.{zeroes}
use Rattle.definition.specs.Limits.{archive_bytes, contents_words, body_bytes}
use Rattle.comparison.specs.Answering.{Comparison, both, no_file, refused_by as refusedCall}
use Rattle.compare.specs.Comparing.{Left, asked, comparing}
use Rattle.showing.specs.Showing.{shown_in}
use Rattle.reports.specs.Telling.{Told, refused, both_told, not_among}

-- what the comparing call answers and leaves, told of a file's name
unfoldable pub compared_told : List ℕ → Left → Comparison → Told
compared_told file l (both a b second) = both_told file (shown_in l.bodies a) (shown_in l.bodies' b)
compared_told file l no_file = not_among file
compared_told file l (refusedCall k) = refused k

-- of a depth, texts, an archive, the number of a file on it, the name it was asked for by, and a query's name and class
unfoldable pub twice_told : ℕ → List (List ℕ) → List ℕ → ℕ → List ℕ → List ℕ → List ℕ → Told
twice_told depth texts archive number file name class =
    let l = comparing (asked depth texts archive number name class (zeroes contents_words) (zeroes body_bytes) (zeroes contents_words) (zeroes body_bytes)) (zeroes archive_bytes) in
    compared_told file l l.answer
