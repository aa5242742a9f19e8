-- The comparing call's answer, from those of its lookups and of its second reading.
use Rattle.std.specs.Prelude.{ℕ, Option, Some, None, Result, Ok, Err}
use Rattle.definition.specs.Reading.{Answer}
use Rattle.definition.specs.Lookup.{Reply, given, no_value, refused as refusedLookup, Place}
use Rattle.lookup.specs.Replies.{replied}
use Rattle.reader.specs.Said.{said}
use Rattle.refusal.specs.Numbers.{number}
use Rattle.refusal.specs.declared.Refusal.{Refusal}
use Rattle.comparison.specs.declared.Both.{Both}

-- both lookups' answers and the second reading's, or no such file, or a number of document 01's table
pub data Comparison : Type 0 where
  both : Reply Place → Reply Place → Answer → Comparison
  no_file : Comparison
  refused_by : ℕ → Comparison

-- 9 and 10 refuse the call; both lookups are of one query and meet them alike
unfoldable pub answering : Reply Place → Reply Place → Answer → Comparison
answering (given p) b second = both (given p) b second
answering no_value b second = both no_value b second
answering (refusedLookup k) b second = refused_by k

abbrev pub both_of : Both → Comparison
both_of b = both (replied (Ok b.with_it)) (replied b.without) (said b.second)

-- the answer of both lookups
abbrev pub looked : Result Both Refusal → Comparison
looked (Ok b) = both_of b
looked (Err k) = refused_by (number k)

-- and of the call, whose archive may have no such file
abbrev pub compared : Result (Option Both) Refusal → Comparison
compared (Ok (Some b)) = both_of b
compared (Ok None) = no_file
compared (Err k) = refused_by (number k)
