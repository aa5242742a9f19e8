-- The numbers of document 01's refusals.
use Rattle.std.specs.Prelude.{ℕ}
use Rattle.refusal.specs.declared.Refusal.{Refusal}
use Rattle.refusal.specs.declared.Refusal.TheVariants.{ShortBuffers, LongText, NotAnArchive, ManyOpens, ManyParts, ManyEntries, FullBodies, NotAnImage, LongQuery, ManyNames, ShortText, NotOneEntry, FullBoard, PackNumber, GreatDepth}

abbrev pub number : Refusal → ℕ
number ShortBuffers = 1
number LongText = 2
number NotAnArchive = 3
number ManyOpens = 4
number ManyParts = 5
number ManyEntries = 6
number FullBodies = 7
number NotAnImage = 8
number LongQuery = 9
number ManyNames = 10
number ShortText = 11
number NotOneEntry = 12
number FullBoard = 13
number PackNumber = 14
number GreatDepth = 15
